pub mod Packets
pub mod Regions
