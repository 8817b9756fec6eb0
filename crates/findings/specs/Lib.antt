pub mod Overlaps
pub mod Hidings
