pub mod Holding
pub mod Values
