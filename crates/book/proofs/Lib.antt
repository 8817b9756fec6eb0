pub mod Edited
pub mod Scans
