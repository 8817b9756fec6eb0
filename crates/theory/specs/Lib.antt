pub mod Tables
pub mod Steps
pub mod Holding
pub mod Neighbours
