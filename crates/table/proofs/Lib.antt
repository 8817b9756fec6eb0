pub mod Equal
pub mod Views
pub mod Built
pub mod Steps
pub mod Exits
