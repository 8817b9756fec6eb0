pub mod Words
pub mod Endings
