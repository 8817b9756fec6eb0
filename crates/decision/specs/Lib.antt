pub mod Kinds
pub mod Verdicts
pub mod Marks
pub mod Tested
pub mod Words
