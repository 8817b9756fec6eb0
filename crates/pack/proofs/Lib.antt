pub mod Bytes
pub mod Blocks
pub mod Room
