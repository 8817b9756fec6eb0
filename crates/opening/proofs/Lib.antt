pub mod Chunks
pub mod Tests
pub mod Follows
pub mod Found
pub mod Begun
pub mod Walk
pub mod Inspected
