pub mod Sided
pub mod Overlapped
pub mod Told
pub mod Listed
