pub mod Refusals
pub mod Rules
pub mod PlainList
pub mod Books
pub mod Deciding
pub mod Reach
pub mod Reaches
