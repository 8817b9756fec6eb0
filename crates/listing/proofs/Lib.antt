pub mod Cuts
pub mod Numbered
pub mod Ranged
pub mod Lined
pub mod Law
