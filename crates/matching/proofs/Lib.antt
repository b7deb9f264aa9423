pub mod Fills
pub mod Idle
pub mod Passes
