pub mod Earliest
pub mod Walk
