pub mod First
pub mod Tested
