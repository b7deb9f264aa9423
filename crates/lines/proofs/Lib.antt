pub mod PrintLaws
pub mod Whole
pub mod Examples
