pub mod WriteLaws
pub mod SignedLaws
pub mod Whole
pub mod Examples
