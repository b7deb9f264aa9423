pub mod PartedLaws
pub mod CursorLaws
pub mod NumberLaws
pub mod Examples
