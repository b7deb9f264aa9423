pub mod Words
pub mod NumbersLaws
pub mod LineLaws
