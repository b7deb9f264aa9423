pub mod Lines
pub mod Numbers
