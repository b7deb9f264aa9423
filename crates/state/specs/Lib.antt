pub mod Numbers
pub mod With
