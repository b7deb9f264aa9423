pub mod Fitting
pub mod Moves
pub mod Products
