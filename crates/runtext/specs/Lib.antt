pub mod Read
pub mod Start
pub mod Uncut
