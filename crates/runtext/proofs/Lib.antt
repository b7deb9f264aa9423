pub mod ReadLaws
pub mod Unfilled
pub mod EveryText
pub mod EachLine
pub mod Retired
pub mod Start
pub mod Uncut
pub mod Examples
