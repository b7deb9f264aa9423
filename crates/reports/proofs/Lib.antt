pub mod Append
pub mod Then
pub mod Reports
