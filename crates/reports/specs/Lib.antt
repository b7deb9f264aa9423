pub mod Log
pub mod Report
