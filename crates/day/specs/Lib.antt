pub mod Day
pub mod EveryEvent
pub mod Filled
pub mod Replay
