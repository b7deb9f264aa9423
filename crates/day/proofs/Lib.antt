pub mod Batches
pub mod EveryEvent
pub mod Filled
pub mod Sample
pub mod TurnExits
