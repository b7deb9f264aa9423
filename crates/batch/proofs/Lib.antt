mod Calls
mod Batch
