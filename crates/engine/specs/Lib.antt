pub mod Settled
pub mod Stops
pub mod Counting
pub mod Units
pub mod QueueUnits
pub mod Engines
pub mod Completions
pub mod Ends
