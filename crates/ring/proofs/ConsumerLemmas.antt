pub mod Acknowledging
pub mod Reads
pub mod Outcomes
pub mod ClosingSyncs
pub mod Settling
pub mod Waited
