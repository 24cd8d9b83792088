pub mod requests
pub mod texts
pub mod effects
pub mod Stepping
pub mod ReplayText
pub mod Memory
pub mod Replaying
