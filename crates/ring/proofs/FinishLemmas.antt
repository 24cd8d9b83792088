pub mod Ends
pub mod Told
pub mod Settled
