pub mod world
pub mod memory
pub mod machine
pub mod Limits
pub mod RingFaults
