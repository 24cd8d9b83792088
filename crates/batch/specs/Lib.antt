pub mod Faults
pub mod Ranges
pub mod Detaching
pub mod Refusals
pub mod Laws
