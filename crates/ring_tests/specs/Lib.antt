pub mod Staying
pub mod Holding
