pub mod Tables
pub mod Faults
