pub mod Slots
pub mod Lines
