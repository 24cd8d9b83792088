pub mod Digits
pub mod Slots
pub mod Dumps
