pub mod Faults
pub mod Guests
pub mod Answers
pub mod Laws
pub mod Tellings
