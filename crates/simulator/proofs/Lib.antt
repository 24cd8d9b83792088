pub mod SeatLemmas
pub mod Looks
pub mod Trying
pub mod Standings
pub mod Stepping
pub mod UnitCalls
