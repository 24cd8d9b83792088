pub mod PositionLemmas
pub mod QueueLemmas
pub mod WordLemmas
