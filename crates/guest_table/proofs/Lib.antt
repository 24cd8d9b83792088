pub mod PlaceLemmas
pub mod SeparateLemmas
pub mod FaultLemmas
