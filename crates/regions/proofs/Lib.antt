pub mod BlockLemmas
pub mod RunLemmas
pub mod CoveredLemmas
pub mod SpaceLemmas
