pub mod LineLemmas
pub mod MeaningLemmas
