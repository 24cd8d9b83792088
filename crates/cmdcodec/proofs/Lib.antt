pub mod FieldLemmas
pub mod ByteLemmas
pub mod SpellingLemmas
pub mod PageRunLemmas
pub mod LawLemmas
pub mod FreeBitLemmas
pub mod ClosingLemmas
