pub mod BodyLemmas
pub mod RangeLemmas
pub mod LawLemmas
