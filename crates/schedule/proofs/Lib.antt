pub mod BodyLemmas
pub mod FlagLemmas
pub mod ServedLemmas
