pub mod GoingOn
pub mod OneBatch
pub mod LegalWords
pub mod OrderLemmas
pub mod ChangeLemmas
