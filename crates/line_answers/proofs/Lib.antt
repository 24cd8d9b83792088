pub mod WordLemmas
pub mod TextWords
pub mod AnswerLemmas
pub mod TellingLemmas
