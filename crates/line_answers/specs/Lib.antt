pub mod LineWords
pub mod LineAnswers
pub mod Answering
pub mod AnsweringLaws
pub mod Tellings
