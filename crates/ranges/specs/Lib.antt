pub mod Meanings
pub mod Lines
pub mod Answers
