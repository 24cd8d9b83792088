pub mod LineAnswers
pub mod LogLines
pub mod LogAnswers
pub mod Logs
pub mod LogSteps
pub mod LogLaws
pub mod DumpAnswers
pub mod Tellings
