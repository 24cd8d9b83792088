pub mod WorkedRuns
pub mod WorkedEndings
pub mod WorkedSpellings
pub mod WorkedWords
pub mod WorkedDumps
pub mod WorkedRanges
pub mod WorkedAnswers
pub mod WorkedGuests
