pub mod WorkedCommands
pub mod WorkedControls
pub mod WorkedIndexes
pub mod WorkedHints
