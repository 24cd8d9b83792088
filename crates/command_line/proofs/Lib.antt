mod Named
mod Walks
mod Leaves
mod Stops
mod Asked
pub mod WorkedWords
