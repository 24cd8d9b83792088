pub mod Hints
pub mod ReservedBits
pub mod HintedWords
pub mod Laws
