pub mod Twins
pub mod OneMoreMet
pub mod Wholes
pub mod AllTaken
pub mod Carrying
pub mod Filling
