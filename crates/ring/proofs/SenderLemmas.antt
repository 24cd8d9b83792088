pub mod Overtaken
pub mod Tries
pub mod GoingOn
pub mod InOrder
pub mod TwoRuns
pub mod ReservesNone
