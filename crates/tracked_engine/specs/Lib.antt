pub mod TrackedEngines
pub mod TrackedEnds
