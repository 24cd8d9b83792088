pub mod Regions
pub mod CommandRegions
