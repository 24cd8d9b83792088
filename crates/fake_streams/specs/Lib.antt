pub mod Streams
pub mod Telling
