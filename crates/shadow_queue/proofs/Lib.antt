pub mod Shadowing
pub mod Copying
pub mod Counting
