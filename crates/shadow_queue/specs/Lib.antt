pub mod Shadows
pub mod Placing
pub mod Messages
