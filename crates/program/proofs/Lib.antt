pub mod Explained
pub mod Plans
