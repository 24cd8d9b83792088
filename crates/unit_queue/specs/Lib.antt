pub mod Queued
pub mod Laws
