pub mod Layout
pub mod Flags
pub mod Shadow
pub mod StepLaws
pub mod WordStores
pub mod SenderLaws
