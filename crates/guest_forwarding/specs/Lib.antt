pub mod Consumed
pub mod Values
pub mod Carrying
pub mod Forwarding
pub mod Asking
pub mod Laws
