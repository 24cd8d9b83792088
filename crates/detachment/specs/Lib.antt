pub mod Commands
pub mod Laws
pub mod Order
pub mod Values
pub mod Sending
pub mod Looking
pub mod Changes
