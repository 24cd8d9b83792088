pub mod Trails
pub mod World
pub mod Allowed
pub mod Delivery
pub mod Laws
pub mod ConsumerLaws
pub mod NewestEvents
