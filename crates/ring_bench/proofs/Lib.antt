pub mod Legal
pub mod NewSenders
