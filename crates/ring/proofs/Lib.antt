pub mod Lists
pub mod TableLemmas
pub mod SenderLemmas
pub mod ConsumerLemmas
pub mod FinishLemmas
pub mod KeeperLemmas
pub mod Crossing
