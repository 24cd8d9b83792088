pub mod Queues
pub mod Meetings
pub mod Carried
pub mod Renewing
pub mod FaultNames
