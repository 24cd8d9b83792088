pub mod Refusals
pub mod Entries
pub mod CacheLines
pub mod SendLines
pub mod SenderLines
pub mod UnitLines
