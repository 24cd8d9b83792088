pub mod Answering
pub mod SenderFaults
pub mod RingLine
pub mod CacheLines
pub mod SendLines
pub mod SenderLines
pub mod UnitLines
