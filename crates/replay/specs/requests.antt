pub mod Numbers
pub mod Tags
pub mod RingLine
pub mod CacheLines
pub mod SendLines
pub mod SenderLines
pub mod UnitLines
pub mod Whole
