pub mod Positions
pub mod Indexes
pub mod ControlWord
pub mod Laws
