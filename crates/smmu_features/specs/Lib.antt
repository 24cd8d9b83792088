pub mod Commands
pub mod IdRegisters
