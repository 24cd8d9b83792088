pub mod WorkedRegisters
pub mod WorkedInvalidations
pub mod WorkedOrders
pub mod WorkedReaching
pub mod WorkedRegions
pub mod WorkedCommands
