pub mod WorkedQueues
pub mod WorkedMessages
pub mod WorkedDoubts
pub mod WorkedPlacing
pub mod WorkedOwed
pub mod WorkedRestarts
pub mod WorkedOutcomes
