-- What the consumer is, and what its calls do.
pub mod Lending
pub mod Consumers
pub mod Pendings
pub mod Taking
pub mod Completing
pub mod PendingConsumers
pub mod Deferring
pub use Lending.*
pub use Consumers.*
pub use Pendings.*
pub use Taking.*
pub use Completing.*
pub use PendingConsumers.*
pub use Deferring.*
