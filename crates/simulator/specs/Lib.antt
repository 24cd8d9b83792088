-- The queue and the caches by their histories: what each call answers, and the state after it.
pub mod Shapes
pub mod queue
pub mod Blocks
pub mod State
pub mod Fills
pub mod Seats
pub mod Steps
pub mod Standing
pub use Shapes.*
pub use Blocks.*
unfoldable pub use Fills.*
pub use Seats.*
unfoldable pub use Steps.*
pub use Standing.*
