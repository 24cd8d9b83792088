-- The queue by a keeper: what each call does to its run.
pub mod Reserving
pub mod Heads
pub mod Seated
unfoldable pub use Reserving.*
pub use Heads.*
pub use Seated.*
