-- What senders, their reservations and receipts are, and what their calls do.
pub mod Senders
pub mod Reservations
pub mod Reserving
pub mod Publishing
pub mod GoingOn
pub mod Sending
pub use Rattle.ring.specs.declared.sender.tally.Tally.{Tally}
pub use Rattle.ring.specs.declared.sender.cause.Cause.{Cause}
pub use Rattle.ring.specs.declared.sender.cause.Cause.TheVariants.{TooLong, Exhausted, Closed, Full, Contended}
pub use Rattle.ring.specs.declared.sender.cause.Refused.{Refused}
pub use Senders.*
pub use Reservations.*
pub use Reserving.*
pub use Publishing.*
pub use GoingOn.*
pub use Sending.*
