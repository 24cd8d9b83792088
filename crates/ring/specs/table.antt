-- The table that all participants share: its rule, and what a seat's steps do.
pub mod Operations
pub mod Rule
pub mod Intents
pub mod StepEvents
pub mod Ports
pub mod OneRun
pub mod Histories
pub mod Keeping
pub mod Meetings
pub use Rattle.atomic_table.specs.Seated.{TableId}
pub use Rattle.atomic_table.specs.Table.{Allows, Final, Joins, Seen, Splits, keeps, opening, step}
pub use Rattle.ring.specs.declared.table.rule.Participant.{Participant}
pub use Operations.*
pub use Rule.*
pub use Intents.*
pub use StepEvents.*
pub use Ports.*
pub use OneRun.*
pub use Histories.*
pub use Keeping.*
pub use Meetings.*
