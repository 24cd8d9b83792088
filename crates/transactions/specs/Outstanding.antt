-- Transactions that are outstanding, each in a slot.
use Rattle.std.specs.Prelude.{◌≡◌, ◌≤◌, ◌<◌, ℕ, Bool, true, false, ◌||◌, List, length}
use Rattle.std.specs.Prelude.{Option, Some, None, map, slice_get, count_by}
use Rattle.cmdcodec.specs.declared.command.Command.{Command}
use Rattle.cmdcodec.specs.Opcodes.{is_sync}
use Rattle.engine.specs.declared.verdict.Verdict.{Verdict}
use Rattle.engine.specs.declared.verdict.Verdict.TheVariants.{Applied, Stopped, Replaced}
use Rattle.ringcore.specs.declared.world.event.Outcome.TheVariants.{Applied as AsApplied}
use Rattle.ringcore.specs.world.World.{Taken}
use Rattle.caches.specs.Blocks.{IsBlock}
use Rattle.transactions.specs.declared.outstanding.OutstandingTransaction.{OutstandingTransaction}
use Rattle.transactions.specs.declared.transaction.OutstandingCounts.{OutstandingCounts}
use Rattle.transactions.specs.declared.used.Used.{Used}
use Rattle.transactions.specs.declared.used.Used.TheVariants.{Entry, Tables}
use Rattle.transactions.specs.Coverage.{concerns, HasConcerned}
use Rattle.transactions.specs.Since.{HasConcernedSince}

abbrev pub Slots : Type 0
Slots = List (Option OutstandingTransaction)

-- It is covered from then on if the command concerns what it uses.
abbrev pub cover : Command → Option OutstandingTransaction → Option OutstandingTransaction
cover command None = None
cover command (Some o) = Some (record o { covered = o.covered || concerns command o.used })

-- those that are outstanding after a verdict on a command
abbrev pub covered_by : Verdict → Slots → Slots
covered_by (Applied command removed) slots = map (cover command) slots
covered_by (Stopped ill) slots = slots
covered_by (Replaced ill) slots = slots

-- One is outstanding in the slot.
abbrev pub is_outstanding : Option OutstandingTransaction → Bool
is_outstanding None = false
is_outstanding (Some o) = true

-- One is outstanding in the slot, and covered.
abbrev pub is_covered : Option OutstandingTransaction → Bool
is_covered None = false
is_covered (Some o) = o.covered

-- how many are outstanding, and how many of those are covered
pub record AreCountsOf (slots : Slots) (counts : OutstandingCounts) : Type 0 where
  pub outstanding : counts.outstanding ≡ count_by is_outstanding slots
  pub covered : counts.covered ≡ count_by is_covered slots

-- The tag, if an entry is used, is that of a block.
abbrev pub UsesBlock : Used → Type 0
UsesBlock (Entry tag) = IsBlock tag
UsesBlock Tables = Unit {0}

abbrev pub IsBlockOf : Option OutstandingTransaction → Type 0
IsBlockOf None = Unit {0}
IsBlockOf (Some o) = UsesBlock o.used

-- This one is outstanding in the slot.
abbrev pub IsAt : Slots → ℕ → OutstandingTransaction → Type 0
IsAt slots slot o = slice_get slots slot ≡ Some (Some o)

-- None is outstanding there.
abbrev pub IsEmptyAt : Slots → ℕ → Type 0
IsEmptyAt slots slot = (o : OutstandingTransaction) → ¬ (slice_get slots slot ≡ Some (Some o))

-- No slot is free.
abbrev pub HasNoRoom : Slots → Type 0
HasNoRoom slots = (slot : ℕ) → ¬ (slice_get slots slot ≡ Some None)

-- ---- outstanding transactions and the commands taken

-- A command that concerns what it uses was taken, and a CMD_SYNC after that, and still it is
-- outstanding.
pub record IsOverdue (list : List Taken) (outstanding : OutstandingTransaction) : Type 0 where
  pub place : ℕ
  pub taken : Taken
  pub at : slice_get list place ≡ Some taken
  pub since : outstanding.born ≤ place
  pub concerned : HasConcerned taken outstanding.used
  pub later : ℕ
  pub sync : Taken
  pub at_later : slice_get list later ≡ Some sync
  pub after : place < later
  pub applied : sync.outcome ≡ AsApplied
  pub is_sync : is_sync sync.raw ≡ true

-- Whenever a CMD_SYNC was taken, none was outstanding that a command before it concerns.
abbrev pub NoneIsOverdue : Slots → List Taken → Type 0
NoneIsOverdue slots list =
    (slot : ℕ) (o : OutstandingTransaction)
    → slice_get slots slot ≡ Some (Some o) → ¬ IsOverdue list o

-- It is covered exactly if a command concerns what it uses that was taken since that was born.
pub record TellsCovered (list : List Taken) (o : OutstandingTransaction) : Type 0 where
  pub born : o.born ≤ length list
  pub covered : o.covered ≡ true → HasConcernedSince list o.born o.used
  pub uncovered : o.covered ≡ false → ¬ HasConcernedSince list o.born o.used

abbrev pub TellCovered : Slots → List Taken → Type 0
TellCovered slots list =
    (slot : ℕ) (o : OutstandingTransaction)
    → slice_get slots slot ≡ Some (Some o) → TellsCovered list o

-- One is outstanding that a command concerns which was taken since what it uses was born.
pub record HasCoveredOutstanding (slots : Slots) (list : List Taken) : Type 0 where
  pub slot : ℕ
  pub outstanding : OutstandingTransaction
  pub at : slice_get slots slot ≡ Some (Some outstanding)
  pub concerned : HasConcernedSince list outstanding.born outstanding.used
