-- What a CMD_SYNC says that was taken.
use Rattle.std.specs.Prelude.{◌≡◌, ◌<◌, ℕ, true, List, Some, slice_get}
use Rattle.std.specs.FinMap as finite
use Rattle.cmdcodec.specs.Opcodes.{is_sync}
use Rattle.ringcore.specs.declared.world.event.Outcome.TheVariants.{Applied}
use Rattle.ringcore.specs.world.World.{Taken}
use Rattle.caches.specs.declared.tag.Tag.{Tag}
use Rattle.caches.specs.declared.tag.Entry.{Entry}
use Rattle.transactions.specs.declared.outstanding.OutstandingTransaction.{OutstandingTransaction}
use Rattle.transactions.specs.declared.used.Used.{Used}
use Rattle.transactions.specs.declared.used.Used.TheVariants.{Entry as EntryOf}
use Rattle.transactions.specs.Coverage.{HasConcerned}
use Rattle.transactions.specs.Tracking.{TrackedValue}

-- A CMD_SYNC was applied at this place.
pub record IsCompletedAt (list : List Taken) (place : ℕ) : Type 0 where
  pub sync : Taken
  pub at : slice_get list place ≡ Some sync
  pub applied : sync.outcome ≡ Applied
  pub is_sync : is_sync sync.raw ≡ true

-- What was born then is younger than each command before that place which concerns it.
abbrev pub IsYounger : List Taken → ℕ → Used → ℕ → Type 0
IsYounger list end used born =
    (place : ℕ) (t : Taken)
    → slice_get list place ≡ Some t → place < end → HasConcerned t used → place < born

-- Each entry that is held, and what each outstanding transaction uses, is younger than each command
-- before that place which concerns it.
pub record IsComplete (t : TrackedValue) (list : List Taken) (end : ℕ) : Type 0 where
  pub held : (tag : Tag) (entry : Entry)
      → finite.get t.unit.caches.entries tag ≡ Some entry → IsYounger list end (EntryOf tag) entry.born
  pub used : (slot : ℕ) (o : OutstandingTransaction)
      → slice_get t.outstanding slot ≡ Some (Some o) → IsYounger list end o.used o.born
