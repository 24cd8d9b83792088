-- What a renewal does to a queue, and why it is refused.
use Rattle.std.specs.Prelude.{◌≡◌, ℕ, None}
use Rattle.ringcore.specs.RingFaults.{number_fault, IsNotMade}
use Rattle.caches.specs.Limits.{IsCapacity}
use Rattle.caches.specs.declared.fault.CacheFault.TheVariants.{BadCapacity}
use Rattle.caches.specs.Held.{Entries}
use Rattle.engine.specs.declared.finished.Finished.{Finished}
use Rattle.engine.specs.Ends.{IsEngineEnd}
use Rattle.renewal.specs.declared.fault.RenewalFault.{RenewalFault}
use Rattle.renewal.specs.declared.fault.RenewalFault.TheVariants.{Waiting, Ring, Caches}
use Rattle.renewal.specs.declared.queue.Queue.{Queue}
use Rattle.renewal.specs.declared.queue.Sizes.{Sizes}
use Rattle.renewal.specs.Queues.{HasLooked}
use Rattle.renewal.specs.Carried.{IsUncarried}

-- The queue was joined after its engine had looked: all that any of its senders was told before stays true of
-- its run.
pub record HasEnded (old : Queue) (end : Finished) : Type 0 where
  pub joined : Queue
  pub looked : HasLooked old joined
  pub end_is : IsEngineEnd old.ring joined.senders.items joined.engine end.summary end.counts end.caches.entries
  pub counts_are : end.counts ≡ old.engine.unit.counts
  pub caches_are : end.caches ≡ old.engine.unit.caches

-- ---- refusals

-- Why no new queue of these sizes was made for this many senders and these entries.
abbrev pub IsUnmade : Sizes → ℕ → Entries → RenewalFault → Type 0
IsUnmade sizes senders entries Waiting = ⊥
IsUnmade sizes senders entries (Ring fault) = IsCapacity sizes.capacity × IsNotMade (number_fault sizes.log2 senders sizes.max_batches) fault
IsUnmade sizes senders entries (Caches BadCapacity) = ¬ IsCapacity sizes.capacity
IsUnmade sizes senders entries (Caches fault) =
    IsCapacity sizes.capacity × (number_fault sizes.log2 senders sizes.max_batches ≡ None) × IsUncarried sizes.capacity entries fault
