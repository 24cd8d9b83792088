-- What stands in the memory of a queue, whoever keeps the conditions of its trait.
use Rattle.std.specs.Prelude.{◌≡◌, ℕ, ◌≤◌, ◌++◌, length, Some, slice_get, Contains}
use Rattle.cmdcodec.specs.declared.raw.Raw.{Raw}
use Rattle.qindex.specs.Positions.{size, place}
use Rattle.hardware_queue.specs.Queues.{QueueValue, IsFree, written, overwritten, in_memory}
use Rattle.hardware_queue.specs.Owners.{IsOwned}

-- What the hardware may still read is what it was shown, except where that was written over.
abbrev pub Stands : QueueValue → Type 0
Stands q = (p : ℕ) (raw : Raw) → q.consumed ≤ p → slice_get q.shown p ≡ Some raw → ¬ Contains q.lost p → slice_get q.memory (place q.geometry p) ≡ Some raw

-- It stays so when a free slot is written,
abbrev pub StandsOnceWritten : Type 0
StandsOnceWritten = (q : QueueValue) (slot : ℕ) (raw : Raw) → IsFree q slot → Stands q → Stands (written slot raw q)

-- when the command that comes next is written over,
abbrev pub StandsOnceOverwritten : Type 0
StandsOnceOverwritten =
    (q : QueueValue) (slot : ℕ) → IsOwned q → slot ≡ place q.geometry q.consumed → Stands q → Stands (overwritten slot q)

-- and when so many more are shown as they stand in memory.
abbrev pub with_shown : ℕ → QueueValue → QueueValue
with_shown count q = record q { shown = q.shown ++ in_memory q.geometry q.memory (length q.shown) count }

abbrev pub StandsOnceShown : Type 0
StandsOnceShown = (q : QueueValue) (count : ℕ) → length q.memory ≡ size q.geometry → Stands q → Stands (with_shown count q)
