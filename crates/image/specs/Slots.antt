-- What stands in a slot of a queue.
use Rattle.std.specs.Prelude.{ℕ, ◌+◌, ◌-◌, ◌*◌, ◌%◌, ◌^◌, ◌==◌, ◌&&◌, not, nat_lt, nat_le, List, Bool, take, drop}
use Rattle.cmdcodec.specs.Bytes.{raw_of}
use Rattle.cmdcodec.specs.declared.raw.Raw.{Raw}
use Rattle.qindex.specs.Positions.{size, place}
use Rattle.image.specs.declared.queue.Queue.{Queue}
use Rattle.image.specs.Queues.{waiting_of}

-- A slot waits if it comes fewer slots after that of CONS, going round, than commands wait.
abbrev pub is_waiting : Queue → ℕ → Bool
is_waiting queue slot =
    let slots = size queue.cons.geometry in
    nat_lt ((slot + slots - place queue.cons.geometry queue.cons.number) % slots) (waiting_of queue)

abbrev pub raw_at : List ℕ → ℕ → Raw
raw_at image slot = raw_of (take 16 (drop (16 * slot) image))

-- The words of a CMD_SYNC in a slot of a queue of so many bytes, after its MSI of 0 was written there. All of the first
-- word is 0; the second is the address of the slot, in a queue that is aligned to its length and isn't at 0.
abbrev pub is_overwritten : ℕ → ℕ → Raw → Bool
is_overwritten bytes slot raw = raw.lo == 0 && (nat_le bytes raw.hi && (nat_lt raw.hi (2 ^ 52) && raw.hi % bytes == 16 * slot))

-- A CMD_SYNC that was taken, and whose MSI told so in its own slot.
abbrev pub is_completed : List ℕ → Queue → ℕ → Bool
is_completed image queue slot = not (is_waiting queue slot) && is_overwritten (16 * size queue.cons.geometry) slot (raw_at image slot)
