-- What lines of the caches do.
use Rattle.std.specs.Prelude.{ℕ, ◌==◌, Bool, not, ◌∷◌, Option, Some, None, is_some, Result, Ok, Err, if◌then◌else◌}
use Rattle.std.specs.FinMap as finite
use Rattle.caches.specs.declared.tag.Tag.{Tag}
use Rattle.caches.specs.declared.tag.Entry.{Entry}
use Rattle.caches.specs.declared.fault.CacheFault.{CacheFault}
use Rattle.caches.specs.declared.fault.CacheFault.TheVariants.{Full, BadBlock, NoMemory}
use Rattle.caches.specs.Held.{Item, Fill, Evict}
use Rattle.simulator.specs.Blocks.{is_block}
use Rattle.simulator.specs.State.{State, Answered, entries, taken_so_far}

abbrev pub with_item : Item → State → State
with_item item state = record state { history = item ∷ state.history }

-- Why an entry isn't put in: its block isn't well formed; or its tag is new, and there is no room for it, or memory
-- runs out.
abbrev pub fill_fault : Bool → Tag → State → Option CacheFault
fill_fault wanting tag state =
    if not (is_block tag) then Some BadBlock
    else if is_some (finite.get (entries state) tag) then None
    else if finite.len (entries state) == state.capacity then Some Full
    else if wanting then Some NoMemory
    else None

-- The answer is the entry of its tag that was held before. The new one is born after the commands taken so far.
abbrev pub filled_unless : Option CacheFault → Tag → ℕ → State → Answered (Result (Option Entry) CacheFault)
filled_unless (Some fault) tag value state = record { answer = Err fault; state = state }
filled_unless None tag value state = record {
  answer = Ok (finite.get (entries state) tag);
  state = with_item (Fill (record { tag = tag; value = value; born = taken_so_far state })) state;
}

unfoldable pub filled : Bool → Tag → ℕ → State → Answered (Result (Option Entry) CacheFault)
filled wanting tag value state = filled_unless (fill_fault wanting tag state) tag value state

abbrev pub evicted : Tag → State → Answered (Option Entry)
evicted tag state = record { answer = finite.get (entries state) tag; state = with_item (Evict tag) state }
