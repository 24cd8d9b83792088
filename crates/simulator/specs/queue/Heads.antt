-- What stands at the head of the queue, how the consumer finds it, and how it takes it.
use Rattle.std.specs.Prelude.{ℕ, ◌==◌, [], ◌∷◌, ◌++◌, Option, Some, None, option_map, slice_get, if◌then◌else◌}
use Rattle.ring.specs.Runs.{Raw, Consumer, Look, Test, Trail, Run, Item, World, tail, head, world, control}
use Rattle.ring.specs.table.Keeping.{run_by}
use Rattle.ring.specs.consumer.Pendings.{reads_from}
use Rattle.ring.specs.consumer.Completing.{completed_trail}

-- the head of the queue: nothing, for now or for good; a command that isn't published yet; or one that may be taken
pub data Head : Type 0 where
  Empty : Head
  Drained : Head
  Unwritten : Head
  Ready : Raw → Head

-- the command that is taken next, if any is reserved
abbrev pub raw_at_head : World → Option Raw
raw_at_head w = option_map (λ (item : Item). item.raw) (slice_get w.reserved (head w))

abbrev pub ready_with : Option Raw → Head
ready_with None = Unwritten
ready_with (Some raw) = Ready raw

-- Nothing is reserved, or the command at the head isn't published yet, or it is.
abbrev pub head_of : World → Head
head_of w =
    if tail w == head w then (if w.closed then Drained else Empty)
    else if w.flipped (head w) then ready_with (raw_at_head w) else Unwritten

-- The events that found it, the newest first: the consumer looks; if something is reserved it tests the head; and if
-- that is ready it reads both halves.
abbrev pub found_by : Head → Trail → Trail
found_by Empty looked = looked
found_by Drained looked = looked
found_by Unwritten looked = Test 1 0 ∷ looked
found_by (Ready raw) looked = reads_from 0 (raw ∷ []) (Test 1 1 ∷ looked)

abbrev pub head_taken : ℕ → Run → Run
head_taken geometry run = run_by Consumer (found_by (head_of (world run)) (Look (control geometry (world run)) ∷ [])) ++ run

-- The ring's completion of one command is added to the run.
abbrev pub completed : Raw → Run → Run
completed raw run = run_by Consumer (completed_trail (raw ∷ []) []) ++ run
