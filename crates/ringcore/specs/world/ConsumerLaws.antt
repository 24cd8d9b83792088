-- What the consumer's own trail says, after any run.
use Rattle.std.specs.Prelude.{◌≡◌, ◌≢◌, ◌⊎◌, ℕ, ◌+◌, ◌<◌, ◌≤◌, true, [], ◌∷◌, map, length, Some, slice_get, ⊤}
use Rattle.qindex.specs.declared.control.Control.{Control}
use Rattle.qindex.specs.Indexes.{IsGeometry}
use Rattle.ringcore.specs.declared.world.event.Who.TheVariants.{Consumer}
use Rattle.ringcore.specs.declared.world.event.Half.{Half}
use Rattle.ringcore.specs.declared.world.event.Event.{Event}
use Rattle.ringcore.specs.declared.world.event.Event.TheVariants.{Look, Test, Read}
use Rattle.ringcore.specs.world.Trails.{Trail, Run, trail_of, found_ready, half_read, head_read, raws_by, taken_by, acknowledged_by}
use Rattle.ringcore.specs.world.World.{Item, World, taken_as, tail, head, world, half_of}
use Rattle.ringcore.specs.world.Allowed.{Ring, IsRun}
use Rattle.ringcore.specs.world.Delivery.{advanced}
use Rattle.ringcore.specs.world.Laws.{OnlyOf, syncs_in, syncs_taken, SyncsAreInOrder}

-- ---- what is taken and acknowledged

abbrev pub TellsTheHead : Run → Type 0
TellsTheHead run = head (world run) ≡ taken_by (trail_of Consumer run)

abbrev pub TellsTheNumbers : Run → Type 0
TellsTheNumbers run = (s : ℕ) → (world run).acknowledged s ≡ acknowledged_by s (trail_of Consumer run)

abbrev pub TellsWhatIsAdvanced : Run → Type 0
TellsWhatIsAdvanced run = advanced run ≡ raws_by (trail_of Consumer run)

abbrev pub TellsTheOutcomes : Run → Type 0
TellsTheOutcomes run = (world run).taken ≡ map taken_as (raws_by (trail_of Consumer run))

-- A trail tells how many commands it took, and how many of them are closing syncs of a sender.
abbrev pub RawsAreCounted : Type 0
RawsAreCounted = (t : Trail) → length (raws_by t) ≡ taken_by t

abbrev pub SyncsOfRawsAreCounted : Type 0
SyncsOfRawsAreCounted = (s : ℕ) (t : Trail) → syncs_in s (raws_by t) ≡ syncs_taken s t

-- The closing syncs that it took come in the order of their numbers.
abbrev pub TookSyncsInOrder : Type 0
TookSyncsInOrder =
    (ring : Ring) (senders : ℕ) (run : Run) → OnlyOf senders run → IsRun ring run → SyncsAreInOrder senders (raws_by (trail_of Consumer run))

-- ---- what is flipped and read

-- All that is taken is flipped, and what is flipped is written.
abbrev pub TakenAreFlipped : Run → Type 0
TakenAreFlipped run = (position : ℕ) → position < head (world run) → (world run).flipped position ≡ true

abbrev pub FlippedAreWritten : Run → Type 0
FlippedAreWritten run = (position : ℕ) (half : Half) → (world run).flipped position ≡ true → (world run).written position half ≡ true

-- The command at this offset from the head is flipped, and reserved.
pub record IsReadyAt (w : World) (offset : ℕ) : Type 0 where
  pub flipped : w.flipped (head w + offset) ≡ true
  pub reserved : head w + offset < tail w

-- The commands that the last test found are ready.
abbrev pub FoundIsReady : Run → Type 0
FoundIsReady run = (offset : ℕ) → offset < found_ready (trail_of Consumer run) → IsReadyAt (world run) offset

-- The command at this offset from the head has this half.
pub record HasHalfAt (w : World) (offset : ℕ) (half : Half) (word : ℕ) : Type 0 where
  pub item : Item
  pub there : slice_get w.reserved (head w + offset) ≡ Some item
  pub word_is : word ≡ half_of half item.raw

-- What was read is such a half.
abbrev pub ReadsAreOfItems : Run → Type 0
ReadsAreOfItems run =
    (offset : ℕ) (half : Half) (word : ℕ) → half_read offset half (trail_of Consumer run) ≡ Some word → HasHalfAt (world run) offset half word

-- ---- the command at the head stays there

-- If a command was read at the head, a look finds that the queue isn't empty, a test that the head is ready,
-- and a read the same word again.
abbrev pub FindsAgain : Event → Trail → Type 0
FindsAgain (Look found) es = (half : Half) (x : ℕ) → head_read half es ≡ Some x → found.prod.number ≢ found.cons.number
FindsAgain (Test limit found) es = (half : Half) (x : ℕ) → head_read half es ≡ Some x → 1 ≤ limit → 1 ≤ found
FindsAgain (Read offset half word) es = (x : ℕ) → head_read half es ≡ Some x → offset ≡ 0 → word ≡ x
FindsAgain e es = ⊤

abbrev pub IsSteady : Trail → Type 0
IsSteady [] = ⊤
IsSteady (e ∷ es) = FindsAgain e es × IsSteady es

abbrev pub ConsumerIsSteady : Type 0
ConsumerIsSteady = (ring : Ring) (run : Run) → IsGeometry ring.geometry → IsRun ring run → IsSteady (trail_of Consumer run)

-- ---- the end

-- A look found the ring closed and nothing reserved.
abbrev pub IsDrained : Control → Type 0
IsDrained found = (found.closed ≡ true) × (found.prod.number ≡ found.cons.number)

abbrev pub SawDrained : Trail → Type 0
SawDrained [] = ⊥
SawDrained (Look found ∷ es) = IsDrained found ⊎ SawDrained es
SawDrained (e ∷ es) = SawDrained es

-- The ring is closed, and all that is reserved is taken.
pub record IsAllTaken (w : World) : Type 0 where
  pub closed : w.closed ≡ true
  pub whole : head w ≡ tail w

-- Once the consumer saw that, it holds forever.
abbrev pub DrainedIsTheEnd : Type 0
DrainedIsTheEnd = (ring : Ring) (run : Run) → IsGeometry ring.geometry → IsRun ring run → SawDrained (trail_of Consumer run) → IsAllTaken (world run)
