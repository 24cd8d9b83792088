-- A drain ends, and room comes back.
use Rattle.std.specs.Prelude.{◌≡◌, ℕ, zero, suc, ◌+◌, ◌-◌, ◌*◌, ◌<◌, ◌≤◌, false, List, [], ◌∷◌, ◌++◌, length, Option, ⊤}
use Rattle.cmdcodec.specs.declared.raw.Raw.{Raw}
use Rattle.cmdcodec.specs.Bodies.{IsBody}
use Rattle.qindex.specs.declared.control.Control.{Control}
use Rattle.qindex.specs.Positions.{size}
use Rattle.qindex.specs.Indexes.{IsGeometry, distance}
use Rattle.ringcore.specs.declared.world.event.Who.{Who}
use Rattle.ringcore.specs.declared.world.event.Who.TheVariants.{Consumer, Sender}
use Rattle.ringcore.specs.declared.world.event.Event.TheVariants.{Look}
use Rattle.ringcore.specs.world.Trails.{Run, trail_of, batch_length, batches_made, numbers_given}
use Rattle.ringcore.specs.world.World.{tail, head, world}
use Rattle.ringcore.specs.world.Allowed.{Ring, IsNextNumber, Allowed, IsRun}
use Rattle.ringcore.specs.world.Laws.{OnlyOf, syncs_taken}
use Rattle.progress.specs.Alone.{reserved_by}
use Rattle.progress.specs.Waiting.{NoneIsOpen}

-- Only the consumer takes steps.
abbrev pub IsByTheConsumer : Run → Type 0
IsByTheConsumer [] = ⊤
IsByTheConsumer (x ∷ xs) = (x.0 ≡ Consumer) × IsByTheConsumer xs

-- how many numbers of the first senders aren't acknowledged yet
abbrev pub owed : ℕ → Run → ℕ
owed zero run = 0
owed (suc n) run = owed n run + (numbers_given (trail_of (Sender n) run) - (world run).acknowledged n)

-- The run goes on by the consumer alone: four steps for each command that isn't taken and one for each number
-- that isn't acknowledged. Then all is taken and acknowledged.
pub record IsDrained (ring : Ring) (senders : ℕ) (run whole : Run) : Type 0 where
  pub later : Run
  pub whole_is : whole ≡ later ++ run
  pub alone : IsByTheConsumer later
  pub allowed : IsRun ring whole
  pub events : length later + 4 * head (world run) ≡ 4 * tail (world run) + owed senders run
  pub reserved : (world whole).reserved ≡ (world run).reserved
  pub taken : head (world whole) ≡ tail (world whole)
  pub acknowledged : (s : ℕ) → (world whole).acknowledged s ≡ numbers_given (trail_of (Sender s) run)
  pub trails : (s : ℕ) → trail_of (Sender s) whole ≡ trail_of (Sender s) run

abbrev pub DrainsEnd : Type 0
DrainsEnd =
    (ring : Ring) (senders : ℕ) (run : Run)
    → OnlyOf senders run → IsRun ring run → NoneIsOpen run → (whole : Run) × IsDrained ring senders run whole

-- If the consumer has acknowledged all that it took, at most as much is owed as isn't taken: five steps for each
-- command are enough then.
abbrev pub FewAreOwed : Type 0
FewAreOwed =
    (ring : Ring) (senders : ℕ) (run : Run)
    → IsRun ring run → ((s : ℕ) → (world run).acknowledged s ≡ syncs_taken s (trail_of Consumer run)) → owed senders run + head (world run) ≤ tail (world run)

-- ---- room comes back

-- Where all is taken, a look finds room for any batch that fits the ring.
abbrev pub LooksFindRoom : Type 0
LooksFindRoom =
    (ring : Ring) (run : Run) (who : Who) (found : Control) (many : ℕ)
    → IsGeometry ring.geometry → head (world run) ≡ tail (world run)
    → Allowed ring (world run) (trail_of who run) who (Look found) → many ≤ size ring.geometry
    → distance found.prod found.cons + many ≤ size ring.geometry

-- So after a drain each sender that has a batch left reserves any that fits, in two steps.
abbrev pub DrainsMakeRoom : Type 0
DrainsMakeRoom =
    (ring : Ring) (senders : ℕ) (run whole : Run) (s : ℕ) (body : List Raw) (number : Option ℕ)
    → NoneIsOpen run → IsDrained ring senders run whole
    → (world whole).closed ≡ false → batches_made (trail_of (Sender s) run) < ring.max_batches
    → IsBody body → IsNextNumber (trail_of (Sender s) run) number → batch_length body number ≤ size ring.geometry
    → IsRun ring (reserved_by ring whole s body number)
