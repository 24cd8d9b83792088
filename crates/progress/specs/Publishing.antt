-- No run is stuck: senders finish what they reserved, each alone, and the consumer the rest.
use Rattle.std.specs.Prelude.{◌≡◌, ◌≢◌, ℕ, zero, suc, ◌+◌, ◌*◌, ◌≤◌, Bool, true, false, [], ◌∷◌, ◌++◌, length, ⊤}
use Rattle.ringcore.specs.declared.world.event.Who.{Who}
use Rattle.ringcore.specs.declared.world.event.Who.TheVariants.{Consumer, Sender}
use Rattle.ringcore.specs.declared.world.event.Event.{Event}
use Rattle.ringcore.specs.declared.world.event.Event.TheVariants.{Write, Flip, Read, Advance, Close, Acknowledge}
use Rattle.ringcore.specs.world.Trails.{Run, trail_of, reserved_length, IsSettled, numbers_given}
use Rattle.ringcore.specs.world.World.{tail, head, world}
use Rattle.ringcore.specs.world.Allowed.{Ring, Allowed, IsRun}
use Rattle.ringcore.specs.world.Laws.{OnlyOf}
use Rattle.progress.specs.Waiting.{NoneIsOpen}
use Rattle.progress.specs.Draining.{owed}

-- ---- nobody disables a step of somebody else

-- a step that neither loads the control word nor exchanges it, nor finds anything else that others change: it
-- depends on no other's step
abbrev pub is_independent : Event → Bool
is_independent (Write offset half) = true
is_independent (Flip offset count) = true
is_independent (Read offset half word) = true
is_independent (Advance raws) = true
is_independent Close = true
is_independent (Acknowledge sender number) = true
is_independent e = false

-- If it is allowed now, it is after any step of another.
abbrev pub OthersDisableNothing : Type 0
OthersDisableNothing =
    (ring : Ring) (run : Run) (who other : Who) (e x : Event)
    → IsRun ring run → who ≢ other → is_independent e ≡ true
    → Allowed ring (world run) (trail_of who run) who e → Allowed ring (world run) (trail_of other run) other x
    → Allowed ring (world ((other, x) ∷ run)) (trail_of who ((other, x) ∷ run)) who e

-- ---- a sender publishes alone

abbrev pub publishes : Event → Bool
publishes (Write offset half) = true
publishes (Flip offset count) = true
publishes e = false

-- These are writes and flips of this sender.
abbrev pub IsPublication : ℕ → Run → Type 0
IsPublication s [] = ⊤
IsPublication s (x ∷ xs) = (x.0 ≡ Sender s) × (publishes x.1 ≡ true) × IsPublication s xs

-- It publishes its reservation, in at most three steps for each of its commands.
pub record IsPublished (ring : Ring) (run whole : Run) (s : ℕ) : Type 0 where
  pub later : Run
  pub whole_is : whole ≡ later ++ run
  pub alone : IsPublication s later
  pub allowed : IsRun ring whole
  pub events : length later ≤ 3 * reserved_length (trail_of (Sender s) run)
  pub settled : IsSettled (trail_of (Sender s) whole)

abbrev pub SendersPublishAlone : Type 0
SendersPublishAlone = (ring : Ring) (run : Run) (s : ℕ) → IsRun ring run → (whole : Run) × IsPublished ring run whole s

-- ---- every run can be brought to an end

-- how long the last reservations of the first senders are
abbrev pub lengths : ℕ → Run → ℕ
lengths zero run = 0
lengths (suc n) run = lengths n run + reserved_length (trail_of (Sender n) run)

-- Each step is the consumer's, or a write or a flip.
abbrev pub Finishes : Who → Event → Type 0
Finishes Consumer e = ⊤
Finishes (Sender s) e = publishes e ≡ true

abbrev pub OnlyFinishes : Run → Type 0
OnlyFinishes [] = ⊤
OnlyFinishes (x ∷ xs) = Finishes x.0 x.1 × OnlyFinishes xs

-- Nothing more is reserved, and all that is reserved is taken and acknowledged.
pub record IsFinished (ring : Ring) (senders : ℕ) (run whole : Run) : Type 0 where
  pub later : Run
  pub whole_is : whole ≡ later ++ run
  pub finishes : OnlyFinishes later
  pub allowed : IsRun ring whole
  pub events : length later + 4 * head (world run) ≤ 3 * lengths senders run + 4 * tail (world run) + owed senders run
  pub reserved : (world whole).reserved ≡ (world run).reserved
  pub none : NoneIsOpen whole
  pub taken : head (world whole) ≡ tail (world whole)
  pub acknowledged : (s : ℕ) → (world whole).acknowledged s ≡ numbers_given (trail_of (Sender s) run)

abbrev pub EveryRunCanFinish : Type 0
EveryRunCanFinish =
    (ring : Ring) (senders : ℕ) (run : Run) → OnlyOf senders run → IsRun ring run → (whole : Run) × IsFinished ring senders run whole
