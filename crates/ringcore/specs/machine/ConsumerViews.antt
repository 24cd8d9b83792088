-- What the consumer knows of a run at run time: what its own trail says, and how many commands are taken.
use Rattle.std.specs.Prelude.{◌≡◌, ℕ, zero, suc, ◌<◌, ◌≤◌, List, [], ◌∷◌, ◌++◌, length, Option, Some, None, slice_index_or}
use Rattle.cmdcodec.specs.declared.raw.Raw.{Raw}
use Rattle.qindex.specs.declared.control.Control.{Control}
use Rattle.ringcore.specs.declared.world.event.Who.TheVariants.{Consumer, Sender}
use Rattle.ringcore.specs.declared.world.event.Half.{Half}
use Rattle.ringcore.specs.declared.world.event.Half.TheVariants.{Lo, Hi}
use Rattle.ringcore.specs.declared.world.event.Event.{Event}
use Rattle.ringcore.specs.declared.world.event.Event.TheVariants.{Look, Acknowledge}
use Rattle.ringcore.specs.declared.machine.consumer_view.ReadHalves.{ReadHalves}
use Rattle.ringcore.specs.world.Trails.{Trail, Run, trail_of, found_ready, half_read}
use Rattle.ringcore.specs.world.World.{head, world}
use Rattle.ringcore.specs.world.Allowed.{Ring, Allowed}

-- the consumer's view as contracts see it
pub record ConsumerValue : Type 0 where
  pub taken : ℕ
  pub found : ℕ
  pub read : List ReadHalves

-- a command with nothing read
abbrev pub unread : ReadHalves
unread = record { lo = None; hi = None }

-- Nothing is read of any command.
abbrev pub AreUnread : List ReadHalves → Type 0
AreUnread commands = (k : ℕ) → slice_index_or commands k unread ≡ unread

-- Nothing is read of the commands, 64 in all, from this offset on.
pub record AreReadBelow (end : ℕ) (commands : List ReadHalves) : Type 0 where
  pub places : length commands ≡ 64
  pub within : end ≤ 64
  pub behind : (k : ℕ) → end ≤ k → slice_index_or commands k unread ≡ unread

-- The views differ at most in what was read.
pub record SameButRead (old new : ConsumerValue) : Type 0 where
  pub taken_is : new.taken ≡ old.taken
  pub found_is : new.found ≡ old.found

abbrev pub read_half : Half → ReadHalves → Option ℕ
read_half Lo halves = halves.lo
read_half Hi halves = halves.hi

abbrev pub halves_at : ConsumerValue → ℕ → ReadHalves
halves_at view k = slice_index_or view.read k unread

-- The view says what the consumer's trail says, with this many commands taken.
pub record KnowsTaken (mine : Trail) (many : ℕ) (view : ConsumerValue) : Type 0 where
  pub taken_is : view.taken ≡ many
  pub found_is : view.found ≡ found_ready mine
  pub read_is : (k : ℕ) (half : Half) → k < 64 → read_half half (halves_at view k) ≡ half_read k half mine

-- After this run the consumer knows what its trail says.
abbrev pub ConsumerKnows : Run → ConsumerValue → Type 0
ConsumerKnows run view = KnowsTaken (trail_of Consumer run) (head (world run)) view

-- Whenever the consumer knows this view, P holds of the run and its trail.
abbrev pub WhereConsumerKnows : ConsumerValue → (Run → Trail → Type 0) → Type 0
WhereConsumerKnows view P = (run : Run) → ConsumerKnows run view → P run (trail_of Consumer run)

-- the command of two halves that were read
abbrev pub both_halves : Option ℕ → Option ℕ → Option Raw
both_halves (Some low) (Some high) = Some (record { lo = low; hi = high })
both_halves low high = None

-- the command that was read at an offset from the head
abbrev pub command_at : ConsumerValue → ℕ → Option Raw
command_at view k = both_halves (read_half Lo (halves_at view k)) (read_half Hi (halves_at view k))

-- those of the first n that were read, in order
abbrev pub and_command : List Raw → Option Raw → List Raw
and_command raws None = raws
and_command raws (Some raw) = raws ++ raw ∷ []

abbrev pub commands_read : ConsumerValue → ℕ → List Raw
commands_read view zero = []
commands_read view (suc n) = and_command (commands_read view n) (command_at view n)

-- An allowed event of a sender leaves what the consumer knows.
abbrev pub SendersLeaveIt : Type 0
SendersLeaveIt =
    (ring : Ring) (run : Run) (s : ℕ) (view : ConsumerValue) (e : Event)
    → Allowed ring (world run) (trail_of (Sender s) run) (Sender s) e → ConsumerKnows run view → ConsumerKnows ((Sender s, e) ∷ run) view

-- Its own looks and acknowledgements leave it too.
abbrev pub ConsumersLookLeavesIt : Type 0
ConsumersLookLeavesIt =
    (run : Run) (found : Control) (view : ConsumerValue) → ConsumerKnows run view → ConsumerKnows ((Consumer, Look found) ∷ run) view

abbrev pub AcknowledgementLeavesIt : Type 0
AcknowledgementLeavesIt =
    (run : Run) (s number : ℕ) (view : ConsumerValue) → ConsumerKnows run view → ConsumerKnows ((Consumer, Acknowledge s number) ∷ run) view
