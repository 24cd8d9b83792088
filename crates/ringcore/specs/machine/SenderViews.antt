-- What a sender knows of a run at run time: what its own trail says.
use Rattle.std.specs.Prelude.{◌≡◌, ◌≢◌, ℕ, ◌<◌, ◌≤◌, Bool, ◌||◌, false, List, ◌∷◌, length, Option, slice_index_or}
use Rattle.cmdcodec.specs.declared.raw.Raw.{Raw}
use Rattle.qindex.specs.declared.control.Control.{Control}
use Rattle.ringcore.specs.declared.world.event.Who.{Who}
use Rattle.ringcore.specs.declared.world.event.Who.TheVariants.{Sender}
use Rattle.ringcore.specs.declared.world.event.Half.{Half}
use Rattle.ringcore.specs.declared.world.event.Half.TheVariants.{Lo, Hi}
use Rattle.ringcore.specs.declared.world.event.Event.{Event}
use Rattle.ringcore.specs.declared.world.event.Event.TheVariants.{Close, Ask}
use Rattle.ringcore.specs.declared.machine.sender_view.Progress.{Progress}
use Rattle.ringcore.specs.world.Trails.{Trail, Run, trail_of, is_among, looked, batches_made, numbers_given, reserved_length, has_written, has_flipped}
use Rattle.ringcore.specs.world.World.{world}
use Rattle.ringcore.specs.memory.StepLaws.{reserved_commands}

-- a sender's view as contracts see it
pub record SenderValue : Type 0 where
  pub looked : Option Control
  pub batches : ℕ
  pub numbers : ℕ
  pub start : ℕ
  pub commands : List Raw
  pub progress : List Progress

-- A batch has at most 64 commands, and progress is kept for 64. No more batches have a number than were made.
pub record IsBounded (view : SenderValue) : Type 0 where
  pub few : length view.commands ≤ 64
  pub places : length view.progress ≡ 64
  pub numbered : view.numbers ≤ view.batches

-- a command with nothing done
abbrev pub untouched : Progress
untouched = record { lo = false; hi = false; flipped = false }

abbrev pub is_written : Half → Progress → Bool
is_written Lo command = command.lo
is_written Hi command = command.hi

abbrev pub progress_at : SenderValue → ℕ → Progress
progress_at view k = slice_index_or view.progress k untouched

-- a command after count commands from first on were flipped, which may include it
abbrev pub flipped_by : ℕ → ℕ → ℕ → Progress → Progress
flipped_by first count k command = record command { flipped = is_among first count k || command.flipped }

-- Count commands from first on were marked as flipped, and nothing else changed.
abbrev pub AreFlipped : List Progress → List Progress → ℕ → ℕ → Type 0
AreFlipped old new first count = (k : ℕ) → slice_index_or new k untouched ≡ flipped_by first count k (slice_index_or old k untouched)

-- The view says what a sender's trail says, with the last reservation starting at this position.
pub record KnowsTrail (s : ℕ) (mine : Trail) (first : ℕ) (view : SenderValue) : Type 0 where
  pub looked_is : view.looked ≡ looked mine
  pub batches_is : view.batches ≡ batches_made mine
  pub numbers_is : view.numbers ≡ numbers_given mine
  pub start_is : view.start ≡ first
  pub commands_are : view.commands ≡ reserved_commands s mine
  pub written_is : (k : ℕ) (half : Half) → k < reserved_length mine → is_written half (progress_at view k) ≡ has_written k half mine
  pub flipped_is : (k : ℕ) → k < reserved_length mine → (progress_at view k).flipped ≡ has_flipped k mine

-- After this run the sender knows what its trail says.
abbrev pub Knows : Run → ℕ → SenderValue → Type 0
Knows run s view = KnowsTrail s (trail_of (Sender s) run) ((world run).start s) view

-- Whenever a sender knows this view, P holds of the run and its trail.
abbrev pub WhereKnown : SenderValue → (Run → ℕ → Trail → Type 0) → Type 0
WhereKnown view P = (run : Run) (s : ℕ) → Knows run s view → P run s (trail_of (Sender s) run)

-- An event of another seat leaves what a sender knows.
abbrev pub OthersLeaveIt : Type 0
OthersLeaveIt =
    (run : Run) (s : ℕ) (view : SenderValue) (who : Who) (e : Event) → who ≢ Sender s → Knows run s view → Knows ((who, e) ∷ run) s view

-- Its own closes and asks leave it too.
abbrev pub CloseLeavesIt : Type 0
CloseLeavesIt = (run : Run) (s : ℕ) (view : SenderValue) → Knows run s view → Knows ((Sender s, Close) ∷ run) s view

abbrev pub AskLeavesIt : Type 0
AskLeavesIt = (run : Run) (s found : ℕ) (view : SenderValue) → Knows run s view → Knows ((Sender s, Ask found) ∷ run) s view
