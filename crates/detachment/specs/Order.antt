-- How far a stream is taken away from its device, by the run of a ring: newest event first.
use Rattle.std.specs.Prelude.{◌≡◌, ℕ, ◌+◌, true, false, List, ◌∷◌, ◌++◌, length, Option, Some, None, slice_get}
use Rattle.ring.specs.Runs.{Raw, Sender, Applied, Won, Run, Taken, world, joined, IsApplied}
use Rattle.detachment.specs.Commands.{Stream, has_ats, configuration_words, endpoint_words}

-- Behind an earlier run, this sender reserved a batch of these words, whose CMD_SYNC has this number.
pub record HasReserved (sender : ℕ) (words : List Raw) (number : ℕ) (earlier run : Run) : Type 0 where
  pub later : Run
  pub run_is : run ≡ later ++ (Sender sender, Won words (Some number)) ∷ earlier

-- Of the commands taken, these are the ones from this position on, and each was applied.
abbrev pub AreAppliedFrom : ℕ → List Raw → List Taken → Type 0
AreAppliedFrom position words taken =
    (place : ℕ) (raw : Raw) → slice_get words place ≡ Some raw
    → slice_get taken (position + place) ≡ Some record { raw = raw; outcome = Applied }

-- In this run the sender's batch of these words was taken, with all that was reserved before it. Each of its
-- commands was applied, and so was the CMD_SYNC behind them, which has this number.
pub record HasApplied (sender : ℕ) (words : List Raw) (number : ℕ) (run : Run) : Type 0 where
  pub sync : IsApplied run sender number
  pub words_are : sync.completed.body ≡ words
  pub each : AreAppliedFrom (length (joined sync.completed.ahead)) words (world run).taken

-- ---- the steps

-- The commands for the configuration are reserved.
pub record IsConfiguringIn (stream : Stream) (sender configuration : ℕ) (run : Run) : Type 0 where
  pub earlier : Run
  pub reserved : HasReserved sender (configuration_words stream) configuration earlier run

-- They are applied.
abbrev pub IsConfiguredIn : Stream → ℕ → ℕ → Run → Type 0
IsConfiguredIn stream sender configuration run = HasApplied sender (configuration_words stream) configuration run

-- Behind a run in which they are, the command for the endpoint, which has ATS, is reserved.
pub record IsLeavingIn (stream : Stream) (sender configuration endpoint : ℕ) (run : Run) : Type 0 where
  pub cached : has_ats stream ≡ true
  pub between : Run
  pub earlier : Run
  pub configured : IsConfiguredIn stream sender configuration earlier
  pub reserved : HasReserved sender (endpoint_words stream) endpoint (between ++ earlier) run

-- It is applied too.
pub record HasLeftIn (stream : Stream) (sender configuration endpoint : ℕ) (run : Run) : Type 0 where
  pub behind : IsLeavingIn stream sender configuration endpoint run
  pub applied : HasApplied sender (endpoint_words stream) endpoint run

-- The commands for the configuration are applied, and nothing is to be sent to the endpoint, which has no ATS.
pub record HasNothingToLeaveIn (stream : Stream) (sender configuration : ℕ) (run : Run) : Type 0 where
  pub uncached : has_ats stream ≡ false
  pub configured : IsConfiguredIn stream sender configuration run

-- One or the other, by the number of the endpoint's CMD_SYNC, if there is one.
abbrev pub IsDetachedIn : Stream → ℕ → ℕ → Option ℕ → Run → Type 0
IsDetachedIn stream sender configuration (Some endpoint) run = HasLeftIn stream sender configuration endpoint run
IsDetachedIn stream sender configuration None run = HasNothingToLeaveIn stream sender configuration run
