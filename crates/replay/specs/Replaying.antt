-- What the status of a replay says.
use Rattle.std.specs.Prelude.{ℕ, List, Option}
use Rattle.script.specs.declared.status.Status.{Status}
use Rattle.script.specs.Statuses.{Tells, ExitsAs}
use Rattle.script.specs.Giving.{MayAnswer}
use Rattle.replay.specs.ReplayText.{replays}

-- Of a reader that had this input and has `rest` left, and a writer that held `before` and holds `after`.
abbrev pub Replays : Status → Option (List ℕ) → Option (List ℕ) → Option (List ℕ) → Option (List ℕ) → Type 0
Replays status input rest before after = Tells (MayAnswer replays) status input rest before after

-- It ended with the exit status of a run.
abbrev pub ExitsAsReplay : ℕ → Option (List ℕ) → Option (List ℕ) → Option (List ℕ) → Option (List ℕ) → Type 0
ExitsAsReplay exit input rest before after = ExitsAs (MayAnswer replays) exit input rest before after
