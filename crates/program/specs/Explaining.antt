-- What is told on standard error of lines that can't be served.
use Rattle.std.specs.Prelude.{◌≡◌, ◌≢◌, ℕ, List, ◌⊎◌, Option, None, Some}
use Rattle.command_line.specs.declared.subcommand.Subcommand.{Subcommand}
use Rattle.command_line.specs.declared.subcommand.Subcommand.TheVariants.{Convert, Encode, Image, Replay, Schedule, Words}
use Rattle.explanations.specs.Explaining.{IsSaidOf}
use Rattle.image.specs.declared.asked.Asked.{Asked}
use Rattle.image.specs.declared.hint.Hint.{Hint}
use Rattle.image.specs.Hints.{hint_text}
use Rattle.image.specs.Tellings.{HasHint}
use Rattle.replay.specs.ReplayText.{replays}
use Rattle.schedule.specs.ScheduleText.{schedules}
use Rattle.script.specs.declared.last_line.LastLine.{LastLine}
use Rattle.script.specs.Giving.{Answers, MayAnswer}
use Rattle.script.specs.LastLines.{EndedBy}
use Rattle.script.specs.Outcome.{Outcome}
use Rattle.script.specs.Statuses.{exit_status}
use Rattle.script.specs.declared.status.Status.{Status}
use Rattle.program.specs.Images.{asked_of}
use Rattle.program.specs.Telling.{line_of}
use Rattle.program.specs.Troubles.{IsTried}
use Rattle.program.specs.Watching.{Seen}

-- Something was told of a line, by its number.
pub record TellsOfLine (last : LastLine) (before after : Seen) : Type 0 where
  pub said : List ℕ
  pub numbered : IsSaidOf last.number said
  pub told : IsTried before after (line_of said)

-- It was told of the line that is kept, if one is, or there was no memory for it.
abbrev pub MayTellOf : Option LastLine → Seen → Seen → Type 0
MayTellOf None before after = after ≡ before
MayTellOf (Some last) before after = (after ≡ before) ⊎ TellsOfLine last before after

-- Depending on the exit status of the run: for 1 it may tell of the line that is kept, for any other it tells nothing.
pub record TellsOfLast (exit : ℕ) (last : Option LastLine) (before after : Seen) : Type 0 where
  pub refused : exit ≡ 1 → MayTellOf last before after
  pub silent : exit ≢ 1 → after ≡ before

-- The same for the line that ended the run of a script, which had this input and whose writer held `output` and holds
-- `written`.
pub record TellsOfScript (may : ℕ → List (List ℕ) → Outcome → Type 0) (exit : ℕ) (input output written : Option (List ℕ)) (before after : Seen) : Type 0 where
  pub refused : exit ≡ 1 → (after ≡ before) ⊎ ((last : LastLine) × EndedBy may last input output written × TellsOfLine last before after)
  pub silent : exit ≢ 1 → after ≡ before

-- Some text was told, or there was no memory for it.
abbrev pub MayBeTold : Seen → Seen → Type 0
MayBeTold before after = (after ≡ before) ⊎ ((text : List ℕ) × IsTried before after text)

-- Depending on the exit status of the run: for 1 it may tell why lines were refused, for any other it tells nothing.
pub record TellsOfRefusal (exit : ℕ) (before after : Seen) : Type 0 where
  pub refused : exit ≡ 1 → MayBeTold before after
  pub silent : exit ≢ 1 → after ≡ before

-- What may help was told, or there was no memory for it.
abbrev pub MayTellHint : Option Hint → Seen → Seen → Type 0
MayTellHint None before after = after ≡ before
MayTellHint (Some hint) before after = (after ≡ before) ⊎ IsTried before after (line_of (hint_text hint))

-- Of an image: what may help with it, where it was answered, and nothing otherwise.
pub record TellsOfHint (asked : Asked) (exit : ℕ) (input : Option (List ℕ)) (before after : Seen) : Type 0 where
  pub status : Status
  pub exit_is : exit ≡ exit_status status
  pub hint : Option Hint
  pub hint_is : HasHint asked status hint input
  pub told : MayTellHint hint before after

-- For scripts, for lines that bring a command each, and for images.
abbrev pub Explains : Subcommand → ℕ → Option (List ℕ) → Seen → Seen → Seen → Seen → Type 0
Explains Replay exit input output written before after = TellsOfScript (MayAnswer replays) exit input output.bytes written.bytes before after
Explains Schedule exit input output written before after = TellsOfScript (Answers schedules) exit input output.bytes written.bytes before after
Explains (Words asked) exit input output written before after = TellsOfRefusal exit before after
Explains (Image asked) exit input output written before after = TellsOfHint (asked_of asked) exit input before after
Explains Encode exit input output written before after = TellsOfRefusal exit before after
Explains (Convert asked) exit input output written before after = TellsOfRefusal exit before after
Explains other exit input output written before after = after ≡ before
