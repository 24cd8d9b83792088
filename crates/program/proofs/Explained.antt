-- It was told of the line that is kept, and that is the line that ended the run.
use Rattle.std.proofs.Common.{◌≡◌, ◌⊎◌, ℕ, List, Option, None, Some, inl, inr, ◌∙◌, sym}
use Rattle.std.specs.Prelude.{IfSome}
use Rattle.script.specs.declared.last_line.LastLine.{LastLine}
use Rattle.script.specs.declared.status.Status.{Status}
use Rattle.script.specs.declared.status.Status.TheVariants.{Good, Refused, NoMemory, ReadFailed, WriteFailed, Endless}
use Rattle.script.specs.LastLines.{EndedBy}
use Rattle.script.specs.Outcome.{Outcome}
use Rattle.script.specs.Statuses.{exit_status}
use Rattle.program.specs.Explaining.{MayTellOf, TellsOfLast, TellsOfLine, TellsOfScript}
use Rattle.program.specs.Watching.{Seen}

is_refused : (status : Status) → exit_status status ≡ 1 → status ≡ Refused
is_refused Good one = absurd cc
is_refused Refused one = cc
is_refused NoMemory one = absurd cc
is_refused ReadFailed one = absurd cc
is_refused WriteFailed one = absurd cc
is_refused Endless one = absurd cc

of_kept : (may : ℕ → List (List ℕ) → Outcome → Type 0) (last : Option LastLine) (input output written : Option (List ℕ)) (before after : Seen)
    → IfSome last (λ l. EndedBy may l input output written) → MayTellOf last before after
    → (after ≡ before) ⊎ ((l : LastLine) × EndedBy may l input output written × TellsOfLine l before after)
of_kept may None input output written before after ended told = inl told
of_kept may (Some l) input output written before after ended (inl same) = inl same
of_kept may (Some l) input output written before after ended (inr told) = inr (l, ended, told)

pub tells_of_script : (may : ℕ → List (List ℕ) → Outcome → Type 0) (status : Status) (exit : ℕ) (last : Option LastLine) (input output written : Option (List ℕ)) (before after : Seen) → exit ≡ exit_status status
    → (status ≡ Refused → IfSome last (λ l. EndedBy may l input output written)) → TellsOfLast exit last before after → TellsOfScript may exit input output written before after
tells_of_script may status exit last input output written before after is ended told = record {
  refused = λ one. of_kept may last input output written before after (ended (is_refused status (sym is ∙ one))) (told.refused one);
  silent = told.silent;
}
