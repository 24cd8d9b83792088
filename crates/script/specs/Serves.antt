-- What a program that serves a script ensures, by what the lines of the script may come to.
use Rattle.std.specs.Prelude.{◌≡◌, ◌^◌, ℕ, List, true, Option, Result, IfOk, IfErr, OnErr}
use Rattle.std.specs.Io.KnownBytes.{IsAtEnd}
use Rattle.script.specs.declared.ending.Ending.{Ending}
use Rattle.script.specs.declared.ending.Ending.TheVariants.{Finished}
use Rattle.script.specs.declared.error.ServeError.{ServeError}
use Rattle.script.specs.Errors.{is_read, is_memory, is_endless}
use Rattle.script.specs.Outcome.{Outcome}
use Rattle.script.specs.Writing.{WritesAnswer, WritesNoMemory, WritesBeginning, AnswersWholeLines, ReadsAtLeast}

-- Of a reader that had this input and has `rest` left, and a writer that held `before` and holds `after`:
-- - if no error came, what was written is the text of the script;
-- - if memory ran out, the answers to whole lines and then `no memory`;
-- - after any error, a beginning of one of these, whatever follows what was read;
-- - if the reader failed, exactly the lines whose ends were read were answered;
-- - any error but being out of memory, a failed read or a failed write takes a script of 2^63 bytes or more.
pub record Serves (may : ℕ → List (List ℕ) → Outcome → Type 0) (result : Result Ending ServeError) (input rest before after : Option (List ℕ)) : Type 0 where
  pub answer : IfOk result (λ ending. WritesAnswer may input before after ending)
  pub end : IfOk result (λ ending. ending ≡ Finished → IsAtEnd rest)
  pub memory : IfErr result (λ e. is_memory e ≡ true → WritesNoMemory may input before after)
  pub beginning : OnErr result (WritesBeginning may input rest before after)
  pub read : IfErr result (λ e. is_read e ≡ true → AnswersWholeLines may input rest before after)
  pub endless : IfErr result (λ e. is_endless e ≡ true → ReadsAtLeast (2 ^ 63) input rest)
