-- What the status says of an image that was read from an input, and of what was written.
use Rattle.std.specs.Prelude.{◌≡◌, ◌≢◌, ◌⊎◌, ◌^◌, ℕ, List, [], ◌++◌, true, false, Option, None, IfSome, Result, Ok, Err}
use Rattle.std.specs.Io.KnownBytes.{Appends}
use Rattle.script.specs.Serving.{WritesFront}
use Rattle.script.specs.Statuses.{exit_status}
use Rattle.script.specs.Writing.{ReadsAtLeast, no_memory_line}
use Rattle.script.specs.declared.error.ServeError.{ServeError}
use Rattle.script.specs.declared.error.ServeError.TheVariants as errors
use Rattle.script.specs.declared.status.Status.{Status}
use Rattle.script.specs.declared.status.Status.TheVariants.{Good, Refused, NoMemory, ReadFailed, WriteFailed, Endless}
use Rattle.image.specs.declared.answered.Answered.{Answered}
use Rattle.image.specs.declared.asked.Asked.{Asked}
use Rattle.image.specs.declared.hint.Hint.{Hint}
use Rattle.image.specs.Queues.{HasFault}
use Rattle.image.specs.Views.{Answer, answer_to}

-- a beginning of the answer, and then the line that tells of memory
pub record EndsWithoutMemory (answer text : List ℕ) : Type 0 where
  pub front : List ℕ
  pub rest : List ℕ
  pub split : answer ≡ front ++ rest
  pub told : text ≡ front ++ no_memory_line

pub record IsAnswered (answered : Answered) (answer : Answer) : Type 0 where
  pub good : answered.good ≡ answer.good
  pub hint : answered.hint ≡ answer.hint

-- What came of answering an image, before a lack of memory is told. A failed read comes before anything is written.
abbrev pub Serves : Result Answered ServeError → Answer → Option (List ℕ) → Option (List ℕ) → Type 0
Serves (Ok answered) answer before after = IsAnswered answered answer × Appends before after answer.text
Serves (Err (errors.Memory e)) answer before after = WritesFront before after answer.text
Serves (Err (errors.Read e)) answer before after = Appends before after []
Serves (Err (errors.Write e)) answer before after = WritesFront before after answer.text
Serves (Err errors.Endless) answer before after = Appends before after []

abbrev pub IsToBeWritten : List ℕ → List ℕ → Type 0
IsToBeWritten answer text = (text ≡ answer) ⊎ EndsWithoutMemory answer text

-- Of a writer that held `before` and holds `after`: all of the answer was written, or a beginning of it and then that
-- memory ran out, or a beginning of one of these. Nothing is written before all is read.
abbrev pub TellsOfBytes : Status → Answer → Option (List ℕ) → Option (List ℕ) → Type 0
TellsOfBytes Good answer before after = (answer.good ≡ true) × Appends before after answer.text
TellsOfBytes Refused answer before after = (answer.good ≡ false) × Appends before after answer.text
TellsOfBytes NoMemory answer before after = (text : List ℕ) × EndsWithoutMemory answer.text text × Appends before after text
TellsOfBytes ReadFailed answer before after = Appends before after []
TellsOfBytes WriteFailed answer before after = (text : List ℕ) × IsToBeWritten answer.text text × WritesFront before after text
TellsOfBytes Endless answer before after = Appends before after []

-- Of a reader that had `input` and has `rest` left. That there is no end is told of 2^63 bytes and more alone; and where
-- the registers are at fault nothing is read, so that nothing is told of a read.
pub record TellsOfImage (asked : Asked) (status : Status) (input rest before after : Option (List ℕ)) : Type 0 where
  pub told : IfSome input (λ bytes. TellsOfBytes status (answer_to asked bytes) before after)
  pub endless : status ≡ Endless → ReadsAtLeast (2 ^ 63) input rest
  pub unread : HasFault asked → rest ≡ input
  pub no_read_failed : HasFault asked → status ≢ ReadFailed
  pub no_end_missed : HasFault asked → status ≢ Endless

-- Where all of the answer was written the hint is that of the answer, otherwise there is none.
abbrev pub IsHint : Status → Option Hint → Answer → Type 0
IsHint Good hint answer = hint ≡ answer.hint
IsHint Refused hint answer = hint ≡ answer.hint
IsHint other hint answer = hint ≡ None

pub record HasHint (asked : Asked) (status : Status) (hint : Option Hint) (input : Option (List ℕ)) : Type 0 where
  pub hint_is : IfSome input (λ bytes. IsHint status hint (answer_to asked bytes))
  pub none : status ≢ Good → status ≢ Refused → hint ≡ None

-- It ended with the exit status of that.
abbrev pub ExitsAsImage : Asked → ℕ → Option (List ℕ) → Option (List ℕ) → Option (List ℕ) → Option (List ℕ) → Type 0
ExitsAsImage asked exit input rest before after = (status : Status) × (exit ≡ exit_status status) × TellsOfImage asked status input rest before after
