-- What the program tells if nothing is asked for.
use Rattle.std.specs.Prelude.{◌≡◌, ◌≢◌, ℕ, List, ◌++◌, ◌⊎◌, codes}
use Rattle.std.specs.declared.io.ErrorKind.{ErrorKind as IoErrorKind}
use Rattle.std.specs.declared.io.ErrorKind.TheVariants.{OutOfMemory as IoOutOfMemory}
use Rattle.command_line.specs.CommandLine.{DisplayHelp, DisplayVersion, ErrorKind, MisunderstoodValue, OutOfMemory}
use Rattle.script.specs.Writing.{no_memory_line}
use Rattle.program.specs.Troubles.{TellsTrouble}
use Rattle.program.specs.Watching.{Seen, TellsWith}

-- a text as a line
abbrev pub line_of : List ℕ → List ℕ
line_of text = text ++ codes "\n"

abbrev pub IsHelp : ErrorKind → Type 0
IsHelp kind = (kind ≡ DisplayHelp) ⊎ (kind ≡ DisplayVersion)

-- It was told why words ask for nothing: `no memory` and help among the answers, a fault on standard error, with status
-- 2. For memory, and for a write that failed, there is a line on standard error too.
pub record ExitsAsTold (why : MisunderstoodValue) (exit : ℕ) (before after faults_before faults_after : Seen) : Type 0 where
  pub memory : why.kind ≡ OutOfMemory → TellsWith 3 no_memory_line exit before after × TellsTrouble exit after faults_before faults_after
  pub help : IsHelp why.kind → TellsWith 0 (line_of why.text) exit before after × TellsTrouble exit after faults_before faults_after
  pub fault : why.kind ≢ OutOfMemory → ¬ IsHelp why.kind → TellsWith 2 (line_of why.text) exit faults_before faults_after × (after ≡ before)

-- what is told of a word that is no text
abbrev pub not_utf8_line : List ℕ
not_utf8_line = codes "error: a word of the command line isn't UTF-8\n"

-- It was told why there are no words: memory ran out, or one of them is no text.
pub record ExitsWithoutWords (why : IoErrorKind) (exit : ℕ) (before after faults_before faults_after : Seen) : Type 0 where
  pub memory : why ≡ IoOutOfMemory → TellsWith 3 no_memory_line exit before after × TellsTrouble exit after faults_before faults_after
  pub fault : why ≢ IoOutOfMemory → TellsWith 2 not_utf8_line exit faults_before faults_after × (after ≡ before)
