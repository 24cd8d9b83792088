-- What the program does, and how it ends.
use Rattle.std.specs.Prelude.{◌≡◌, ℕ, List, ◌⊎◌, Bool, true, false, [], Option, None, Some}
use Rattle.std.specs.Io.KnownBytes.{Keeps}
use Rattle.command_line.specs.CommandLine.{AskFor, IsAmong, MisunderstoodValue, OutOfMemory, Text, fault_of, smmuq}
use Rattle.command_line.specs.declared.subcommand.Subcommand.{Subcommand}
use Rattle.command_line.specs.declared.subcommand.Subcommand.TheVariants.{Replay, Schedule, Decode, Stress, Words, Image, Encode, Trace, Range, Convert}
use Rattle.script.specs.Writing.{no_memory_line}
use Rattle.script.specs.declared.status.Status.{Status}
use Rattle.script.specs.declared.status.Status.TheVariants.{Good, Refused, NoMemory, ReadFailed, WriteFailed, Endless}
use Rattle.script.specs.Statuses.{exit_status}
use Rattle.schedule.specs.Scheduling.{ExitsAsSchedule}
use Rattle.replay.specs.Replaying.{ExitsAsReplay}
use Rattle.decode.specs.DecodeText.{decode_text}
use Rattle.encode.specs.Tellings.{ExitsAsEncode}
use Rattle.image.specs.Tellings.{ExitsAsImage}
use Rattle.trace.specs.Tellings.{ExitsAsTrace}
use Rattle.words.specs.Tellings.{ExitsAsWords, ExitsAsLog, ExitsAsDump}
use Rattle.program.specs.Conversion.{ExitsAsConvert, guest_asked_of}
use Rattle.program.specs.Explaining.{Explains}
use Rattle.program.specs.Images.{asked_of}
use Rattle.program.specs.Ranging.{ExitsAsRange, range_asked_of}
use Rattle.program.specs.Stressing.{ExitsAsStress, plan_of}
use Rattle.program.specs.Telling.{ExitsAsTold, line_of}
use Rattle.program.specs.Troubles.{TellsTrouble}
use Rattle.program.specs.Unclear.{unclear_of, unclear_line}
use Rattle.program.specs.declared.unclear.Unclear.{Unclear}
use Rattle.program.specs.Watching.{HasFailed, Seen, Tells, TellsWith}

-- What the status of `decode` says: the line that says what the word means was told, and the word is legal or isn't; or
-- memory ran out; or a call of the writer failed. It reads nothing.
abbrev pub Decodes : Status → List ℕ → Seen → Seen → Type 0
Decodes Good word before after = ((decode_text word).1 ≡ true) × Tells before after (line_of (decode_text word).0)
Decodes Refused word before after = ((decode_text word).1 ≡ false) × Tells before after (line_of (decode_text word).0)
Decodes NoMemory word before after = Tells before after no_memory_line
Decodes WriteFailed word before after = HasFailed after
Decodes ReadFailed word before after = ⊥
Decodes Endless word before after = ⊥

-- It ended with the exit status of `decode`.
abbrev pub ExitsAsDecode : ℕ → List ℕ → Seen → Seen → Type 0
ExitsAsDecode exit word before after = (status : Status) × (exit ≡ exit_status status) × Decodes status word before after

-- Lines were answered, as words, as a kernel's log or as those of a hex dump.
abbrev pub ExitsInForm : (log hex : Bool) → ℕ → Option (List ℕ) → Option (List ℕ) → Option (List ℕ) → Option (List ℕ) → Type 0
ExitsInForm true hex exit input rest before after = ExitsAsLog exit input rest before after
ExitsInForm false true exit input rest before after = ExitsAsDump exit input rest before after
ExitsInForm false false exit input rest before after = ExitsAsWords exit input rest before after

-- It did what was asked for: a script was replayed, or played as a schedule; or nothing was read, and a word was
-- decoded, a stress run made or the commands of a range written; or lines of words, of text or of a guest's commands were
-- answered, an image was shown, or a log was judged.
abbrev pub ExitsAs : Subcommand → ℕ → Option (List ℕ) → Option (List ℕ) → Seen → Seen → Type 0
ExitsAs Replay exit input rest before after = ExitsAsReplay exit input rest before.bytes after.bytes
ExitsAs Schedule exit input rest before after = ExitsAsSchedule exit input rest before.bytes after.bytes
ExitsAs (Decode word) exit input rest before after = Keeps input rest × ExitsAsDecode exit word.now before after
ExitsAs (Stress numbers) exit input rest before after = Keeps input rest × ExitsAsStress exit (plan_of numbers) before after
ExitsAs (Words asked) exit input rest before after = ExitsInForm asked.log asked.hex exit input rest before.bytes after.bytes
ExitsAs (Image arguments) exit input rest before after = ExitsAsImage (asked_of arguments) exit input rest before.bytes after.bytes
ExitsAs Encode exit input rest before after = ExitsAsEncode exit input rest before.bytes after.bytes
ExitsAs Trace exit input rest before after = ExitsAsTrace exit input rest before.bytes after.bytes
ExitsAs (Range arguments) exit input rest before after =
    Keeps input rest × ExitsAsRange exit (range_asked_of arguments) before after
ExitsAs (Convert arguments) exit input rest before after = ExitsAsConvert (guest_asked_of arguments) exit input rest before after

-- The words have no fault, and it did what they ask for; on standard error it told first of the line that ended a
-- script, or why lines were refused, and then only of memory, or of a stream that failed.
pub record ExitsAsAsked (words : List Text) (exit : ℕ) (input rest : Option (List ℕ)) (before after faults_before faults_after : Seen) : Type 0 where
  pub sound : fault_of smmuq words ≡ []
  pub subcommand : Subcommand
  pub asked : AskFor words subcommand
  pub clear : unclear_of subcommand ≡ None
  pub done : ExitsAs subcommand exit input rest before after
  pub faults_between : Seen
  pub explained : Explains subcommand exit input before after faults_before faults_between
  pub troubles : TellsTrouble exit after faults_between faults_after

-- The words have no fault, but it isn't clear what they ask for; that was told, and nothing was read.
pub record ExitsAsUnclear (words : List Text) (exit : ℕ) (input rest : Option (List ℕ)) (before after faults_before faults_after : Seen) : Type 0 where
  pub sound : fault_of smmuq words ≡ []
  pub subcommand : Subcommand
  pub asked : AskFor words subcommand
  pub unclear : Unclear
  pub unclear_is : unclear_of subcommand ≡ Some unclear
  pub told : TellsWith 2 (unclear_line unclear) exit faults_before faults_after
  pub silent : after ≡ before
  pub unread : Keeps input rest

-- Memory ran out over the words, or they ask for help, or they have a fault; that was told, and nothing was read.
pub record ExitsAsMisunderstood (words : List Text) (exit : ℕ) (input rest : Option (List ℕ)) (before after faults_before faults_after : Seen) : Type 0 where
  pub why : MisunderstoodValue
  pub has : (why.kind ≡ OutOfMemory) ⊎ IsAmong why.kind (fault_of smmuq words)
  pub told : ExitsAsTold why exit before after faults_before faults_after
  pub unread : Keeps input rest

abbrev pub ExitsAsProgram : List Text → ℕ → Option (List ℕ) → Option (List ℕ) → Seen → Seen → Seen → Seen → Type 0
ExitsAsProgram words exit input rest before after faults_before faults_after =
    ExitsAsAsked words exit input rest before after faults_before faults_after
    ⊎ (ExitsAsUnclear words exit input rest before after faults_before faults_after
    ⊎ ExitsAsMisunderstood words exit input rest before after faults_before faults_after)
