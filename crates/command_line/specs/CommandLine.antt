-- What a command line may say, and what it asks for.
use Rattle.std.specs.Prelude.{◌≡◌, ◌≢◌, ◌⊎◌, ◌<◌, ◌≤◌, ◌^◌, ℕ, Bool, true, false, List, ◌∷◌, [], Option, Some, None, Result, MatchResult, codes, map, pos, option_map, unwrap_or}
use Rattle.std.specs.Borrow.{Bor}
use Rattle.std.specs.Str.Parse.{IsNumeral, digits_value, without_leading_plus}
use Rattle.clap.specs.Words.{App, Kinds, Row, Rule, all_of, first_of, new_app, new_rule, one_of, subcommand_of, with_rule, with_subcommand}
pub use Rattle.clap.specs.Words.{IsAmong, Text, fault_of}
pub use Rattle.clap.specs.Walk.{texts}
use Rattle.clap.specs.declared.builder.value_parser.ValueParser.{ValueParser}
use Rattle.clap.specs.declared.builder.value_parser.ValueParser.TheVariants.{Signed}
pub use Rattle.clap.specs.declared.error.kind.ErrorKind.{ErrorKind}
pub use Rattle.clap.specs.declared.error.kind.ErrorKind.TheVariants.{DisplayHelp, DisplayVersion, OutOfMemory}
use Rattle.clap.specs.declared.builder.action.ArgAction.TheVariants.{Append, SetTrue}
use Rattle.command_line.specs.declared.convert_arguments.ConvertArguments.{ConvertArguments}
use Rattle.command_line.specs.declared.image_arguments.ImageArguments.{ImageArguments}
use Rattle.command_line.specs.declared.range_arguments.RangeArguments.{RangeArguments}
use Rattle.command_line.specs.declared.stress_numbers.StressNumbers.{StressNumbers}
use Rattle.command_line.specs.declared.subcommand.Subcommand.{Subcommand}
use Rattle.command_line.specs.declared.words_arguments.WordsArguments.{WordsArguments}
use Rattle.command_line.specs.declared.subcommand.Subcommand.TheVariants.{Replay, Schedule, Decode, Stress, Words, Image, Encode, Trace, Range, Convert}

-- ---- what it may say

abbrev pub replay : App
replay = new_app (codes "replay")

abbrev pub schedule : App
schedule = new_app (codes "schedule")

-- the one word of `decode`
abbrev pub hex : Rule
hex = record (new_rule (codes "HEX")) { required = true }

abbrev pub decode : App
decode = with_rule (new_app (codes "decode")) hex

-- a number from low to high
abbrev pub between : ℕ → ℕ → ValueParser
between low high = Signed (pos low) (pos high)

-- the option `--name` with its number, which may be left out
abbrev pub number : Text → ValueParser → Rule
number name range = record (new_rule name) { long = Some name; value_names = 1; parser = Some range }

-- the same, which must be given
abbrev pub wanted : Text → ValueParser → Rule
wanted name range = record (number name range) { required = true }

abbrev pub log2 : Rule
log2 = wanted (codes "log2") (between 1 19)

abbrev pub senders : Rule
senders = wanted (codes "senders") (between 1 64)

abbrev pub batches : Rule
batches = wanted (codes "batches") (between 1 100000)

abbrev pub turns : Rule
turns = wanted (codes "turns") (between 1 10000000)

abbrev pub bare : Rule
bare = record (number (codes "bare") (between 0 100000)) { defaults = codes "0" ∷ [] }

abbrev pub stress : App
stress = with_rule (with_rule (with_rule (with_rule (with_rule (new_app (codes "stress")) log2) senders) batches) turns) bare

-- the option `--name`, which has no text
abbrev pub flag : Text → Rule
flag name = record (new_rule name) { long = Some name; action = Some SetTrue }

abbrev pub words : App
words = with_rule (with_rule (new_app (codes "words")) (flag (codes "log"))) (flag (codes "hex"))

-- the option `--name` with its text, which may be left out
abbrev pub text : Text → Rule
text name = record (new_rule name) { long = Some name; value_names = 1 }

-- the same, which must be given
abbrev pub wanted_text : Text → Rule
wanted_text name = record (text name) { required = true }

abbrev pub image_log2 : Rule
image_log2 = number (codes "log2") (between 1 19)

abbrev pub prod : Rule
prod = wanted_text (codes "prod")

abbrev pub cons : Rule
cons = wanted_text (codes "cons")

-- the two registers and how many slots, of which the last may be left out
abbrev pub image_of_queue : App
image_of_queue = with_rule (with_rule (with_rule (new_app (codes "image")) image_log2) prod) cons

-- with the registers of errors, which may be left out
abbrev pub image_with_errors : App
image_with_errors = with_rule (with_rule image_of_queue (text (codes "gerror"))) (text (codes "gerrorn"))

abbrev pub image : App
image = with_rule (with_rule image_with_errors (flag (codes "all"))) (flag (codes "hex"))

abbrev pub encode : App
encode = new_app (codes "encode")

abbrev pub trace : App
trace = new_app (codes "trace")

-- whose translations: of a virtual machine, at stage 1 or 2, or the hypervisor's
abbrev pub range_of_space : App
range_of_space =
    with_rule (with_rule (with_rule (with_rule (new_app (codes "range"))
    (text (codes "vmid"))) (text (codes "asid"))) (flag (codes "el2"))) (flag (codes "stage2"))

-- with the bytes, which must be given
abbrev pub range_of_bytes : App
range_of_bytes = with_rule (with_rule range_of_space (wanted_text (codes "address"))) (wanted_text (codes "length"))

-- with what is known of the translation tables
abbrev pub range_of_tables : App
range_of_tables =
    with_rule (with_rule (with_rule range_of_bytes
    (text (codes "granule"))) (flag (codes "leaf"))) (number (codes "level") (between 1 3))

abbrev pub range : App
range = with_rule (with_rule range_of_tables (flag (codes "no-ril"))) (number (codes "limit") (between 0 100000))

-- the option `--name` with its text, which may be given any number of times
abbrev pub repeated : Text → Rule
repeated name = record (text name) { action = Some Append }

-- which guest it is
abbrev pub convert_of_guest : App
convert_of_guest = with_rule (with_rule (new_app (codes "convert")) (wanted_text (codes "vmid"))) (repeated (codes "stream"))

-- with what the host's SMMU lacks
abbrev pub convert_without_features : App
convert_without_features = with_rule (with_rule convert_of_guest (flag (codes "no-range"))) (flag (codes "no-ats"))

abbrev pub convert : App
convert = with_rule (with_rule convert_without_features (flag (codes "short-ids"))) (number (codes "substream-bits") (between 0 20))

-- `smmuq` itself, before its subcommands: it has a version, no word or option of its own, and requires a subcommand
abbrev pub alone : App
alone = record (new_app (codes "smmuq")) { top = record (new_app (codes "smmuq")).top { no_binary_name = true; subcommand_required = true; has_version = true } }

abbrev pub smmuq : App
smmuq =
    with_subcommand (with_subcommand (with_subcommand (with_subcommand (with_subcommand (with_subcommand (with_subcommand (with_subcommand (with_subcommand (with_subcommand alone
    replay.top) schedule.top) decode.top) stress.top) words.top) image.top) encode.top) trace.top) range.top) convert.top

-- ---- what it asks for

-- The text that was found for the option `name` writes n, which lies from low to high.
abbrev pub IsNumber : Text → ℕ → ℕ → List Row → ℕ → Type 0
IsNumber name low high rows n = (text : Text) × (one_of name rows ≡ Some text) × IsNumeral 10 (without_leading_plus text)
    × (n ≡ digits_value 10 (without_leading_plus text)) × (low ≤ n) × (n ≤ high)

pub record AreNumbers (rows : List Row) (numbers : StressNumbers) : Type 0 where
  pub log2 : IsNumber (codes "log2") 1 19 rows numbers.log2
  pub senders : IsNumber (codes "senders") 1 64 rows numbers.senders
  pub batches : IsNumber (codes "batches") 1 100000 rows numbers.batches
  pub turns : IsNumber (codes "turns") 1 10000000 rows numbers.turns
  pub bare : IsNumber (codes "bare") 0 100000 rows numbers.bare

-- n is the number of the option `name`, if its text writes one of 32 bits
abbrev pub ReadsNumber : List Row → Text → ℕ → Type 0
ReadsNumber rows name n = (text : Text) → one_of name rows ≡ Some text → IsNumeral 10 (without_leading_plus text)
    → digits_value 10 (without_leading_plus text) < 2 ^ 32 → n ≡ digits_value 10 (without_leading_plus text)

-- The option `name` was given or not, if a text was found that says so.
abbrev pub IsFlag : Text → List Row → Bool → Type 0
IsFlag name rows given = (one_of name rows ≡ Some (codes "true") → given ≡ true) × (one_of name rows ≡ Some (codes "false") → given ≡ false)

-- the text is the first of the option `name`, if one was found
abbrev pub ReadsText : List Row → Text → Text → Type 0
ReadsText rows name text = (found : Text) → first_of name rows ≡ Some found → text ≡ found

-- The number of an option that may be left out is there if one of 32 bits was found for it, and not if no text was.
pub record MayReadNumber (rows : List Row) (name : Text) (given : Option ℕ) : Type 0 where
  pub left_out : one_of name rows ≡ None → given ≡ None
  pub read : (text : Text) → one_of name rows ≡ Some text → IsNumeral 10 (without_leading_plus text)
      → digits_value 10 (without_leading_plus text) < 2 ^ 32 → given ≡ Some (digits_value 10 (without_leading_plus text))

-- the text of an option that may be left out
abbrev pub MayReadText : List Row → Text → Option (Bor Text) → Type 0
MayReadText rows name given = option_map (λ text. text.now) given ≡ first_of name rows

pub record ReadsImage (rows : List Row) (asked : ImageArguments) : Type 0 where
  pub log2 : MayReadNumber rows (codes "log2") asked.log2
  pub prod : ReadsText rows (codes "prod") asked.prod.now
  pub cons : ReadsText rows (codes "cons") asked.cons.now
  pub gerror : MayReadText rows (codes "gerror") asked.gerror
  pub gerrorn : MayReadText rows (codes "gerrorn") asked.gerrorn
  pub all : IsFlag (codes "all") rows asked.all
  pub hex : IsFlag (codes "hex") rows asked.hex

pub record ReadsWords (rows : List Row) (asked : WordsArguments) : Type 0 where
  pub log : IsFlag (codes "log") rows asked.log
  pub hex : IsFlag (codes "hex") rows asked.hex

pub record ReadsRange (rows : List Row) (asked : RangeArguments) : Type 0 where
  pub vmid : MayReadText rows (codes "vmid") asked.vmid
  pub asid : MayReadText rows (codes "asid") asked.asid
  pub el2 : IsFlag (codes "el2") rows asked.el2
  pub stage2 : IsFlag (codes "stage2") rows asked.stage2
  pub address : ReadsText rows (codes "address") asked.address.now
  pub length : ReadsText rows (codes "length") asked.length.now
  pub granule : MayReadText rows (codes "granule") asked.granule
  pub leaf : IsFlag (codes "leaf") rows asked.leaf
  pub level : MayReadNumber rows (codes "level") asked.level
  pub no_ril : IsFlag (codes "no-ril") rows asked.no_ril
  pub limit : MayReadNumber rows (codes "limit") asked.limit

-- All texts that were found for an option that may be given again, in order.
abbrev pub ReadsTexts : List Row → Text → List (Bor Text) → Type 0
ReadsTexts rows name texts = map (λ text. text.now) texts ≡ unwrap_or (all_of name rows) []

pub record ReadsConvert (rows : List Row) (asked : ConvertArguments) : Type 0 where
  pub vmid : ReadsText rows (codes "vmid") asked.vmid.now
  pub streams : ReadsTexts rows (codes "stream") asked.streams.items
  pub no_range : IsFlag (codes "no-range") rows asked.no_range
  pub no_ats : IsFlag (codes "no-ats") rows asked.no_ats
  pub short_ids : IsFlag (codes "short-ids") rows asked.short_ids
  pub substream_bits : MayReadNumber rows (codes "substream-bits") asked.substream_bits

-- what a subcommand of this name asks for, given what was found for its arguments
abbrev pub Asks : Text → List Row → Subcommand → Type 0
Asks name rows Replay = name ≡ codes "replay"
Asks name rows Schedule = name ≡ codes "schedule"
Asks name rows (Decode word) = (name ≡ codes "decode") × (first_of (codes "HEX") rows ≡ Some word.now)
Asks name rows (Stress numbers) = (name ≡ codes "stress") × AreNumbers rows numbers
Asks name rows (Words asked) = (name ≡ codes "words") × ReadsWords rows asked
Asks name rows (Image asked) = (name ≡ codes "image") × ReadsImage rows asked
Asks name rows Encode = name ≡ codes "encode"
Asks name rows Trace = name ≡ codes "trace"
Asks name rows (Range asked) = (name ≡ codes "range") × ReadsRange rows asked
Asks name rows (Convert asked) = (name ≡ codes "convert") × ReadsConvert rows asked

-- The subcommand is what the words ask for: by clap's definition they name one, and give its arguments what is found
-- for them.
abbrev pub AskFor : List Text → Subcommand → Type 0
AskFor words subcommand = (name : Text) × (rows : List Row) × (subcommand_of smmuq words ≡ Some (name, rows)) × Asks name rows subcommand

-- why words ask for no subcommand, and the text that tells it
pub record MisunderstoodValue : Type 0 where
  pub kind : ErrorKind
  pub text : Text

-- Memory ran out, or the kind is one of these; and nothing is `Ok` unless there is none.
abbrev pub FailsOnlyBy : {T : Type 0} → Kinds → Result T MisunderstoodValue → Type 0
FailsOnlyBy kinds r = MatchResult r (λ _. kinds ≡ []) (λ why. (why.kind ≡ OutOfMemory) ⊎ IsAmong why.kind kinds)

-- ---- what is read from any matches, also from those that no words give

pub record ReadsNumbers (rows : List Row) (numbers : StressNumbers) : Type 0 where
  pub log2 : ReadsNumber rows (codes "log2") numbers.log2
  pub senders : ReadsNumber rows (codes "senders") numbers.senders
  pub batches : ReadsNumber rows (codes "batches") numbers.batches
  pub turns : ReadsNumber rows (codes "turns") numbers.turns
  pub bare : ReadsNumber rows (codes "bare") numbers.bare

-- for a subcommand's name and what was found for its arguments
abbrev pub ReadsOf : Text → List Row → Subcommand → Type 0
ReadsOf name rows Replay =
    (name ≢ codes "schedule") × (name ≢ codes "stress") × (name ≢ codes "words") × (name ≢ codes "image") × (name ≢ codes "encode")
    × (name ≢ codes "trace") × (name ≢ codes "range") × (name ≢ codes "convert")
    × (name ≡ codes "decode" → first_of (codes "HEX") rows ≡ None)
ReadsOf name rows Schedule = name ≡ codes "schedule"
ReadsOf name rows (Decode word) = (name ≡ codes "decode") × (first_of (codes "HEX") rows ≡ Some word.now)
ReadsOf name rows (Stress numbers) = (name ≡ codes "stress") × ReadsNumbers rows numbers
ReadsOf name rows (Words asked) = (name ≡ codes "words") × ReadsWords rows asked
ReadsOf name rows (Image asked) = (name ≡ codes "image") × ReadsImage rows asked
ReadsOf name rows Encode = name ≡ codes "encode"
ReadsOf name rows Trace = name ≡ codes "trace"
ReadsOf name rows (Range asked) = (name ≡ codes "range") × ReadsRange rows asked
ReadsOf name rows (Convert asked) = (name ≡ codes "convert") × ReadsConvert rows asked

abbrev pub Reads : Option (Text × List Row) → Subcommand → Type 0
Reads None subcommand = subcommand ≡ Replay
Reads (Some found) subcommand = ReadsOf found.0 found.1 subcommand
