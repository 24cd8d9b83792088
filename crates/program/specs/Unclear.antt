-- Command lines without a fault that ask for nothing all the same, since it isn't clear what is meant.
use Rattle.std.specs.Prelude.{ℕ, nat_le, ◌==◌, ◌&&◌, ◌||◌, not, is_some, Bool, true, false, Option, None, Some, List, [], ◌∷◌, ◌++◌, codes, if◌then◌else◌}
use Rattle.std.specs.Borrow.{Bor}
use Rattle.command_line.specs.declared.image_arguments.ImageArguments.{ImageArguments}
use Rattle.command_line.specs.declared.range_arguments.RangeArguments.{RangeArguments}
use Rattle.command_line.specs.declared.words_arguments.WordsArguments.{WordsArguments}
use Rattle.command_line.specs.declared.subcommand.Subcommand.{Subcommand}
use Rattle.command_line.specs.declared.subcommand.Subcommand.TheVariants.{Image, Range, Words}
use Rattle.script.specs.Words.{words_of}
use Rattle.program.specs.declared.unclear.Unclear.{Unclear}
use Rattle.program.specs.declared.unclear.Unclear.TheVariants.{LeadingZero, OneErrorRegister, TwoForms, LeadingZeroOfNumber, Whose, LevelWithoutLeaf}

-- Two decimal digits and more, of which the first is 0: whoever wrote them may have meant hexadecimal ones.
abbrev pub is_zero_led : List ℕ → Bool
is_zero_led [] = false
is_zero_led (a ∷ []) = false
is_zero_led (a ∷ b ∷ digits) = a == 48 && (nat_le 48 b && nat_le b 57)

abbrev pub is_zero_led_first : List (List ℕ) → Bool
is_zero_led_first [] = false
is_zero_led_first (word ∷ words) = is_zero_led word

abbrev pub is_register_unclear : List ℕ → Bool
is_register_unclear text = is_zero_led_first (words_of text)

abbrev pub is_given_unclear : Option (Bor (List ℕ)) → Bool
is_given_unclear None = false
is_given_unclear (Some text) = is_register_unclear text.now

-- One of the error registers is given without the other.
abbrev pub is_one_given : Option (Bor (List ℕ)) → Option (Bor (List ℕ)) → Bool
is_one_given None None = false
is_one_given None (Some gerrorn) = true
is_one_given (Some gerror) None = true
is_one_given (Some gerror) (Some gerrorn) = false

abbrev pub has_leading_zero : ImageArguments → Bool
has_leading_zero arguments =
    is_register_unclear arguments.prod.now || (is_register_unclear arguments.cons.now
    || (is_given_unclear arguments.gerror || is_given_unclear arguments.gerrorn))

abbrev pub image_unclear : ImageArguments → Option Unclear
image_unclear arguments =
    if has_leading_zero arguments then Some LeadingZero
    else if is_one_given arguments.gerror arguments.gerrorn then Some OneErrorRegister else None

abbrev pub words_unclear : WordsArguments → Option Unclear
words_unclear arguments = if arguments.log && arguments.hex then Some TwoForms else None

abbrev pub has_unclear_number : RangeArguments → Bool
has_unclear_number arguments =
    is_given_unclear arguments.vmid || (is_given_unclear arguments.asid
    || (is_register_unclear arguments.address.now || is_register_unclear arguments.length.now))

-- It is said whose translations a range is of: the hypervisor's, or stage 1 or 2 of a virtual machine, of which stage 2
-- has no ASID.
abbrev pub is_whose_clear : (el2 stage2 : Bool) (vmid asid : Option (Bor (List ℕ))) → Bool
is_whose_clear true true vmid asid = false
is_whose_clear true false vmid asid = not (is_some vmid)
is_whose_clear false true vmid asid = is_some vmid && not (is_some asid)
is_whose_clear false false vmid asid = is_some vmid

abbrev pub range_unclear : RangeArguments → Option Unclear
range_unclear arguments =
    if has_unclear_number arguments then Some LeadingZeroOfNumber
    else if not (is_whose_clear arguments.el2 arguments.stage2 arguments.vmid arguments.asid) then Some Whose
    else if is_some arguments.level && not arguments.leaf then Some LevelWithoutLeaf else None

abbrev pub unclear_of : Subcommand → Option Unclear
unclear_of (Image arguments) = image_unclear arguments
unclear_of (Words arguments) = words_unclear arguments
unclear_of (Range arguments) = range_unclear arguments
unclear_of other = None

-- the line that tells it
abbrev pub unclear_text : Unclear → List ℕ
unclear_text LeadingZero = codes "error: a register is decimal digits without a leading 0, or 0x and hexadecimal digits: write 98 or 0x98 for 098"
unclear_text OneErrorRegister = codes "error: --gerror and --gerrorn are given together or not at all"
unclear_text TwoForms = codes "error: --log and --hex aren't given together"
unclear_text LeadingZeroOfNumber = codes "error: a number is decimal digits without a leading 0, or 0x and hexadecimal digits: write 98 or 0x98 for 098"
unclear_text Whose = codes "error: a range is of --vmid V, of --el2, or of --stage2 --vmid V; --asid A goes with the first two"
unclear_text LevelWithoutLeaf = codes "error: --level is given with --leaf"

abbrev pub unclear_line : Unclear → List ℕ
unclear_line unclear = unclear_text unclear ++ codes "\n"
