-- What a subcommand's name and rows say of what is asked for.
use Rattle.std.proofs.Common.{◌≡◌, ◌∙◌, List, Option, Some, None, refl, sym, ap, subst, codes, option_map}
use Rattle.std.specs.Borrow.{Bor}
use Rattle.std.proofs.lemmas.Option.{same_Some}
use Rattle.clap.specs.Words.{Row, Text, first_of}
use Rattle.command_line.specs.CommandLine.{Reads, ReadsConvert, ReadsImage, ReadsNumbers, ReadsRange, ReadsWords}
use Rattle.command_line.specs.declared.convert_arguments.ConvertArguments.{ConvertArguments}
use Rattle.command_line.specs.declared.image_arguments.ImageArguments.{ImageArguments}
use Rattle.command_line.specs.declared.range_arguments.RangeArguments.{RangeArguments}
use Rattle.command_line.specs.declared.stress_numbers.StressNumbers.{StressNumbers}
use Rattle.command_line.specs.declared.words_arguments.WordsArguments.{WordsArguments}
use Rattle.command_line.specs.declared.subcommand.Subcommand.TheVariants.{Replay, Schedule, Decode, Stress, Words, Image, Encode, Trace, Range, Convert}

abbrev pub name_in : Option (Text × List Row) → Option Text
name_in = option_map (λ p. p.0)

abbrev pub rows_in : Option (Text × List Row) → Option (List Row)
rows_in = option_map (λ p. p.1)

pub first_of_both : {X : Type 0} (f : X → Text) (g : X → List Row) (o : Option X) → option_map f o ≡ option_map (λ (p : Text × List Row). p.0) (option_map (λ x. (f x, g x)) o)
first_of_both f g None = refl
first_of_both f g (Some x) = refl

pub scheduled : (o : Option (Text × List Row)) → name_in o ≡ Some (codes "schedule") → Reads o Schedule
scheduled None name = cc
scheduled (Some p) name = same_Some _ _ name

pub stressed : (o : Option (Text × List Row)) (rows : List Row) (numbers : StressNumbers) → name_in o ≡ Some (codes "stress") → rows_in o ≡ Some rows → ReadsNumbers rows numbers
    → Reads o (Stress numbers)
stressed None rows numbers name has h = cc
stressed (Some p) rows numbers name has h = (same_Some _ _ name, subst (λ rs. ReadsNumbers rs numbers) (same_Some _ _ (sym has)) h)

pub worded : (o : Option (Text × List Row)) (rows : List Row) (asked : WordsArguments) → name_in o ≡ Some (codes "words") → rows_in o ≡ Some rows → ReadsWords rows asked
    → Reads o (Words asked)
worded None rows asked name has h = cc
worded (Some p) rows asked name has h = (same_Some _ _ name, subst (λ rs. ReadsWords rs asked) (same_Some _ _ (sym has)) h)

pub encoded : (o : Option (Text × List Row)) → name_in o ≡ Some (codes "encode") → Reads o Encode
encoded None name = cc
encoded (Some p) name = same_Some _ _ name

pub traced : (o : Option (Text × List Row)) → name_in o ≡ Some (codes "trace") → Reads o Trace
traced None name = cc
traced (Some p) name = same_Some _ _ name

pub imaged : (o : Option (Text × List Row)) (rows : List Row) (asked : ImageArguments) → name_in o ≡ Some (codes "image") → rows_in o ≡ Some rows → ReadsImage rows asked
    → Reads o (Image asked)
imaged None rows asked name has h = cc
imaged (Some p) rows asked name has h = (same_Some _ _ name, subst (λ rs. ReadsImage rs asked) (same_Some _ _ (sym has)) h)

pub ranged : (o : Option (Text × List Row)) (rows : List Row) (asked : RangeArguments) → name_in o ≡ Some (codes "range") → rows_in o ≡ Some rows → ReadsRange rows asked
    → Reads o (Range asked)
ranged None rows asked name has h = cc
ranged (Some p) rows asked name has h = (same_Some _ _ name, subst (λ rs. ReadsRange rs asked) (same_Some _ _ (sym has)) h)

pub converted : (o : Option (Text × List Row)) (rows : List Row) (asked : ConvertArguments) → name_in o ≡ Some (codes "convert") → rows_in o ≡ Some rows → ReadsConvert rows asked
    → Reads o (Convert asked)
converted None rows asked name has h = cc
converted (Some p) rows asked name has h = (same_Some _ _ name, subst (λ rs. ReadsConvert rs asked) (same_Some _ _ (sym has)) h)

pub decoded : (o : Option (Text × List Row)) (rows : List Row) (word : Bor Text) → name_in o ≡ Some (codes "decode") → rows_in o ≡ Some rows → first_of (codes "HEX") rows ≡ Some word.now
    → Reads o (Decode word)
decoded None rows word name has h = cc
decoded (Some p) rows word name has h = (same_Some _ _ name, ap (first_of (codes "HEX")) (same_Some _ _ has) ∙ h)

pub replayed : (o : Option (Text × List Row)) → (name_in o ≡ Some (codes "schedule") → ⊥) → (name_in o ≡ Some (codes "stress") → ⊥) → (name_in o ≡ Some (codes "words") → ⊥)
    → (name_in o ≡ Some (codes "image") → ⊥) → (name_in o ≡ Some (codes "encode") → ⊥)
    → (name_in o ≡ Some (codes "trace") → ⊥) → (name_in o ≡ Some (codes "range") → ⊥) → (name_in o ≡ Some (codes "convert") → ⊥)
    → (name_in o ≡ Some (codes "decode") → (rows : List Row) × (rows_in o ≡ Some rows) × (first_of (codes "HEX") rows ≡ None)) → Reads o Replay
replayed None schedule stress words image encode trace range convert decode = refl
replayed (Some p) schedule stress words image encode trace range convert decode = (
  λ e. schedule (ap Some e),
  λ e. stress (ap Some e),
  λ e. words (ap Some e),
  λ e. image (ap Some e),
  λ e. encode (ap Some e),
  λ e. trace (ap Some e),
  λ e. range (ap Some e),
  λ e. convert (ap Some e),
  λ e. let has = decode (ap Some e) in ap (first_of (codes "HEX")) (same_Some _ _ has.1) ∙ has.2,
)
