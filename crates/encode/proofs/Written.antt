-- A field whose value is written out.
use Rattle.std.proofs.Common.{◌≡◌, ℕ, ◌*◌, ◌/◌, ◌%◌, ◌^◌, ◌<◌, ◌≤◌, ◌&&◌, nat_le, Bool, true, cond, not, List, [], ◌∷◌, ◌++◌, map, ap, ◌∙◌, refl, arith, Some, Ok, Err}
use Rattle.std.specs.Prelude.{Result}
use Rattle.std.specs.Fmt.{decimal}
use Rattle.std.specs.List.{list_all}
use Rattle.std.proofs.lemmas.List.Folds.{list_all-append}
use Rattle.std.proofs.lemmas.Bool.{and_from, eq-eqb, le-leb}
use Rattle.cmdcodec.specs.Fields.{bit}
use Rattle.cmdcodec.specs.Text.{hexadecimal}
use Rattle.script.specs.Words.{is_word, number_of}
use Rattle.encode.specs.declared.field.Field.{Field}
use Rattle.encode.specs.declared.field.Field.TheVariants as field
use Rattle.encode.specs.declared.fault.FieldFault.{FieldFault}
use Rattle.encode.specs.declared.fault.FieldFault.TheVariants.{OutOfRange, NoMultiple}
use Rattle.encode.specs.Fields.{key_of, least_of, most_of, unit_of}
use Rattle.encode.specs.Values.{value_said}
use Rattle.line_answers.specs.LineWords.{is_blank}
use Rattle.line_answers.proofs.TextWords.{is_plain}
use Rattle.encode.proofs.DigitLemmas.{number_of_decimal, number_of_hexadecimal, plain_decimal, plain_hexadecimal}

-- These digits say this value of the field, and no blank is among them.
pub record IsWritten (field : Field) (digits : List ℕ) (value : ℕ) : Type 0 where
  pub said : value_said field (number_of digits) ≡ Ok value
  pub plain : is_plain digits ≡ true

-- in decimal digits
abbrev pub IsInDecimal : Field → ℕ → Type 0
IsInDecimal field value = IsWritten field (decimal value) value

-- a field of one bit
abbrev pub IsFlag : Field → Bool → Type 0
IsFlag field flag = IsInDecimal field (bit flag)

-- an address, in bytes
abbrev pub IsInBytes : Field → ℕ → Type 0
IsInBytes field value = IsWritten field (hexadecimal (value * unit_of field)) value

-- ---- words that give fields

-- A field with the digits of its value.
pub record Given : Type 0 where
  pub which : Field
  pub digits : List ℕ
  pub plain : is_plain digits ≡ true

-- the field that is written out so
abbrev pub given : {field : Field} {digits : List ℕ} {value : ℕ} → IsWritten field digits value → Given
given {field = field} {digits = digits} written = record { which = field; digits = digits; plain = written.plain }

-- the word that gives it
abbrev pub word_of : Given → List ℕ
word_of given = key_of given.which ++ given.digits

plain_key : (f : Field) → is_plain (key_of f) ≡ true
plain_key field.Sid = refl
plain_key other = refl

some_word : (f : Field) (digits : List ℕ) → is_word (key_of f ++ digits) ≡ true
some_word field.Sid digits = refl
some_word other digits = refl

pub all_plain : (fields : List Given) → list_all is_plain (map word_of fields) ≡ true
all_plain [] = refl
all_plain (one ∷ others) =
    and_from _ _ (list_all-append (λ b. not (is_blank b)) (key_of one.which) one.digits ∙ and_from _ _ (plain_key one.which) one.plain) (all_plain others)

pub all_words : (fields : List Given) → list_all is_word (map word_of fields) ≡ true
all_words [] = refl
all_words (one ∷ others) = and_from _ _ (some_word one.which one.digits) (all_words others)

-- ---- how a value is written

said : (field : Field) (number value : ℕ) → number % unit_of field ≡ 0 → number / unit_of field ≡ value → least_of field ≤ value → value ≤ most_of field
    → value_said field (Some number) ≡ Ok value
said field number value whole units least most =
    let within : (nat_le (least_of field) value && nat_le value (most_of field)) ≡ true = and_from _ _ (le-leb _ _ least) (le-leb _ _ most) in
    let P : Bool → ℕ → Result ℕ FieldFault = λ t v.
    cond t (cond (nat_le (least_of field) v && nat_le v (most_of field)) (Ok v) (Err (OutOfRange field))) (Err (NoMultiple field)) in
    ap (λ (t : Bool). P t (number / unit_of field)) (eq-eqb _ _ whole) ∙ ap (P true) units
    ∙ ap (λ (t : Bool). cond t (Ok value) (Err (OutOfRange field))) within

-- a field that is no address, in decimal
pub in_decimal : (field : Field) (value : ℕ) → unit_of field ≡ 1 → least_of field ≤ value → value ≤ most_of field → value < 2 ^ 64 → IsWritten field (decimal value) value
in_decimal field value one least most small = record {
  said =
      ap (value_said field) (number_of_decimal value small)
      ∙ said field value value (ap (λ u. value % u) one ∙ omega arith) (ap (λ u. value / u) one ∙ omega arith) least most;
  plain = plain_decimal value small;
}

-- a field in hexadecimal
pub in_hexadecimal : (field : Field) (number value : ℕ) → number % unit_of field ≡ 0 → number / unit_of field ≡ value → least_of field ≤ value → value ≤ most_of field
    → number < 2 ^ 64 → IsWritten field (hexadecimal number) value
in_hexadecimal field number value whole units least most small = record {
  said = ap (value_said field) (number_of_hexadecimal number small) ∙ said field number value whole units least most;
  plain = plain_hexadecimal number small;
}
