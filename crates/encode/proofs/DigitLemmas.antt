-- Numbers are read from the digits that are written of them.
use Rattle.std.proofs.Common.{◌≡◌, ℕ, zero, suc, ◌+◌, ◌/◌, ◌%◌, ◌^◌, ◌<◌, ◌≤◌, ◌==◌, ◌||◌, Bool, true, false, cond, not, List, [], ◌∷◌, length, refl, ap, sym, subst, ◌∙◌, arith, Some, inl, inr}
use Rattle.std.specs.Char.{digit_value}
use Rattle.std.specs.Fmt.{digits, decimal, digits_onto, digit_glyph}
use Rattle.std.specs.Str.Parse.{AllDigits, digits_value}
use Rattle.std.proofs.Math.Nat.{pow-suc}
use Rattle.std.proofs.lemmas.Bool.{lt-ltb, and_from, and_right, cases_eq}
use Rattle.std.proofs.lemmas.Fmt.{decimal_is_IsNumeral, digits_is_IsNumeral, length-decimal-le}
use borrow.Author.Tests.{ne_eqb, eq-eqb}
use Rattle.cmdcodec.specs.Text.{hexadecimal}
use Rattle.script.specs.Words.{all_digits, is_hex, number_of}
use Rattle.script.proofs.NumberLemmas.{number_in-some, number_of-hex, number_of-decimal}
use Rattle.line_answers.specs.LineWords.{is_blank}
use Rattle.line_answers.proofs.TextWords.{is_plain}

all_digits_from : (radix : ℕ) (ds : List ℕ) → AllDigits radix ds → all_digits radix ds ≡ true
all_digits_from radix [] h = refl
all_digits_from radix (c ∷ cs) h = and_from _ _ (lt-ltb _ _ h.0) (all_digits_from radix cs h.1)

no_x : (b : ℕ) → digit_value b < 10 → b == 120 ≡ false
no_x b small = ne_eqb b 120 (λ e. let no : digit_value 120 < 10 = subst (λ (c : ℕ). digit_value c < 10) e small in omega arith)

-- no 0x comes before decimal digits
not_hex : (ds : List ℕ) → AllDigits 10 ds → is_hex ds ≡ false
not_hex [] h = refl
not_hex (a ∷ []) h = refl
not_hex (a ∷ b ∷ ds) h = and_right (a == 48) (b == 120) (no_x b h.1.0)

pub number_of_decimal : (n : ℕ) → n < 2 ^ 64 → number_of (decimal n) ≡ Some n
number_of_decimal n small =
    let numeral = decimal_is_IsNumeral n small in
    let fits : digits_value 10 (decimal n) < 2 ^ 64 = omega (arith, numeral.1) in
    number_of-decimal (decimal n) (not_hex (decimal n) numeral.0.1)
    ∙ number_in-some 10 20 (decimal n) numeral.0.0 (length-decimal-le 20 n (omega arith) (omega arith) small) (all_digits_from 10 (decimal n) numeral.0.1) fits
    ∙ ap Some numeral.1

few_digits : (k j n : ℕ) (acc : List ℕ) → 0 < j → n < 16 ^ j → length (digits_onto k 16 false n acc) ≤ j + length acc
few_digits zero j n acc some small = omega arith
few_digits (suc k) zero n acc some small = absurd (omega arith)
few_digits (suc k) (suc zero) n acc some small =
    let glyph = digit_glyph false (n % 16) in
    let last : n / 16 ≡ 0 = omega arith in
    subst (λ (ds : List ℕ). length ds ≤ 1 + length acc)
    (sym (ap (λ (t : Bool). cond t (glyph ∷ acc) (digits_onto k 16 false (n / 16) (glyph ∷ acc))) (eq-eqb (n / 16) 0 last))) (omega arith)
few_digits (suc k) (suc (suc j)) n acc some small =
    let glyph = digit_glyph false (n % 16) in
    let P : List ℕ → Type 0 = λ ds. length ds ≤ suc (suc j) + length acc in
    let fewer : n / 16 < 16 ^ suc j = omega (arith, pow-suc 16 (suc j)) in
    let rest : length (digits_onto k 16 false (n / 16) (glyph ∷ acc)) ≤ suc j + length (glyph ∷ acc) = few_digits k (suc j) (n / 16) (glyph ∷ acc) (omega arith) fewer in
    elim (cases_eq (n / 16) 0) as (λ _. length (digits_onto (suc k) 16 false n acc) ≤ suc (suc j) + length acc) [
      | inl last ↦ subst P (sym (ap (λ (t : Bool). cond t (glyph ∷ acc) (digits_onto k 16 false (n / 16) (glyph ∷ acc))) (eq-eqb (n / 16) 0 last))) (omega arith)
      | inr more ↦ subst P (sym (ap (λ (t : Bool). cond t (glyph ∷ acc) (digits_onto k 16 false (n / 16) (glyph ∷ acc))) (ne_eqb (n / 16) 0 more))) (omega arith)
    ]

few_hex_digits : (n : ℕ) → n < 2 ^ 64 → length (digits 16 false n) ≤ 16
unfolding digits
few_hex_digits n small = few_digits 64 16 n [] (omega arith) (omega arith)

pub number_of_hexadecimal : (n : ℕ) → n < 2 ^ 64 → number_of (hexadecimal n) ≡ Some n
number_of_hexadecimal n small =
    let numeral = digits_is_IsNumeral 16 false (omega arith) (omega arith) n (omega arith) in
    let ds = digits 16 false n in
    let fits : digits_value 16 ds < 2 ^ 64 = omega (arith, numeral.1) in
    number_of-hex (hexadecimal n) refl
    ∙ number_in-some 16 16 ds numeral.0.0 (few_hex_digits n small) (all_digits_from 16 ds numeral.0.1) fits
    ∙ ap Some numeral.1

-- ---- digits are no blanks

no_blank : (radix c : ℕ) → radix ≤ 36 → digit_value c < radix → is_blank c ≡ false
no_blank radix c high small =
    let no_space : c == 32 ≡ false = ne_eqb c 32 (λ e. let no : digit_value 32 < radix = subst (λ (b : ℕ). digit_value b < radix) e small in omega arith) in
    let no_tab : c == 9 ≡ false = ne_eqb c 9 (λ e. let no : digit_value 9 < radix = subst (λ (b : ℕ). digit_value b < radix) e small in omega arith) in
    let no_return : c == 13 ≡ false = ne_eqb c 13 (λ e. let no : digit_value 13 < radix = subst (λ (b : ℕ). digit_value b < radix) e small in omega arith) in
    ap (λ (t : Bool). t || c == 9 || c == 13) no_space ∙ ap (λ (t : Bool). t || c == 13) no_tab ∙ no_return

plain_digits : (radix : ℕ) (ds : List ℕ) → radix ≤ 36 → AllDigits radix ds → is_plain ds ≡ true
plain_digits radix [] high h = refl
plain_digits radix (c ∷ cs) high h = and_from _ _ (ap not (no_blank radix c high h.0)) (plain_digits radix cs high h.1)

pub plain_decimal : (n : ℕ) → n < 2 ^ 64 → is_plain (decimal n) ≡ true
plain_decimal n small = plain_digits 10 (decimal n) (omega arith) (decimal_is_IsNumeral n small).0.1

pub plain_hexadecimal : (n : ℕ) → n < 2 ^ 64 → is_plain (hexadecimal n) ≡ true
plain_hexadecimal n small = plain_digits 16 (digits 16 false n) (omega arith) (digits_is_IsNumeral 16 false (omega arith) (omega arith) n (omega arith)).0.1
