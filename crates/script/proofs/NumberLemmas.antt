-- Which number digits say.
use Rattle.std.proofs.Common.{◌≡◌, ℕ, ◌+◌, ◌*◌, ◌^◌, ◌<◌, ◌≤◌, ◌&&◌, true, false, cond, List, [], ◌∷◌, length, get_or, take, drop, nat_lt, nat_le, refl, ap, arith, Some, None}
use Rattle.std.proofs.lemmas.Bool.{le-ltb, lt-ltb, and_left, and_right, cond-false, cond-true, and_from}
use Rattle.std.proofs.lemmas.Bool.Decides.{nat_tests}
use Rattle.std.proofs.lemmas.List.Folds.{list_all_at}
use Rattle.std.proofs.lemmas.Int.Digits.{digits_value_more}
use Rattle.std.proofs.lemmas.Str.Parse.{digits_value-take-le}
use Rattle.std.specs.Char.{digit_value}
use Rattle.std.specs.Str.Parse.{digits_value}
use Rattle.script.specs.Words.{is_word, all_digits, number_in, number_of, is_hex}

pub number_in-no_digits : (radix most : ℕ) (digits : List ℕ) → length digits ≡ 0 → number_in radix most digits ≡ None
unfolding number_in
number_in-no_digits radix most [] e = refl
number_in-no_digits radix most (d ∷ digits) e = absurd (omega arith)

not_within : (n most : ℕ) → most < n → nat_le n most ≡ false
not_within n most h = grind (arith, nat_tests)

within : (n most : ℕ) → n ≤ most → nat_le n most ≡ true
within n most h = grind (arith, nat_tests)

-- more digits than a number may have
pub number_in-too_long : (radix most : ℕ) (digits : List ℕ) → most < length digits → number_in radix most digits ≡ None
unfolding number_in
number_in-too_long radix most digits long =
    cond-false _ _ None (and_left (is_word digits && nat_le (length digits) most && all_digits radix digits) _
    (and_left (is_word digits && nat_le (length digits) most) _ (and_right (is_word digits) _ (not_within _ _ long))))

-- a byte that is no digit
pub number_in-no_digit : (radix most : ℕ) (digits : List ℕ) (i : ℕ) → i < length digits → radix ≤ digit_value (get_or digits i 0) → number_in radix most digits ≡ None
unfolding number_in
number_in-no_digit radix most digits i inside bad =
    cond-false _ _ None (and_left (is_word digits && nat_le (length digits) most && all_digits radix digits) _
    (and_right (is_word digits && nat_le (length digits) most) _ (list_all_at (λ c. nat_lt (digit_value c) radix) digits i 0 inside (le-ltb _ _ bad))))

-- a front whose number is too large already
pub number_in-too_large : (radix most : ℕ) (digits : List ℕ) (i : ℕ) → 1 ≤ radix → i < length digits
    → 2 ^ 64 ≤ digits_value radix (take i digits) * radix + digit_value (get_or digits i 0) → number_in radix most digits ≡ None
unfolding number_in
number_in-too_large radix most digits i some inside large =
    let value_of_front = digits_value_more radix digits i inside in
    let at_least_its_front = digits_value-take-le radix digits (i + 1) some in
    cond-false _ _ None (and_right (is_word digits && nat_le (length digits) most && all_digits radix digits) _ (le-ltb _ _ (omega arith)))

is_word-some : (digits : List ℕ) → 0 < length digits → is_word digits ≡ true
is_word-some [] some = absurd (omega arith)
is_word-some (d ∷ digits) some = refl

pub number_in-some : (radix most : ℕ) (digits : List ℕ) → 0 < length digits → length digits ≤ most → all_digits radix digits ≡ true → digits_value radix digits < 2 ^ 64
    → number_in radix most digits ≡ Some (digits_value radix digits)
unfolding number_in
number_in-some radix most digits some few all small =
    cond-true _ (Some (digits_value radix digits)) None
    (and_from (is_word digits && nat_le (length digits) most && all_digits radix digits) _
    (and_from (is_word digits && nat_le (length digits) most) _ (and_from (is_word digits) _ (is_word-some digits some) (within _ _ few)) all) (lt-ltb _ _ small))

pub number_of-hex : (word : List ℕ) → is_hex word ≡ true → number_of word ≡ number_in 16 16 (drop 2 word)
unfolding number_of
number_of-hex word h = ap (λ t. cond t (number_in 16 16 (drop 2 word)) (number_in 10 20 word)) h

pub number_of-decimal : (word : List ℕ) → is_hex word ≡ false → number_of word ≡ number_in 10 20 word
unfolding number_of
number_of-decimal word h = ap (λ t. cond t (number_in 16 16 (drop 2 word)) (number_in 10 20 word)) h
