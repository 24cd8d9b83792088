-- How large a number of so many digits is.
use Rattle.std.proofs.Common.{◌≡◌, ℕ, ◌^◌, ◌<◌, Bool, true, false, cond, List, [], ◌∷◌, None, Some, IfSome, length, nat_lt, refl}
use Rattle.std.proofs.lemmas.Bool.{and_parts, ltb-true}
use Rattle.std.proofs.lemmas.Int.Digits.{digits_value-lt}
use Rattle.std.specs.Char.{digit_value}
use Rattle.std.specs.List.{list_all}
use Rattle.std.specs.Str.Parse.{AllDigits, digits_value}
use Rattle.script.specs.Words.{all_digits, number_in}

each_digit : (digits : List ℕ) → all_digits 16 digits ≡ true → AllDigits 16 digits
each_digit [] all = tt
each_digit (d ∷ digits) all =
    let parts = and_parts (nat_lt (digit_value d) 16) (list_all (λ c. nat_lt (digit_value c) 16) digits) all in
    (ltb-true _ _ parts.0, each_digit digits parts.1)

digits_value_small : (digits : List ℕ) → all_digits 16 digits ≡ true → digits_value 16 digits < 16 ^ length digits
digits_value_small digits all = digits_value-lt 16 digits (each_digit digits all)

if_said : (said : Bool) (n bound : ℕ) → (said ≡ true → n < bound) → IfSome (cond said (Some n) None) (λ m. m < bound)
if_said true n bound small = small refl
if_said false n bound small = tt

pub number_small : (most : ℕ) (digits : List ℕ) → IfSome (number_in 16 most digits) (λ n. n < 16 ^ length digits)
unfolding number_in
number_small most digits = if_said _ (digits_value 16 digits) (16 ^ length digits) (λ said.
    digits_value_small digits (and_parts _ (all_digits 16 digits) (and_parts _ (nat_lt (digits_value 16 digits) (2 ^ 64)) said).0).1)
