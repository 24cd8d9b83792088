-- How far the pieces of a range of granules reach.
use Rattle.std.proofs.Common.{◌≡◌, ℕ, zero, suc, ◌+◌, ◌-◌, ◌*◌, ◌/◌, ◌%◌, ◌^◌, ◌<◌, ◌≤◌, ◌==◌, min, true, inl, inr, refl, ap, sym, ◌∙◌, arith}
use Rattle.std.proofs.lemmas.Bool.{cases_Bool, eqb-true, eqb-false, eq-eqb}
use Rattle.std.proofs.lemmas.Nat.{pow_pos, pow-add, shl-shr, mul-le}
use Rattle.std.proofs.Math.Nat.{pow-suc, mul_assoc, add-mul, mul_comm}
use Rattle.std.specs.Int.Count.{count_trailing_zeros, under}
use Rattle.invalidations.specs.Pieces.{scale_of, count_of, reached_of}

halved : (n t d : ℕ) → n % 2 ≡ d → (q : ℕ) × (n / 2 ≡ q * 2 ^ t) → (q : ℕ) × (n ≡ q * 2 ^ under d t)
halved n t zero even (q, half) =
    let twice : n ≡ n / 2 * 2 = omega (arith, even) in
    (q, twice ∙ ap (λ x. x * 2) half ∙ mul_assoc q (2 ^ t) 2 ∙ ap (λ x. q * x) (sym (pow-suc 2 t)))
halved n t (suc d) odd half = (n, omega arith)

-- a number is a multiple of 2 to the power of its trailing zeros
divided : (k n : ℕ) → (q : ℕ) × (n ≡ q * 2 ^ count_trailing_zeros k n)
unfolding count_trailing_zeros
divided zero n = (n, omega arith)
divided (suc k) n = halved n (count_trailing_zeros k (n / 2)) (n % 2) refl (divided k (n / 2))

-- and of any lower power
pub lower : (n q t s : ℕ) → s ≤ t → n ≡ q * 2 ^ t → n ≡ n / 2 ^ s * 2 ^ s
lower n q t s below multiple =
    let split : t ≡ t - s + s = omega (arith, below) in
    let powers = ap (λ k. q * 2 ^ k) split ∙ ap (λ x. q * x) (pow-add 2 (t - s) s) ∙ sym (mul_assoc q (2 ^ (t - s)) (2 ^ s)) in
    let whole = multiple ∙ powers in
    let quotient = ap (λ x. x / 2 ^ s) whole ∙ shl-shr (q * 2 ^ (t - s)) s in
    whole ∙ ap (λ x. x * 2 ^ s) (sym quotient)

pub scaled : (left : ℕ) → left ≡ left / 2 ^ scale_of left * 2 ^ scale_of left
unfolding scale_of
scaled left =
    let t = count_trailing_zeros 64 left in
    let multiple = divided 64 left in
    lower left multiple.0 t (min t 31) (omega arith) multiple.1

-- The count is at least 1, and at most the number of whole steps in the granules.
count_within : (left : ℕ) → 0 < left / 2 ^ scale_of left → count_of left ≤ left / 2 ^ scale_of left
unfolding count_of
count_within left some =
    let m = left / 2 ^ scale_of left in
    elim (cases_Bool (m % 32 == 0)) [
      | inl is ↦ rw is (let none = eqb-true (m % 32) 0 is in omega (arith, some, none))
      | inr isnt ↦ rw isnt (omega arith)
    ]

pub count_some : (left : ℕ) → 0 < count_of left
unfolding count_of
count_some left =
    let m = left / 2 ^ scale_of left in
    elim (cases_Bool (m % 32 == 0)) [
      | inl is ↦ rw is (omega arith)
      | inr isnt ↦ rw isnt (let some = eqb-false (m % 32) 0 isnt in omega (arith, some))
    ]

quotient_some : (left power : ℕ) → 0 < left → left ≡ left / power * power → 0 < left / power
quotient_some left power some whole =
    elim (cases_Bool (left / power == 0)) [
      | inl is ↦ absurd (let none = whole ∙ ap (λ x. x * power) (eqb-true (left / power) 0 is) in omega (arith, some, none))
      | inr isnt ↦ let other = eqb-false (left / power) 0 isnt in omega (arith, other)
    ]

pub reached_is : (left : ℕ) → reached_of left ≡ count_of left * 2 ^ scale_of left
unfolding reached_of
reached_is left = refl

-- The next command reaches some of the granules, and no more than there are.
pub reached_within : (left : ℕ) → 0 < left → reached_of left ≤ left
unfolding reached_of
reached_within left some =
    let power = 2 ^ scale_of left in
    let count = count_within left (quotient_some left power some (scaled left)) in
    let product = mul-le (count_of left) power (left / power) power count (omega arith) in
    omega (arith, product, scaled left)

pub reached_some : (left : ℕ) → 0 < reached_of left
unfolding reached_of
reached_some left =
    let power = 2 ^ scale_of left in
    let product = mul-le 1 1 (count_of left) power (count_some left) (pow_pos (scale_of left)) in
    omega (arith, product)

-- ---- What is left after it is a multiple of 32 times its scale.

counted : (left : ℕ) → 0 < left / 2 ^ scale_of left → (k : ℕ) × (left / 2 ^ scale_of left ≡ count_of left + k * 32)
unfolding count_of
counted left some =
    let m = left / 2 ^ scale_of left in
    elim (cases_Bool (m % 32 == 0)) as (λ _. (k : ℕ) × (left / 2 ^ scale_of left ≡ count_of left + k * 32)) [
      | inl is ↦ (m / 32 - 1, rw is (let none = eqb-true (m % 32) 0 is in omega (arith, some, none)))
      | inr isnt ↦ (m / 32, rw isnt (omega arith))
    ]

pub after : (left : ℕ) → 0 < left → (k : ℕ) × (left - reached_of left ≡ k * 2 ^ scale_of left * 32)
after left some =
    let power = 2 ^ scale_of left in
    let m = left / power in
    let split = counted left (quotient_some left power some (scaled left)) in
    let k = split.0 in
    let whole : left ≡ (count_of left + k * 32) * power = scaled left ∙ ap (λ n. n * power) split.1 in
    let parts : (count_of left + k * 32) * power ≡ count_of left * power + k * 32 * power = add-mul (count_of left) (k * 32) power in
    let turned : k * 32 * power ≡ k * power * 32 = mul_assoc k 32 power ∙ ap (λ n. k * n) (mul_comm 32 power) ∙ sym (mul_assoc k power 32) in
    (k, omega (arith, whole, parts, turned, reached_is left))

-- So no single granule is left behind a command.
pub no_single : (left : ℕ) → 0 < left → (left - reached_of left ≡ 1) → ⊥
no_single left some is = let rest = after left some in omega (arith, rest.1, is)

-- A multiple of a power of 2 has as many trailing zeros.
at_least : (d c t : ℕ) → d ≡ 0 → t ≤ c → suc t ≤ under d c
at_least zero c t even below = omega (arith, below)
at_least (suc d) c t odd below = absurd (omega (arith, odd))

trailing : (k n t q : ℕ) → 0 < n → t ≤ k → n ≡ q * 2 ^ t → t ≤ count_trailing_zeros k n
unfolding count_trailing_zeros
trailing k n zero q some within is = omega arith
trailing zero n (suc t) q some within is = absurd (omega (arith, within))
trailing (suc k) n (suc t) q some within is =
    let twice : n ≡ q * 2 ^ t * 2 = is ∙ ap (λ x. q * x) (pow-suc 2 t) ∙ sym (mul_assoc q (2 ^ t) 2) in
    let half : n / 2 ≡ q * 2 ^ t = omega (arith, twice) in
    at_least (n % 2) (count_trailing_zeros k (n / 2)) t (omega (arith, twice)) (trailing k (n / 2) t q (omega (arith, some, twice)) (omega (arith, within)) half)

pub scale_at_least : (left t q : ℕ) → 0 < left → t ≤ 31 → left ≡ q * 2 ^ t → t ≤ scale_of left
unfolding scale_of
scale_at_least left t q some small is =
    let zeros = trailing 64 left t q some (omega (arith, small)) is in
    omega (arith, zeros, small)

-- a multiple of a power of 2 is one of each lower power
pub multiple_of_lower : (n q s e : ℕ) → e ≤ s → n ≡ q * 2 ^ s → (r : ℕ) × (n ≡ r * 2 ^ e)
multiple_of_lower n q s e below is = (n / 2 ^ e, lower n q s e below is)

-- Behind a command, the granules left have 5 trailing zeros more.
pub after_multiple : (left e q : ℕ) → 0 < left → e ≤ 36 → left ≡ q * 2 ^ (e - 5) → (r : ℕ) × (left - reached_of left ≡ r * 2 ^ e)
after_multiple left e q some small is =
    let rest = after left some in
    let k = rest.0 in
    let s = scale_of left in
    let scale = scale_at_least left (e - 5) q some (omega (arith, small)) is in
    let power : 2 ^ (s + 5) ≡ 2 ^ s * 32 = pow-add 2 s 5 in
    let whole : left - reached_of left ≡ k * 2 ^ (s + 5) = rest.1 ∙ mul_assoc k (2 ^ s) 32 ∙ ap (λ x. k * x) (sym power) in
    multiple_of_lower (left - reached_of left) k (s + 5) e (omega (arith, scale)) whole

scale_most : (left : ℕ) → scale_of left ≤ 31
unfolding scale_of
scale_most left = omega arith

-- Of a multiple of 2^36 a command reaches 2^36.
pub reached_most : (left q : ℕ) → 0 < left → left ≡ q * 2 ^ 36 → reached_of left ≡ 2 ^ 36
unfolding count_of reached_of
reached_most left q some is =
    let again : left ≡ q * 32 * 2 ^ 31 = omega (arith, is) in
    let least = scale_at_least left 31 (q * 32) some (omega arith) again in
    let scale : scale_of left ≡ 31 = let most = scale_most left in omega (arith, least, most) in
    let quotient : left / 2 ^ scale_of left ≡ q * 32 = ap (λ s. left / 2 ^ s) scale ∙ omega (arith, again) in
    let none : (left / 2 ^ scale_of left % 32 == 0) ≡ true = ap (λ m. m % 32 == 0) quotient ∙ eq-eqb (q * 32 % 32) 0 (omega arith) in
    rw none (ap (λ s. 32 * 2 ^ s) scale)
