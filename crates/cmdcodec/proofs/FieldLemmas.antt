-- A shift and a mask cut out a field.
use Rattle.std.proofs.Common.{◌≡◌, ℕ, zero, suc, ◌+◌, ◌-◌, ◌*◌, ◌/◌, ◌%◌, ◌^◌, ◌<◌, ◌≤◌, nat_lt, Bool, true, false, ◌&&◌, ◌||◌, [], ◌∷◌, inl, inr, refl, ap, sym, ◌∙◌, arith}
use Rattle.std.proofs.lemmas.Bool.{and_parts, and_left, and_right, or_from, or_cases, ltb-true, lt-leb}
use Rattle.std.specs.Prelude.{bit_and, nat_le}
use Rattle.std.proofs.lemmas.Nat.{and_mask, pow_pos, mod-pow-add, shr-shr}
use Rattle.std.proofs.lemmas.Nat.Bits.{ones_shr}
use Rattle.cmdcodec.specs.Fields.{field}
use Rattle.cmdcodec.specs.FreeBits.{Runs, is_among, IsAlikeBeside}

pub masked : (word high low : ℕ) → low ≤ high → high < 64 → bit_and (word / 2 ^ low) ((2 ^ 64 - 1) / 2 ^ (63 - (high - low))) ≡ field word high low
masked word high low order width =
    let ones = ones_shr 64 (63 - (high - low)) (omega arith) in
    let size : 64 - (63 - (high - low)) ≡ high + 1 - low = omega arith in
    ap (bit_and (word / 2 ^ low)) (ones ∙ ap (λ n. 2 ^ n - 1) size) ∙ and_mask (word / 2 ^ low) (high + 1 - low)

pub field-lt : (word high low : ℕ) → field word high low < 2 ^ (high + 1 - low)
field-lt word high low = let some = pow_pos (high + 1 - low) in omega arith

-- ---- A field is determined by its bits.

split_top : (x n : ℕ) → x % 2 ^ suc n ≡ x / 2 ^ n % 2 * 2 ^ n + x % 2 ^ n
split_top x n =
    let next : suc n ≡ 1 + n = omega arith in
    ap (λ m. x % 2 ^ m) next ∙ mod-pow-add x 1 n

bits_alike : (word other low n : ℕ) → ((k : ℕ) → k < n → word / 2 ^ (low + k) % 2 ≡ other / 2 ^ (low + k) % 2)
    → word / 2 ^ low % 2 ^ n ≡ other / 2 ^ low % 2 ^ n
bits_alike word other low zero alike = omega arith
bits_alike word other low (suc n) alike =
    let lower = bits_alike word other low n (λ k below. alike k (omega (arith, below))) in
    let top = ap (λ x. x % 2) (shr-shr word low n) ∙ alike n (omega arith) ∙ sym (ap (λ x. x % 2) (shr-shr other low n)) in
    split_top (word / 2 ^ low) n ∙ ap (λ t. t * 2 ^ n + word / 2 ^ low % 2 ^ n) top ∙ ap (λ r. other / 2 ^ low / 2 ^ n % 2 * 2 ^ n + r) lower
    ∙ sym (split_top (other / 2 ^ low) n)

pub one_bit : (word i : ℕ) → field word i i ≡ word / 2 ^ i % 2
one_bit word i =
    let width : i + 1 - i ≡ 1 = omega arith in
    ap (λ n. word / 2 ^ i % 2 ^ n) width

-- No run contains any of these bits.
abbrev pub is_apart : ℕ → ℕ → Runs → Bool
is_apart high low [] = true
is_apart high low (run ∷ runs) = (nat_lt high run.1 || nat_lt run.0 low) && is_apart high low runs

apart_among : (i high low : ℕ) (runs : Runs) → is_apart high low runs ≡ true → low ≤ i → i ≤ high → is_among i runs ≡ false
apart_among i high low [] apart from to = refl
apart_among i high low (run ∷ runs) apart from to =
    let parts = and_parts (nat_lt high run.1 || nat_lt run.0 low) (is_apart high low runs) apart in
    or_from (nat_le run.1 i && nat_le i run.0) (is_among i runs)
    (elim (or_cases (nat_lt high run.1) (nat_lt run.0 low) parts.0) [
      | inl above ↦ and_left (nat_le run.1 i) (nat_le i run.0) (lt-leb run.1 i (omega (arith, ltb-true high run.1 above, to)))
      | inr below ↦ and_right (nat_le run.1 i) (nat_le i run.0) (lt-leb i run.0 (omega (arith, ltb-true run.0 low below, from)))
    ])
    (apart_among i high low runs parts.1 from to)

-- A field without free bits is the same in words that differ only in free bits.
pub field_alike : (runs : Runs) (word other high low : ℕ) → IsAlikeBeside runs word other → is_apart high low runs ≡ true → low ≤ high → high < 64
    → field word high low ≡ field other high low
field_alike runs word other high low alike apart order width =
    bits_alike word other low (high + 1 - low) (λ k below.
    let from : low ≤ low + k = omega arith in
    let to : low + k ≤ high = omega (arith, below, order) in
    sym (one_bit word (low + k)) ∙ alike (low + k) (omega (arith, to, width)) (apart_among (low + k) high low runs apart from to) ∙ one_bit other (low + k))
