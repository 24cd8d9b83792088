-- The mask that flips a run of flags: one stretch of bits, or two if the run continues past the ring's end.
use Rattle.std.proofs.Common.{◌≡◌, ℕ, ◌+◌, ◌-◌, ◌*◌, ◌/◌, ◌%◌, ◌^◌, ◌<◌, ◌≤◌, ◌↔◌, inl, inr, sym, ap, ◌∙◌, arith, bit_or}
use Rattle.std.proofs.lemmas.Bool.{cases_lt}
use Rattle.std.proofs.lemmas.Nat.Bits.{bit_at_or, bit_at-lt, bit_at_mask_inside, bit_at_mask_below, bit_at_mask_above, ones_shr}
use Rattle.std.proofs.lemmas.Nat.{shl_whole, pow_pos, pow-add}
use Rattle.std.proofs.Math.Nat.{mul_comm, mul-sub, mul-one}
use Rattle.std.specs.Int.{bit_at}
use mathlib.Core.Logic.{dite}
use native.Mathlib.Decide.{ℕ_discrete}
use Rattle.qindex.specs.Positions.{size, place}
use Rattle.ringcore.specs.world.Allowed.{ShareAWord}
use Rattle.ringcore.specs.memory.Flags.{flag_bit, IsFlagOf, IsFlipMask}
use Rattle.ringcore.proofs.MemoryLemmas.Places.{place-lt}
use Rattle.ringcore.proofs.MemoryLemmas.FlagPlaces.{further_bit, small_bit, next_bit, in_ring, shares_no_more}

-- The mask is count bits from first on.
abbrev pub IsStretch : ℕ → ℕ → ℕ → Type 0
IsStretch mask first count = (bit : ℕ) → (bit_at mask bit ≡ 1) ↔ ((first ≤ bit) × (bit < first + count))

-- what the code computes
stretch_is : (first count : ℕ) → first + count ≤ 64 → (2 ^ 64 - 1) / 2 ^ (64 - count) * 2 ^ first % 2 ^ 64 ≡ 2 ^ (first + count) - 2 ^ first
stretch_is first count within =
    let left : 64 - (64 - count) ≡ count = omega arith in
    let ones : (2 ^ 64 - 1) / 2 ^ (64 - count) ≡ 2 ^ count - 1 = ones_shr 64 (64 - count) (omega arith) ∙ ap (λ n. 2 ^ n - 1) left in
    let some = pow_pos count in
    ap (λ n. n * 2 ^ first % 2 ^ 64) ones ∙ shl_whole (2 ^ count - 1) count first 64 (omega arith) (omega arith)
    ∙ mul_comm (2 ^ count - 1) (2 ^ first) ∙ mul-sub (2 ^ first) (2 ^ count) 1 ∙ ap (λ n. n - 2 ^ first * 1) (sym (pow-add 2 first count))
    ∙ ap (λ n. 2 ^ (first + count) - n) (mul-one (2 ^ first))

within_stretch : (first count bit : ℕ) → bit_at (2 ^ (first + count) - 2 ^ first) bit ≡ 1 → (first ≤ bit) × (bit < first + count)
within_stretch first count bit set =
    elim (cases_lt bit first) [
      | inl below ↦ absurd (omega (arith, set, bit_at_mask_below first (first + count) bit below))
      | inr low ↦ elim (cases_lt bit (first + count)) [
        | inl high ↦ (low, high)
        | inr above ↦ absurd (omega (arith, set, bit_at_mask_above first (first + count) bit above))
      ]
    ]

pub is_stretch : (first count : ℕ) → first + count ≤ 64 → IsStretch ((2 ^ 64 - 1) / 2 ^ (64 - count) * 2 ^ first % 2 ^ 64) first count
is_stretch first count within bit =
    let is : bit_at ((2 ^ 64 - 1) / 2 ^ (64 - count) * 2 ^ first % 2 ^ 64) bit ≡ bit_at (2 ^ (first + count) - 2 ^ first) bit = ap (λ n. bit_at n bit) (stretch_is first count within) in (
      λ set. within_stretch first count bit (sym is ∙ set),
      λ inside. is ∙ bit_at_mask_inside first (first + count) bit inside.0 inside.1,
    )

-- ---- what shares a flag word

pub run_fits : (g p count : ℕ) → ShareAWord 64 g p count → place g p + count ≤ size g → flag_bit g p + count ≤ 64
run_fits g p count shares inside = elim (cases_lt 64 (size g)) [
  | inl large ↦ shares_no_more g p count large shares
  | inr small ↦ let start = small_bit g p small in omega (arith, start, inside, small)
]

-- The run continues past the ring's end only if the ring has one flag word.
pub one_flag_word : (g p count : ℕ) → ShareAWord 64 g p count → size g < place g p + count → size g ≤ 64
one_flag_word g p count shares past = elim (cases_lt 64 (size g)) [
  | inr small ↦ small
  | inl large ↦ absurd (let inside = in_ring g p count large (shares_no_more g p count large shares) in omega (arith, inside, past))
]

-- ---- one stretch

pub one_stretch : (g p count mask : ℕ) → mask < 2 ^ 64 → place g p + count ≤ size g → flag_bit g p + count ≤ 64
    → IsStretch mask (flag_bit g p) count → IsFlipMask g p count mask
one_stretch g p count mask fits in_ring in_word stretch = record {
  fits = fits;
  bits = λ bit. (
    λ set.
        let inside = (stretch bit).0 set in
        let offset : ℕ = bit - flag_bit g p in
        let at : flag_bit g (p + offset) ≡ flag_bit g p + offset = further_bit g p offset (omega (arith, inside.0, inside.1)) (omega (arith, inside.0, inside.1)) in
        record { offset = offset; among = omega (arith, inside.0, inside.1); is_its = omega (arith, inside.0, at) },
    λ flag.
        let at : flag_bit g (p + flag.offset) ≡ flag_bit g p + flag.offset = further_bit g p flag.offset (omega (arith, flag.among)) (omega (arith, flag.among)) in
        (stretch bit).1 (omega (arith, flag.is_its, at), omega (arith, flag.is_its, at, flag.among)),
  );
}

-- ---- two stretches

module _ (g p count here mask other : ℕ) (small : size g ≤ 64) (to_end : place g p + here ≡ size g) (past : here < count) (most : count ≤ size g)
    (first : IsStretch mask (flag_bit g p) here) (second : IsStretch other 0 (count - here)) where
  start : flag_bit g p ≡ place g p
  start = small_bit g p small

  flag_here : (bit : ℕ) → bit_at mask bit ≡ 1 → IsFlagOf g p count bit
  flag_here bit set =
      let inside = (first bit).0 set in
      let offset : ℕ = bit - place g p in
      let at : flag_bit g (p + offset) ≡ flag_bit g p + offset = further_bit g p offset (omega (arith, inside.0, inside.1, start)) (omega (arith, inside.0, inside.1, start)) in
      record { offset = offset; among = omega (arith, inside.0, inside.1, start); is_its = omega (arith, inside.0, at, start) }

  flag_next : (bit : ℕ) → bit_at other bit ≡ 1 → IsFlagOf g p count bit
  flag_next bit set =
      let inside = (second bit).0 set in
      let offset : ℕ = bit + here in
      let at : flag_bit g (p + offset) ≡ place g p + offset - size g = next_bit g p offset small (omega arith) (omega (arith, inside.1)) in
      record { offset = offset; among = omega (arith, inside.1); is_its = omega (arith, at) }

  flag_of : (bit : ℕ) → bit_at (bit_or mask other) bit ≡ 1 → IsFlagOf g p count bit
  flag_of bit set = dite (ℕ_discrete (bit_at mask bit) 1)
      (flag_here bit)
      (λ none. flag_next bit (omega (arith, set, none, bit_at_or mask other bit, bit_at-lt mask bit, bit_at-lt other bit)))

  set_of : (bit : ℕ) → IsFlagOf g p count bit → bit_at (bit_or mask other) bit ≡ 1
  set_of bit flag =
      elim (cases_lt flag.offset here) [
        | inl before ↦
            let at : flag_bit g (p + flag.offset) ≡ flag_bit g p + flag.offset = further_bit g p flag.offset (omega (arith, before)) (omega (arith, before, start)) in
            let set : bit_at mask bit ≡ 1 = (first bit).1 (omega (arith, flag.is_its, at), omega (arith, flag.is_its, at, before)) in
            omega (arith, set, bit_at_or mask other bit, bit_at-lt other bit)
        | inr after ↦
            let below = place-lt g p in
            let at : flag_bit g (p + flag.offset) ≡ place g p + flag.offset - size g = next_bit g p flag.offset small (omega (arith, after)) (omega (arith, flag.among, below)) in
            let set : bit_at other bit ≡ 1 = (second bit).1 (omega arith, omega (arith, flag.is_its, at, flag.among, after)) in
            omega (arith, set, bit_at_or mask other bit, bit_at-lt mask bit)
      ]

  pub two_stretches : bit_or mask other < 2 ^ 64 → IsFlipMask g p count (bit_or mask other)
  two_stretches fits = record { fits = fits; bits = λ bit. (flag_of bit, set_of bit) }
