-- Masks of spans, by their bits and by the greatest of these.
use Rattle.std.proofs.Common.{◌≡◌, ℕ, suc, pow-suc, ◌+◌, ◌-◌, ◌*◌, ◌<◌, ◌≤◌, ◌^◌, inl, inr, sym, ◌∙◌, ap, subst, arith}
use Rattle.std.proofs.Math.Pow.{pow_mono}
use Rattle.std.proofs.lemmas.Bool.{cases_lt, cases_eq}
use Rattle.std.proofs.lemmas.Nat.Bits.{bit_at_above, bit_at_cat_low, bit_at_cat_high}
use Rattle.std.specs.Int.{bit_at}
use Rattle.caches.specs.Blocks.{HasSpan}

pub clear : (mask n : ℕ) → bit_at mask n ≡ 0 → ¬ HasSpan mask n
clear mask n none has = let set = has.1 in omega (arith, none, set)

-- A mask below 2^k has no span from k on.
pub below_end : (mask end n : ℕ) → mask < 2 ^ end → HasSpan mask n → n < end
below_end mask end n few has = elim (cases_lt n end) as (λ _. n < end) [
  | inl below ↦ below
  | inr from ↦ absurd (clear mask n (bit_at_above mask end n few from) has)
]

module _ (mask top : ℕ) (low : 2 ^ top ≤ mask) (high : mask < 2 * 2 ^ top) where
  whole : mask ≡ 1 * 2 ^ top + (mask - 2 ^ top)
  whole = omega arith

  rest_few : mask - 2 ^ top < 2 ^ top
  rest_few = omega arith

  pub top_few : mask < 2 ^ 53 → top ≤ 52
  top_few few = elim (cases_lt top 53) as (λ _. top ≤ 52) [
    | inl below ↦ omega (arith, below)
    | inr from ↦ let more : 2 ^ 53 ≤ 2 ^ top = pow_mono from in absurd (omega (arith, more, few, low))
  ]

  pub top_set : bit_at mask top ≡ 1
  top_set = ap (λ m. bit_at m top) whole ∙ bit_at_cat_high 1 top (mask - 2 ^ top) top rest_few (omega arith) ∙ ap (bit_at 1) (let none : top - top ≡ 0 = omega arith in none)

  pub none_above : (n : ℕ) → top < n → ¬ HasSpan mask n
  none_above n above has = let more : 2 ^ suc top ≤ 2 ^ n = pow_mono above in clear mask n (bit_at_above mask n n (omega (arith, more, pow-suc 2 top)) (omega arith)) has

  same_below : (n : ℕ) → n < top → bit_at mask n ≡ bit_at (mask - 2 ^ top) n
  same_below n below = ap (λ m. bit_at m n) whole ∙ bit_at_cat_low 1 top (mask - 2 ^ top) n below

  -- What is left without the greatest is of the mask.
  pub left_set : (n : ℕ) → HasSpan (mask - 2 ^ top) n → HasSpan mask n
  left_set n has = (has.0, same_below n (below_end (mask - 2 ^ top) top n rest_few has) ∙ has.1)

  -- What is known of the greatest, and of all spans that the mask lacks, is known of all that are not left.
  pub known_but_left : (spans : ℕ) (Known : ℕ → Type 0) → Known top → ((n : ℕ) → HasSpan spans n → ¬ HasSpan mask n → Known n) → (n : ℕ) → HasSpan spans n → ¬ HasSpan (mask - 2 ^ top) n → Known n
  known_but_left spans Known here others n asked gone = elim (cases_eq n top) as (λ _. Known n) [
    | inl same ↦ subst Known (sym same) here
    | inr apart ↦ others n asked (λ has. elim (cases_lt n top) as (λ _. ⊥) [
      | inl below ↦ gone (has.0, sym (same_below n below) ∙ has.1)
      | inr from ↦ none_above n (omega (arith, from, apart)) has
    ])
  ]
