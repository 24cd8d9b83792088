-- How many positions share a flag word, and that a batch's flags are in at most two.
use Rattle.std.proofs.Common.{◌≡◌, ℕ, ◌+◌, ◌-◌, ◌*◌, ◌/◌, ◌%◌, ◌<◌, ◌≤◌, cond, inl, inr, sym, ap, ◌∙◌, add-zero, arith}
use Rattle.std.proofs.lemmas.Bool.{cases_lt, le-leb, lt-leb}
use Rattle.std.specs.Prelude.{nat_le}
use Rattle.qindex.specs.Positions.{size, place}
use Rattle.qindex.specs.Laws.{IndexesTellPlaceAndWrapBit}
use Rattle.ringcore.specs.memory.Flags.{flag_bit, shared_word, IndexesTellSharedWords, BatchesHaveTwoFlagWords}
use Rattle.ringcore.proofs.MemoryLemmas.Places.{place-lt}
use Rattle.ringcore.proofs.MemoryLemmas.FlagPlaces.{further_place, next_place, whole_words, index_of_number}

pub tell_shared_words : IndexesTellPlaceAndWrapBit → IndexesTellSharedWords
tell_shared_words alike g p =
    let n : ℕ = p % (2 * size g) in
    let same : place g n ≡ place g p = ap (place g) (sym (add-zero n)) ∙ (alike g n p 0 (index_of_number g p)).place ∙ ap (place g) (add-zero p) in
    ap (λ q. cond (nat_le (size g) 64) (size g) (64 - q % 64)) same

small_word : (g p : ℕ) → size g ≤ 64 → shared_word g p ≡ size g
small_word g p small = ap (λ b. cond b (size g) (64 - flag_bit g p)) (le-leb (size g) 64 small)

large_word : (g p : ℕ) → 64 < size g → shared_word g p ≡ 64 - flag_bit g p
large_word g p large = ap (λ b. cond b (size g) (64 - flag_bit g p)) (lt-leb (size g) 64 large)

-- After the flags of a flag word comes the first of another.
next_first : (g p : ℕ) → 64 < size g → flag_bit g (p + (64 - flag_bit g p)) ≡ 0
next_first g p large =
    let r : ℕ = place g p in let s : ℕ = size g in
    let j : ℕ = 64 - r % 64 in
    let below : r < s = place-lt g p in
    elim (whole_words g) [
      | inl small ↦ absurd (omega (arith, small, large))
      | inr whole ↦
          let whole' : s ≡ 64 * (s / 64) = whole in
          elim (cases_lt (r + j) s) [
            | inl before ↦ ap (λ n. n % 64) (further_place g p j before) ∙ (let is : (r + j) % 64 ≡ 0 = omega arith in is)
            | inr past ↦
                let at_end : r + j ≡ s = omega arith in
                ap (λ n. n % 64) (next_place g p j past (omega (arith, at_end, large))) ∙ (let is : (r + j - s) % 64 ≡ 0 = omega arith in is)
          ]
    ]

pub two_flag_words : BatchesHaveTwoFlagWords
two_flag_words g p count few fits = elim (cases_lt 64 (size g)) [
  | inl large ↦
      let first = large_word g p large in
      let next = large_word g (p + shared_word g p) large in
      let start : flag_bit g (p + shared_word g p) ≡ 0 = ap (λ n. flag_bit g (p + n)) first ∙ next_first g p large in
      omega (arith, few, first, next, start)
  | inr small ↦ let first = small_word g p small in omega (arith, fits, first)
]
