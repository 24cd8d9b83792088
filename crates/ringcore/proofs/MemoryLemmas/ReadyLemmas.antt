-- How many positions in a row are flipped according to a flag word.
use Rattle.std.proofs.Common.{◌≡◌, ◌≢◌, ◌⊎◌, ℕ, zero, suc, ◌+◌, ◌-◌, ◌/◌, ◌%◌, ◌^◌, ◌<◌, ◌≤◌, min, Bool, true, false, cond, inl, inr, refl, sym, ap, ◌∙◌, arith, w64}
use Rattle.std.proofs.lemmas.Bool.{cases_lt}
use Rattle.std.proofs.lemmas.Nat.{shr-shr, shr_le}
use Rattle.std.proofs.lemmas.Nat.Bits.{bit_at-lt, bit_at_not, bit_at-trailing_ones, bit_at_ones, bit_at_above}
use Rattle.std.specs.Prelude.{◌==◌, not}
use Rattle.std.specs.Int.{bit_at, trailing_ones, bit_not}
use Rattle.std.specs.Int.Count.{trailing_of_zero, count_trailing_zeros}
use mathlib.Core.Logic.{dite}
use native.Mathlib.Decide.{dec_lt}
use Rattle.qindex.specs.Positions.{size, place}
use Rattle.qindex.specs.ControlWord.{bit as bit_of}
use Rattle.ringcore.specs.world.Allowed.{ShareAWord}
use Rattle.ringcore.specs.memory.Flags.{flag_bit, polarity, IsReadyRun}
use Rattle.ringcore.proofs.MemoryLemmas.Places.{place-lt}
use Rattle.ringcore.proofs.MemoryLemmas.FlagPlaces.{further_bit, further_polarity, small_bit, next_bit, next_polarity, small_shares, large_shares, shares_no_more, in_ring, polarity-lt}

-- ---- bits

bit_is : (n : ℕ) → n < 2 → bit_of (n == 1) ≡ n
bit_is zero small = refl
bit_is (suc zero) small = refl
bit_is (suc (suc n)) small = absurd (omega (arith, small))

turned_bit : (b : Bool) → bit_of (not b) ≡ 1 - bit_of b
turned_bit true = refl
turned_bit false = refl

-- ---- equal bits in a row

-- how many bits in a row, from the lowest on, are 1
ones_in_a_row : (x : ℕ) → x < 2 ^ 64
    → (trailing_ones w64 x ≤ 64) × ((i : ℕ) → i < trailing_ones w64 x → bit_at x i ≡ 1) × (trailing_ones w64 x < 64 → bit_at x (trailing_ones w64 x) ≡ 0)
ones_in_a_row x fits = dite (dec_lt (x + 1) (2 ^ 64))
    (λ below. let run = bit_at-trailing_ones w64 x below in (omega (arith, run.0), run.2, λ l. run.1))
    (λ full.
    let is : x ≡ 2 ^ 64 - 1 = omega arith in
    let none : bit_not w64 x ≡ 0 = omega arith in
    let all : trailing_ones w64 x ≡ 64 = ap (λ n. count_trailing_zeros 64 n) none ∙ trailing_of_zero 64 in
    (omega arith, λ i l. ap (λ n. bit_at n i) is ∙ bit_at_ones 64 i (omega arith), λ l. absurd (omega arith)))

-- the word, inverted if zeros are looked for
abbrev pub turned_to : Bool → ℕ → ℕ
turned_to b word = cond b word (bit_not w64 word)

turned_fits : (b : Bool) (word : ℕ) → word < 2 ^ 64 → turned_to b word < 2 ^ 64
turned_fits true word fits = fits
turned_fits false word fits = omega arith

turned_one : (b : Bool) (word i : ℕ) → word < 2 ^ 64 → i < 64 → bit_at (turned_to b word) i ≡ 1 → bit_at word i ≡ bit_of b
turned_one true word i fits small one = one
turned_one false word i fits small one = omega (arith, one, bit_at_not w64 word i fits small, bit_at-lt word i)

turned_zero : (b : Bool) (word i : ℕ) → word < 2 ^ 64 → i < 64 → bit_at (turned_to b word) i ≡ 0 → bit_at word i ≢ bit_of b
turned_zero true word i fits small none same = omega (arith, none, same)
turned_zero false word i fits small none same = omega (arith, none, same, bit_at_not w64 word i fits small)

-- This many bits of a word in a row, from first on, are x.
pub record AreEqualBits (word first x found : ℕ) : Type 0 where
  pub within : first + found ≤ 64
  pub equal : (bit : ℕ) → first ≤ bit → bit < first + found → bit_at word bit ≡ x
  pub stop : first + found < 64 → bit_at word (first + found) ≢ x

pub equal_bits : (word first : ℕ) (b : Bool) → word < 2 ^ 64 → first < 64
    → AreEqualBits word first (bit_of b) (trailing_ones w64 (turned_to b word / 2 ^ first))
equal_bits word first b fits small =
    let y : ℕ = turned_to b word in
    let y_fits : y < 2 ^ 64 = turned_fits b word fits in
    let x : ℕ = y / 2 ^ first in
    let run = ones_in_a_row x (omega (arith, shr_le y first, y_fits)) in
    let found : ℕ = trailing_ones w64 x in
    let shifted : (i : ℕ) → bit_at x i ≡ bit_at y (first + i) = λ i. ap (λ n. n % 2) (shr-shr y first i) in
    let within : first + found ≤ 64 = (elim (cases_lt (64 - first) found) [
      | inr fits ↦ omega (arith, fits)
      | inl over ↦
          let set : bit_at y (first + (64 - first)) ≡ 1 = sym (shifted (64 - first)) ∙ run.1 (64 - first) over in
          absurd (omega (arith, set, bit_at_above y 64 (first + (64 - first)) y_fits (omega arith)))
    ]) in
    record {
      within = within;
      equal = λ bit low high.
          let is : first + (bit - first) ≡ bit = omega (arith, low) in
          turned_one b word bit fits (omega (arith, high, within)) (ap (bit_at y) (sym is) ∙ sym (shifted (bit - first)) ∙ run.1 (bit - first) (omega (arith, low, high)));
      stop = λ fewer. turned_zero b word (first + found) fits fewer (sym (shifted found) ∙ run.2 (omega (arith, fewer)));
    }

-- ---- the run from the head on

-- why a run ends: the limit is reached, its word ends, or the next flag says so
abbrev pub Ends : ℕ → ℕ → ℕ → ℕ → ℕ → Type 0
Ends g word p limit found =
    (found ≡ limit)
    ⊎ ((64 < size g) × (flag_bit g p + found ≡ 64))
    ⊎ ((place g p + found < size g) × (flag_bit g p + found < 64) × (bit_at word (flag_bit g p + found) ≢ polarity g p))

module _ (g p word limit found : ℕ) (fits : place g p + found ≤ size g) (within : flag_bit g p + found ≤ 64)
    (equal : (bit : ℕ) → flag_bit g p ≤ bit → bit < flag_bit g p + found → bit_at word bit ≡ polarity g p) where
  shares_here : ShareAWord 64 g p found
  shares_here = elim (cases_lt 64 (size g)) [ inl large ↦ large_shares g p found large within | inr small ↦ small_shares g p found small ]

  pub ready_here : (offset : ℕ) → offset < found → bit_at word (flag_bit g (p + offset)) ≡ polarity g (p + offset)
  ready_here offset among =
      ap (bit_at word) (further_bit g p offset (omega arith) (omega arith))
      ∙ equal (flag_bit g p + offset) (omega arith) (omega (arith, among))
      ∙ sym (further_polarity g p offset (omega arith))

  no_more_here : Ends g word p limit found → found < limit → ShareAWord 64 g p (suc found) → bit_at word (flag_bit g (p + found)) ≢ polarity g (p + found)
  no_more_here ends fewer shares same =
      elim ends [
        | inl all ↦ absurd (omega arith)
        | inr later ↦ elim later [
          | inl at_end ↦ absurd (let next = shares_no_more g p (suc found) at_end.0 shares in omega (arith, next, at_end.1))
          | inr other ↦ other.2 (ap (bit_at word) (sym (further_bit g p found other.0 other.1)) ∙ same ∙ further_polarity g p found other.0)
        ]
      ]

  pub one_lap : found ≤ limit → Ends g word p limit found → IsReadyRun g word p limit found
  one_lap most ends = record { most = most; in_word = shares_here; ready = ready_here; no_more = no_more_here ends }

-- ---- the run that continues past the ring's end

module _ (g p word limit here more found : ℕ) (small : size g ≤ 64) (to_end : place g p + here ≡ size g)
    (first : (bit : ℕ) → flag_bit g p ≤ bit → bit < flag_bit g p + here → bit_at word bit ≡ polarity g p)
    (second : AreEqualBits word 0 (1 - polarity g p) found)
    (within : here + more ≤ limit) (some : more ≤ found) (ends : here + more < limit → more ≡ found) where
  -- The run is at most one lap long, for its first bit has the first lap's polarity.
  stops : found ≤ place g p
  stops = elim (cases_lt (place g p) found) [
    | inr fits ↦ fits
    | inl over ↦
        let start = small_bit g p small in
        let below = place-lt g p in
        let was : bit_at word (place g p) ≡ polarity g p = ap (bit_at word) (sym start) ∙ first (flag_bit g p) (omega arith) (omega (arith, to_end, below)) in
        let now : bit_at word (place g p) ≡ 1 - polarity g p = second.equal (place g p) (omega arith) (omega (arith, over)) in
        let x : ℕ = polarity g p in let y : ℕ = bit_at word (place g p) in
        let was' : y ≡ x = was in let now' : y ≡ 1 - x = now in
        absurd (omega arith)
  ]

  next_at : (offset : ℕ) → here ≤ offset → offset ≤ here + found → flag_bit g (p + offset) ≡ offset - here
  next_at offset low high =
      let below = place-lt g p in
      let at : flag_bit g (p + offset) ≡ place g p + offset - size g = next_bit g p offset small (omega (arith, to_end, low)) (omega (arith, to_end, high, stops, below)) in
      omega (arith, at, to_end, low)

  turns_at : (offset : ℕ) → here ≤ offset → offset ≤ here + found → polarity g (p + offset) ≡ 1 - polarity g p
  turns_at offset low high =
      let below = place-lt g p in
      next_polarity g p offset (omega (arith, to_end, low)) (omega (arith, to_end, high, stops, below))

  ready_both : (offset : ℕ) → offset < here + more → bit_at word (flag_bit g (p + offset)) ≡ polarity g (p + offset)
  ready_both offset among = elim (cases_lt offset here) [
    | inl before ↦
        let start = small_bit g p small in
        ready_here g p word limit here (omega (arith, to_end)) (omega (arith, to_end, start, small)) first offset before
    | inr after ↦
        ap (bit_at word) (next_at offset after (omega (arith, among, some)))
        ∙ second.equal (offset - here) (omega arith) (omega (arith, among, some, after))
        ∙ sym (turns_at offset after (omega (arith, among, some)))
  ]

  no_more_next : here + more < limit → ShareAWord 64 g p (suc (here + more)) → bit_at word (flag_bit g (p + (here + more))) ≢ polarity g (p + (here + more))
  no_more_next fewer shares same =
      let all = ends fewer in
      let below = place-lt g p in
      let at : flag_bit g (p + (here + more)) ≡ 0 + found = next_at (here + more) (omega arith) (omega (arith, some)) ∙ (omega (arith, all)) in
      second.stop (omega (arith, stops, below, small)) (ap (bit_at word) (sym at) ∙ same ∙ turns_at (here + more) (omega arith) (omega (arith, some)))

  pub two_laps : IsReadyRun g word p limit (here + more)
  two_laps = record { most = within; in_word = small_shares g p (here + more) small; ready = ready_both; no_more = no_more_next }

-- ---- as the code has it

module _ (g p word limit run here : ℕ) (bits : AreEqualBits word (flag_bit g p) (polarity g p) run)
    (is : here ≡ min (min run (size g - place g p)) limit) where
  stopped : here ≡ run → place g p + run < size g → flag_bit g p + run < 64 → Ends g word p limit here
  stopped same inside before =
      inr (inr (omega (arith, same, inside), omega (arith, same, before), λ e. bits.stop before (ap (λ n. bit_at word (flag_bit g p + n)) (sym same) ∙ e)))

  large_ends : 64 < size g → here < limit → Ends g word p limit here
  large_ends large fewer =
      let inside = in_ring g p run large bits.within in
      let same : here ≡ run = omega (arith, is, fewer, inside) in
      elim (cases_lt (flag_bit g p + run) 64) [
        | inl before ↦ let next = in_ring g p (suc run) large (omega (arith, before)) in stopped same (omega (arith, next)) before
        | inr at_end ↦ inr (inl (large, omega (arith, same, at_end, bits.within)))
      ]

  small_ends : size g ≤ 64 → here ≢ size g - place g p → here < limit → Ends g word p limit here
  small_ends small before fewer =
      let start = small_bit g p small in
      let same : here ≡ run = omega (arith, is, fewer, before) in
      stopped same (omega (arith, is, fewer, before)) (omega (arith, is, fewer, before, start, small))

  why : (64 < size g) ⊎ (here ≢ size g - place g p) → Ends g word p limit here
  why before = elim (cases_lt here limit) [
    | inr all ↦ inl (omega (arith, is, all))
    | inl fewer ↦ elim (cases_lt 64 (size g)) [
      | inl large ↦ large_ends large fewer
      | inr small ↦ elim before [ inl large ↦ large_ends large fewer | inr other ↦ small_ends small other fewer ]
    ]
  ]

  -- The first lap's bits in a row, up to the ring's end and the limit, are the whole run, unless they reach
  -- the end of a ring with one flag word.
  pub in_one_lap : (64 < size g) ⊎ (here ≢ size g - place g p) → IsReadyRun g word p limit here
  in_one_lap before =
      let below = place-lt g p in
      one_lap g p word limit here (omega (arith, is, below)) (omega (arith, is, bits.within)) (λ bit low high. bits.equal bit low (omega (arith, is, high)))
      (omega (arith, is)) (why before)

-- Otherwise the next lap's bits in a row, up to the limit, are added.
pub in_two_laps : (g p word limit run next here more : ℕ)
    → AreEqualBits word (flag_bit g p) (polarity g p) run → AreEqualBits word 0 (1 - polarity g p) next
    → size g ≤ 64 → here ≡ min (min run (size g - place g p)) limit → here ≡ size g - place g p → more ≡ min next (limit - here)
    → IsReadyRun g word p limit (here + more)
in_two_laps g p word limit run next here more bits others small is whole then =
    let below = place-lt g p in
    two_laps g p word limit here more next small (omega (arith, whole, below))
    (λ bit low high. bits.equal bit low (omega (arith, is, high))) others
    (omega (arith, is, then)) (omega (arith, then)) (λ fewer. omega (arith, then, fewer))

-- ---- the polarity as the code has it

pub bit_of_polarity : (g p : ℕ) (b : Bool) → b ≡ (polarity g p == 1) → bit_of b ≡ polarity g p
bit_of_polarity g p b is = ap bit_of is ∙ bit_is (polarity g p) (polarity-lt g p)

pub bit_of_other : (g p : ℕ) (b : Bool) → b ≡ (polarity g p == 1) → bit_of (not b) ≡ 1 - polarity g p
bit_of_other g p b is = turned_bit b ∙ ap (λ n. 1 - n) (bit_of_polarity g p b is)
