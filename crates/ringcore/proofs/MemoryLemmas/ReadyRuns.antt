-- Each flag word has one ready run, which the function returns, and none is longer than the ring.
use Rattle.std.proofs.Common.{◌≡◌, ℕ, zero, suc, ◌+◌, ◌-◌, ◌/◌, ◌%◌, ◌≤◌, Bool, true, false, cond, ◌==◌, ◌&&◌, refl, sym, ap, ap₂, ◌∙◌, subst, inl, inr, eqb-true, eq-eqb, arith}
use Rattle.std.proofs.lemmas.Bool.{true≢false, cases_lt, and_parts}
use Rattle.std.specs.Int.{bit_at}
use Rattle.qindex.specs.Positions.{size, place, wrap_bit}
use Rattle.qindex.specs.Laws.{WrapBitsTurnByLap}
use Rattle.ringcore.specs.memory.Layout.{flag_word}
use Rattle.ringcore.specs.memory.Flags.{flag_bit, polarity, IsReadyRun, is_ready, ready_in, ReadyInIsAReadyRun, ReadyRunsAreOne, ReadyRunsFitTheRing}

-- ---- the function

module _ (g word p : ℕ) where
  same_place : (k : ℕ) → flag_word g (p + k) ≡ flag_word g p → place g (p + k) / 64 ≡ place g p / 64
  same_place k is =
      let a : ℕ = place g (p + k) / 64 in
      let b : ℕ = place g p / 64 in
      let is' : 8 + a ≡ 8 + b = is in
      omega arith

  -- one more position that is ready
  longer : (n found : ℕ) → IsReadyRun g word p n found → (found == n) ≡ true → is_ready g word p n ≡ true → IsReadyRun g word p (suc n) (suc n)
  longer n found run all here =
      let whole : found ≡ n = eqb-true found n all in
      let both = and_parts (flag_word g (p + n) == flag_word g p) (bit_at word (flag_bit g (p + n)) == polarity g (p + n)) here in record {
        most = omega arith;
        in_word = λ k low. elim (cases_lt k n) [
          | inl before ↦ run.in_word k (omega (arith, before, whole))
          | inr last ↦
              let is : n ≡ k = omega (arith, last, low) in
              subst (λ m. place g (p + m) / 64 ≡ place g p / 64) is (same_place n (eqb-true (flag_word g (p + n)) (flag_word g p) both.0))
        ];
        ready = λ k low. elim (cases_lt k n) [
          | inl before ↦ run.ready k (omega (arith, before, whole))
          | inr last ↦
              let is : n ≡ k = omega (arith, last, low) in
              subst (λ m. bit_at word (flag_bit g (p + m)) ≡ polarity g (p + m)) is (eqb-true (bit_at word (flag_bit g (p + n))) (polarity g (p + n)) both.1)
        ];
        no_more = λ fewer. absurd (omega (arith, fewer));
      }

  -- one more that isn't
  no_longer : (n found : ℕ) → IsReadyRun g word p n found → (found == n && is_ready g word p n) ≡ false → IsReadyRun g word p (suc n) found
  no_longer n found run none =
      let most = run.most in record {
        most = omega (arith, most);
        in_word = run.in_word;
        ready = run.ready;
        no_more = λ fewer shares same. elim (cases_lt found n) [
          | inl before ↦ run.no_more before shares same
          | inr at_end ↦
              let whole : found ≡ n = omega (arith, at_end, fewer) in
              let word_is : flag_word g (p + found) ≡ flag_word g p = ap (λ m. 8 + m) (shares found (omega arith)) in
              let ready : is_ready g word p found ≡ true =
              ap₂ (λ a b. a && b) (eq-eqb (flag_word g (p + found)) (flag_word g p) word_is) (eq-eqb (bit_at word (flag_bit g (p + found))) (polarity g (p + found)) same) in
              true≢false (sym (ap₂ (λ a b. a && b) (eq-eqb found n whole) (ap (is_ready g word p) (sym whole) ∙ ready)) ∙ none)
        ];
      }

  one_step : (n found : ℕ) → IsReadyRun g word p n found → (v : Bool) → (found == n && is_ready g word p n) ≡ v → IsReadyRun g word p (suc n) (cond v (suc n) found)
  one_step n found run true is = let both = and_parts (found == n) (is_ready g word p n) is in longer n found run both.0 both.1
  one_step n found run false is = no_longer n found run is

  pub is_run : (limit : ℕ) → IsReadyRun g word p limit (ready_in g word p limit)
  is_run zero = record {
    most = omega arith;
    in_word = λ k low. absurd (omega (arith, low));
    ready = λ k low. absurd (omega (arith, low));
    no_more = λ fewer. absurd (omega (arith, fewer));
  }
  is_run (suc n) = let found : ℕ = ready_in g word p n in one_step n found (is_run n) (found == n && is_ready g word p n) refl

pub ready_in_is : ReadyInIsAReadyRun
ready_in_is g word p limit = is_run g word p limit

-- ---- no other

not_longer : (g word p limit found other : ℕ) → IsReadyRun g word p limit found → IsReadyRun g word p limit other → other ≤ found
not_longer g word p limit found other run longer = elim (cases_lt found other) [
  | inl less ↦
      let most = longer.most in
      absurd (run.no_more (omega (arith, less, most)) (λ k low. longer.in_word k (omega (arith, low, less))) (longer.ready found less))
  | inr no_more ↦ no_more
]

pub one_run : ReadyRunsAreOne
one_run g word p limit found other run same =
    let low = not_longer g word p limit found other run same in
    let high = not_longer g word p limit other found same run in
    omega (arith, low, high)

-- ---- no longer than the ring

other_polarity : (a b : ℕ) → b + a ≡ 1 → 1 - b ≡ 1 - a → ⊥
other_polarity a b sum same = omega arith

-- One lap further on, the flag is the same and its polarity the opposite.
pub fits_ring : WrapBitsTurnByLap → ReadyRunsFitTheRing
fits_ring turns g word p limit found run = elim (cases_lt (size g) found) [
  | inr few ↦ few
  | inl more ↦
      let lap = turns g p in
      let at : p + 0 ≡ p = omega arith in
      let here : bit_at word (flag_bit g p) ≡ polarity g p = subst (λ q. bit_at word (flag_bit g q) ≡ polarity g q) at (run.ready 0 (omega (arith, more))) in
      let there = run.ready (size g) more in
      let same : polarity g (p + size g) ≡ polarity g p = sym there ∙ ap (λ k. bit_at word (k % 64)) lap.place ∙ here in
      absurd (other_polarity (wrap_bit g p) (wrap_bit g (p + size g)) lap.wrap_bit same)
]

-- ---- as the code has it

pub found_at : (g p word limit result : ℕ) → IsReadyRun g word p limit result → result ≡ ready_in g word p limit
found_at g p word limit result run = one_run g word p limit result (ready_in g word p limit) run (is_run g word p limit)
