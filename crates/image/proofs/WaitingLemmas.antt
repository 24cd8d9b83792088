-- A slot waits just where it is the place of a position that waits.
use Rattle.std.proofs.Common.{◌≡◌, ◌<◌, ◌≤◌, ◌+◌, ◌-◌, ◌%◌, ℕ, ⊎_elim, ap, sym, ◌∙◌, arith}
use Rattle.std.proofs.lemmas.Bool.{cases_lt, lt-ltb, ltb-true}
use Rattle.std.proofs.lemmas.Nat.{mod_below}
use Rattle.std.proofs.Math.Nat.{add-mod-mod, add-mod_right, mod-add-mod, mod-eq_of_lt}
use Rattle.qindex.specs.Positions.{size}
use Rattle.image.specs.WaitingLaws.{SlotsWaitByPosition}

-- `n` is the position at CONS, `s` a slot.
module _ (n slots s : ℕ) (some : 0 < slots) (below : s < slots) where
  -- how many slots it is behind that of CONS, going round
  abbrev gap : ℕ
  gap = (s + slots - n % slots) % slots

  place_of_gap : (n + gap) % slots ≡ s
  place_of_gap =
      let first = mod_below n slots some in
      let sum : n % slots + (s + slots - n % slots) ≡ s + slots = omega (arith, first) in
      add-mod-mod n (s + slots - n % slots) slots ∙ sym (mod-add-mod n slots (s + slots - n % slots)) ∙ ap (λ x. x % slots) sum
      ∙ add-mod_right s slots ∙ mod-eq_of_lt below

  gap_of_place : (k : ℕ) → k < slots → (n + k) % slots ≡ s → gap ≡ k
  gap_of_place k few is =
      let first = mod_below n slots some in
      let at : (n % slots + k) % slots ≡ s = mod-add-mod n slots k ∙ is in
      ⊎_elim
      (λ (same_lap : n % slots + k < slots).
      let own : s ≡ n % slots + k = sym at ∙ mod-eq_of_lt same_lap in
      let sum : s + slots - n % slots ≡ k + slots = omega (arith, first, own) in
      ap (λ x. x % slots) sum ∙ add-mod_right k slots ∙ mod-eq_of_lt few)
      (λ (next_lap : slots ≤ n % slots + k).
      let round : n % slots + k ≡ n % slots + k - slots + slots = omega (arith, next_lap) in
      let small : n % slots + k - slots < slots = omega (arith, first, few, next_lap) in
      let own : s ≡ n % slots + k - slots = sym at ∙ ap (λ x. x % slots) round ∙ add-mod_right (n % slots + k - slots) slots ∙ mod-eq_of_lt small in
      let sum : s + slots - n % slots ≡ k = omega (arith, first, own, next_lap) in
      ap (λ x. x % slots) sum ∙ mod-eq_of_lt few)
      (cases_lt (n % slots + k) slots)

pub slots_wait : SlotsWaitByPosition
slots_wait queue shown slot below =
    let some : 0 < size queue.cons.geometry = omega (arith, below) in
    let n = queue.cons.number in
    let slots = size queue.cons.geometry in (
      λ waits. (gap n slots slot some below, ltb-true _ _ waits, place_of_gap n slots slot some below),
      λ found. lt-ltb _ _ (let is = gap_of_place n slots slot some below found.0 (omega (arith, found.1, shown.few)) found.2 in omega (arith, is, found.1)),
    )
