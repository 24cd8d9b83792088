-- Marking one command after another as flipped.
use Rattle.std.proofs.Common.{◌≡◌, ◌≢◌, ℕ, zero, suc, ◌+◌, ◌≤◌, Bool, true, false, ◌||◌, ◌&&◌, List, length, refl, sym, ap, ap₂, ◌∙◌, inl, inr, arith}
use Rattle.std.proofs.lemmas.Bool.{cases_eq, cases_lt, le-leb, lt-leb, lt-ltb, le-ltb}
use Rattle.std.proofs.lemmas.List.{get_or-set_same, get_or-set_other, length-set}
use Rattle.std.specs.Prelude.{nat_le, nat_lt, slice_index_or, slice_set}
use Rattle.ringcore.specs.declared.machine.sender_view.Progress.{Progress}
use Rattle.ringcore.specs.world.Trails.{is_among}
use Rattle.ringcore.specs.machine.SenderViews.{untouched, flipped_by, AreFlipped}

abbrev pub turned : Progress → Progress
turned command = record command { flipped = true }

abbrev pub turned_to : ℕ → List Progress → ℕ → List Progress
turned_to first xs zero = xs
turned_to first xs (suc n) = slice_set (turned_to first xs n) (first + n) (turned (slice_index_or (turned_to first xs n) (first + n) untouched))

pub turned_length : (first : ℕ) (xs : List Progress) (n : ℕ) → length (turned_to first xs n) ≡ length xs
turned_length first xs zero = refl
turned_length first xs (suc n) = length-set (turned_to first xs n) (first + n) _ ∙ turned_length first xs n

among_none : (first k : ℕ) → is_among first 0 k ≡ false
among_none first k = elim (cases_lt k first) [
  | inl low ↦ ap (λ (v : Bool). v && nat_lt k (first + 0)) (lt-leb first k low)
  | inr high ↦ ap₂ (λ (a b : Bool). a && b) (le-leb first k high) (le-ltb k (first + 0) (omega (arith, high)))
]

among_last : (first n : ℕ) → is_among first (suc n) (first + n) ≡ true
among_last first n = ap₂ (λ (a b : Bool). a && b) (le-leb first (first + n) (omega arith)) (lt-ltb (first + n) (first + suc n) (omega arith))

among_step : (first n k : ℕ) → k ≢ first + n → is_among first n k ≡ is_among first (suc n) k
among_step first n k not = ap (λ (v : Bool). nat_le first k && v) (elim (cases_lt k (first + n)) [
  | inl low ↦ lt-ltb k (first + n) low ∙ sym (lt-ltb k (first + suc n) (omega (arith, low)))
  | inr high ↦ le-ltb k (first + n) high ∙ sym (le-ltb k (first + suc n) (omega (arith, high, not)))
])

pub turned_are : (first : ℕ) (xs : List Progress) (n : ℕ) → first + n ≤ length xs → AreFlipped xs (turned_to first xs n) first n
turned_are first xs zero within k =
    let command : Progress = slice_index_or xs k untouched in
    ap (λ (v : Bool). let new : Progress = record command { flipped = v || command.flipped } in new) (sym (among_none first k))
turned_are first xs (suc n) within k =
    let earlier : AreFlipped xs (turned_to first xs n) first n = turned_are first xs n (omega (arith, within)) in
    step first xs n within earlier k
  where
    step : (first : ℕ) (xs : List Progress) (n : ℕ) → first + suc n ≤ length xs → AreFlipped xs (turned_to first xs n) first n
        → AreFlipped xs (turned_to first xs (suc n)) first (suc n)
    step first xs n within earlier k =
        let before : List Progress = turned_to first xs n in
        let x : Progress = turned (slice_index_or before (first + n) untouched) in
        let long = turned_length first xs n in
        elim (cases_eq k (first + n)) [
          | inl is ↦
              let old : Progress = slice_index_or xs (first + n) untouched in
              ap (λ (i : ℕ). slice_index_or (slice_set before (first + n) x) i untouched) is
              ∙ get_or-set_same before (first + n) x untouched (omega (arith, within, long))
              ∙ ap turned (earlier (first + n))
              ∙ ap (λ (v : Bool). let new : Progress = record old { flipped = v || old.flipped } in new) (sym (among_last first n))
              ∙ ap (λ (i : ℕ). flipped_by first (suc n) i (slice_index_or xs i untouched)) (sym is)
          | inr not ↦
              let old : Progress = slice_index_or xs k untouched in
              get_or-set_other before (first + n) k x untouched not
              ∙ earlier k
              ∙ ap (λ (v : Bool). let new : Progress = record old { flipped = v || old.flipped } in new) (among_step first n k not)
        ]
