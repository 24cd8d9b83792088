-- What two indexes tell of the positions between them.
use Rattle.std.proofs.Common.{◌≡◌, ◌≢◌, ℕ, ◌+◌, ◌-◌, ◌*◌, ◌%◌, ◌<◌, ◌≤◌, Bool, true, false, not, ◌&&◌, nat_eq, inl, inr, refl, ap, ap₂, sym, subst, ◌∙◌, arith}
use Rattle.std.proofs.lemmas.Bool.{cases_lt, cases_Bool, eq-eqb, ne_eqb, eqb-true, eqb-false}
use Rattle.std.proofs.lemmas.Nat.{mod_below}
use Rattle.std.proofs.Math.Nat.{mod-add-mod, add-mod_right, mod-eq_of_lt}
use Rattle.qindex.specs.Positions.{size, place, wrap_bit, index_of}
use Rattle.qindex.specs.Indexes.{IsIndexNumber, distance, is_empty, is_full, have_one_place, have_one_wrap_bit}
use Rattle.qindex.specs.Laws.{SlotsAreApart, IndexesTellTheQueue}
use Rattle.qindex.proofs.PositionLemmas.{some_slots, number_parts, place_of_number, wrap_bit_of_number, turns}

-- ---- how far apart

-- d steps further on from h, counted modulo m, is at distance d
apart : (m h d : ℕ) → 0 < m → d < m → ((h + d) % m + m - h % m) % m ≡ d
apart m h d some small =
    let r = h % m in
    let below : r < m = mod_below h m some in
    let on : (h + d) % m ≡ (r + d) % m = sym (mod-add-mod h m d) in
    ap (λ x. (x + m - r) % m) on
    ∙ elim (cases_lt (r + d) m) [
      | inl fits ↦
          let back : r + d + m - r ≡ d + m = omega arith in
          ap (λ x. (x + m - r) % m) (mod-eq_of_lt fits) ∙ ap (λ x. x % m) back ∙ add-mod_right d m ∙ mod-eq_of_lt small
      | inr over ↦
          let x = r + d - m in
          let whole : r + d ≡ x + m = omega (arith, over) in
          let less : x < m = omega (arith, below, small, over) in
          let back : x + m - r ≡ d = omega (arith, over) in
          ap (λ y. (y % m + m - r) % m) whole ∙ ap (λ y. (y + m - r) % m) (add-mod_right x m ∙ mod-eq_of_lt less) ∙ ap (λ y. y % m) back
          ∙ mod-eq_of_lt small
    ]

pub distance_between : (g t h : ℕ) → h ≤ t → t < h + 2 * size g → distance (index_of g t) (index_of g h) ≡ t - h
distance_between g t h order near =
    let some = some_slots g in
    let whole : t ≡ h + (t - h) = omega (arith, order) in
    ap (λ x. (x % (2 * size g) + 2 * size g - h % (2 * size g)) % (2 * size g)) whole
    ∙ apart (2 * size g) h (t - h) (omega (arith, some)) (omega (arith, order, near))

pub distance_in_queue : (g t h : ℕ) → h ≤ t → t ≤ h + size g → distance (index_of g t) (index_of g h) ≡ t - h
distance_in_queue g t h order near = let some = some_slots g in distance_between g t h order (omega (arith, near, some))

pub slots_apart : SlotsAreApart
slots_apart g from p q p_from p_below q_from q_below one =
    let m = size g in
    let p_is : p ≡ from + (p - from) = omega (arith, p_from) in
    let q_is : q ≡ from + (q - from) = omega (arith, q_from) in
    let away = λ (x : ℕ). (x % m + m - from % m) % m in
    let p_away : away p ≡ p - from = ap away p_is ∙ apart m from (p - from) (some_slots g) (omega (arith, p_from, p_below)) in
    let q_away : away q ≡ q - from = ap away q_is ∙ apart m from (q - from) (some_slots g) (omega (arith, q_from, q_below)) in
    let same : away p ≡ away q = ap (λ x. (x + m - from % m) % m) one in
    omega (arith, p_from, q_from, sym p_away ∙ same ∙ q_away)

-- ---- empty and full

abbrev pub one_place : ℕ → ℕ → ℕ → Bool
one_place g t h = nat_eq (place g t) (place g h)

abbrev pub one_wrap_bit : ℕ → ℕ → ℕ → Bool
one_wrap_bit g t h = nat_eq (wrap_bit g t) (wrap_bit g h)

-- What the two ends of a queue have in common, and whether it is empty or full.
record IsSeen (g t h : ℕ) : Type 0 where
  pub empty : (one_place g t h && one_wrap_bit g t h) ≡ nat_eq t h
  pub full : (one_place g t h && not (one_wrap_bit g t h)) ≡ nat_eq t (h + size g)

-- what is found: whether places and wrap bits agree, whether t is h, and whether t is h + size
abbrev pub Found : ℕ → ℕ → ℕ → Bool → Bool → Bool → Bool → Type 0
Found g t h p w e f = (one_place g t h ≡ p) × (one_wrap_bit g t h ≡ w) × (nat_eq t h ≡ e) × (nat_eq t (h + size g) ≡ f)

seen_empty : (g t h : ℕ) → Found g t h true true true false → IsSeen g t h
seen_empty g t h s = record { empty = rw (s.0, s.1, s.2) refl; full = rw (s.0, s.1, s.3) refl }

seen_between : (g t h : ℕ) → one_place g t h ≡ false → nat_eq t h ≡ false → nat_eq t (h + size g) ≡ false → IsSeen g t h
seen_between g t h p e f = record { empty = rw (p, e) refl; full = rw (p, f) refl }

seen_full : (g t h : ℕ) → Found g t h true false false true → IsSeen g t h
seen_full g t h s = record { empty = rw (s.0, s.1, s.2) refl; full = rw (s.0, s.1, s.3) refl }

is_seen : (g t h : ℕ) → h ≤ t → t ≤ h + size g → IsSeen g t h
is_seen g t h order near =
    let some = some_slots g in
    elim (cases_lt h t) [
      | inr none ↦
          let same : t ≡ h = omega (arith, order, none) in
          seen_empty g t h (eq-eqb _ _ (ap (place g) same), eq-eqb _ _ (ap (wrap_bit g) same), eq-eqb _ _ same, ne_eqb _ _ (λ e. omega (arith, some, same, e)))
      | inl more ↦ elim (cases_lt t (h + size g)) [
        | inl less ↦
            let else : place g t ≢ place g h = (λ one. let e = slots_apart g h t h order less (omega arith) (omega (arith, some)) one in omega (arith, e, more)) in
            seen_between g t h (ne_eqb _ _ else) (ne_eqb _ _ (λ e. omega (arith, e, more))) (ne_eqb _ _ (λ e. omega (arith, e, less)))
        | inr all ↦
            let whole : t ≡ h + size g = omega (arith, near, all) in
            let turn = turns g h in
            let one : place g t ≡ place g h = ap (place g) whole ∙ turn.place in
            let other : wrap_bit g t ≢ wrap_bit g h = (λ e. let there = sym (ap (wrap_bit g) whole) in let bits = turn.wrap_bit in omega (arith, e, there, bits)) in
            seen_full g t h (eq-eqb _ _ one, ne_eqb _ _ other, ne_eqb _ _ (λ e. omega (arith, e, more)), eq-eqb _ _ whole)
      ]
    ]

place_seen : (g t h : ℕ) → have_one_place (index_of g t) (index_of g h) ≡ one_place g t h
place_seen g t h = ap₂ nat_eq (place_of_number g t) (place_of_number g h)

wrap_bit_seen : (g t h : ℕ) → have_one_wrap_bit (index_of g t) (index_of g h) ≡ one_wrap_bit g t h
wrap_bit_seen g t h = ap₂ nat_eq (wrap_bit_of_number g t) (wrap_bit_of_number g h)

pub empty_between : (g t h : ℕ) → h ≤ t → t ≤ h + size g → is_empty (index_of g t) (index_of g h) ≡ nat_eq t h
empty_between g t h order near = ap₂ (λ x y. x && y) (place_seen g t h) (wrap_bit_seen g t h) ∙ (is_seen g t h order near).empty

pub full_between : (g t h : ℕ) → h ≤ t → t ≤ h + size g → is_full (index_of g t) (index_of g h) ≡ nat_eq t (h + size g)
full_between g t h order near = ap₂ (λ x y. x && not y) (place_seen g t h) (wrap_bit_seen g t h) ∙ (is_seen g t h order near).full

pub queue : IndexesTellTheQueue
queue g t h is order near =
    record {
      distance = distance_in_queue g t h order near;
      empty = empty_between g t h order near;
      full = full_between g t h order near;
    }

-- Indexes of one ring have the same number if place and wrap bit agree.
pub one_number : (g f a b : ℕ) → g ≡ f → IsIndexNumber g a → IsIndexNumber f b
    → nat_eq a b ≡ is_empty record { geometry = g; number = a } record { geometry = f; number = b }
one_number g f a b one a_below b_below =
    subst (λ (x : ℕ). nat_eq a b ≡ is_empty record { geometry = g; number = a } record { geometry = x; number = b }) one
    (same_ring (subst (λ (x : ℕ). IsIndexNumber x b) (sym one) b_below))
  where
    same_ring : IsIndexNumber g b → nat_eq a b ≡ (one_place g a b && one_wrap_bit g a b)
    same_ring b_below =
        let a_is : a ≡ wrap_bit g a * size g + place g a = sym (mod-eq_of_lt a_below) ∙ number_parts g a in
        let b_is : b ≡ wrap_bit g b * size g + place g b = sym (mod-eq_of_lt b_below) ∙ number_parts g b in
        elim (cases_Bool (one_place g a b)) [
          | inr else ↦ rw else (ne_eqb a b (λ e. eqb-false _ _ else (ap (place g) e)))
          | inl place_is ↦ elim (cases_Bool (one_wrap_bit g a b)) [
            | inr else ↦ rw (place_is, else) (ne_eqb a b (λ e. eqb-false _ _ else (ap (wrap_bit g) e)))
            | inl bit_is ↦
                let same : a ≡ b = a_is ∙ ap₂ (λ w r. w * size g + r) (eqb-true _ _ bit_is) (eqb-true _ _ place_is) ∙ sym b_is in
                rw (place_is, bit_is) (eq-eqb a b same)
          ]
        ]
