-- Intervals that are joined.
use Rattle.std.proofs.Common.{◌≡◌, ℕ, suc, ◌+◌, ◌≤◌, ◌||◌, min, max, nat_le, Bool, true, false, inl, inr, List, [], ◌∷◌, ◌++◌, All, refl, ap, sym, ◌∙◌, arith}
use Rattle.std.proofs.lemmas.Bool.{cases_lt, leb-true, le-leb, and_from, and_parts, or_cases, or_left, or_right}
use Rattle.std.proofs.lemmas.List.{length-append}
use Rattle.std.proofs.lemmas.List.Elements.{All-append, All-cons}
use Rattle.std.proofs.lemmas.List.Folds.{list_any-append}
use Rattle.std.specs.List.{list_any}
use Rattle.invalidations.specs.declared.interval.Interval.{Interval}
use Rattle.invalidations.specs.Intervals.{has_byte, have_byte, touches, IsBefore, AreJoined}

-- ---- Bytes of an interval.

pub same_bool : (a b : Bool) → (a ≡ true → b ≡ true) → (b ≡ true → a ≡ true) → a ≡ b
same_bool true true there back = refl
same_bool false false there back = refl
same_bool true false there back = sym (there refl)
same_bool false true there back = back refl

pub has_of : (byte : ℕ) (interval : Interval) → interval.first ≤ byte → byte ≤ interval.last → has_byte byte interval ≡ true
has_of byte interval from to = and_from (nat_le interval.first byte) (nat_le byte interval.last) (le-leb interval.first byte from) (le-leb byte interval.last to)

pub of_has : (byte : ℕ) (interval : Interval) → has_byte byte interval ≡ true → (interval.first ≤ byte) × (byte ≤ interval.last)
of_has byte interval has =
    let both = and_parts (nat_le interval.first byte) (nat_le byte interval.last) has in
    (leb-true interval.first byte both.0, leb-true byte interval.last both.1)

of_touches : (one other : Interval) → touches one other ≡ true → (one.first ≤ other.last + 1) × (other.first ≤ one.last + 1)
of_touches one other is =
    let both = and_parts (nat_le one.first (other.last + 1)) (nat_le other.first (one.last + 1)) is in
    (leb-true one.first (other.last + 1) both.0, leb-true other.first (one.last + 1) both.1)

touches_of : (one other : Interval) → one.first ≤ other.last + 1 → other.first ≤ one.last + 1 → touches one other ≡ true
touches_of one other from to =
    and_from (nat_le one.first (other.last + 1)) (nat_le other.first (one.last + 1)) (le-leb one.first (other.last + 1) from) (le-leb other.first (one.last + 1) to)

IsUnion : Interval → Interval → Interval → Type 0
IsUnion one other union = (union.first ≡ min one.first other.first) × (union.last ≡ max one.last other.last)

union_has : (byte : ℕ) (one other union : Interval) → one.first ≤ one.last → other.first ≤ other.last → touches one other ≡ true → IsUnion one other union
    → has_byte byte union ≡ (has_byte byte one || has_byte byte other)
unfolding IsUnion
union_has byte one other union ordered also touch (first, last) =
    same_bool (has_byte byte union) (has_byte byte one || has_byte byte other)
    (λ has.
    let inside = of_has byte union has in
    let near = of_touches one other touch in
    elim (cases_lt byte one.first) [
      | inl before ↦ or_right (has_byte byte one) (has_byte byte other) (has_of byte other (omega (arith, first, inside, before)) (omega (arith, last, inside, near, before)))
      | inr from ↦ elim (cases_lt one.last byte) [
        | inl behind ↦ or_right (has_byte byte one) (has_byte byte other) (has_of byte other (omega (arith, near, behind)) (omega (arith, last, inside, behind)))
        | inr to ↦ or_left (has_byte byte one) (has_byte byte other) (has_of byte one from to)
      ]
    ])
    (λ either. elim (or_cases (has_byte byte one) (has_byte byte other) either) [
      | inl has ↦ let inside = of_has byte one has in has_of byte union (omega (arith, first, inside)) (omega (arith, last, inside))
      | inr has ↦ let inside = of_has byte other has in has_of byte union (omega (arith, first, inside)) (omega (arith, last, inside))
    ])

-- ---- One interval more.

with_joined : (d h i a j u : Bool) → (d || i) ≡ (a || j) → u ≡ (j || h) → ((d || (h || false)) || i) ≡ (a || u)
with_joined true h i true j u same is = refl
with_joined true h i false true u same is = sym is
with_joined true h i false false u same is = absurd cc
with_joined false true i true j u same is = refl
with_joined false true i false true u same is = sym is
with_joined false true i false false u same is = sym is
with_joined false false i true j u same is = same
with_joined false false i false true u same is = same ∙ sym is
with_joined false false i false false u same is = same ∙ sym is

with_apart : (d h i a j : Bool) → (d || i) ≡ (a || j) → ((d || (h || false)) || i) ≡ ((a || (h || false)) || j)
with_apart true h i true j same = refl
with_apart true true i false j same = refl
with_apart true false i false j same = same
with_apart false true i true j same = refl
with_apart false true i false j same = refl
with_apart false false i true j same = same
with_apart false false i false j same = same

one_only : (P : Interval → Type 0) (interval : Interval) → P interval → All P (interval ∷ [])
one_only P interval holds = All-cons P interval [] holds (λ k d below. absurd (omega (arith, below)))

pub last_only : (P : Interval → Type 0) (intervals : List Interval) (interval : Interval) → All P (intervals ++ interval ∷ []) → All P intervals × P interval
last_only P [] interval all = ((λ k d below. absurd (omega (arith, below))), all 0 interval (omega arith))
last_only P (first ∷ intervals) interval all =
    let rest = last_only P intervals interval (λ k d below. all (suc k) d (omega (arith, below))) in
    (All-cons P first intervals (all 0 first (omega arith)) rest.0, rest.1)

pub join_more : (done : List Interval) (interval held joined union : Interval) (apart : List Interval) → interval.first ≤ interval.last → held.first ≤ held.last
    → AreJoined done interval apart joined → touches joined held ≡ true → union.first ≡ min joined.first held.first → union.last ≡ max joined.last held.last
    → AreJoined (done ++ held ∷ []) interval apart union
unfolding IsUnion
join_more done interval held joined union apart ordered also so_far touch first last =
    let long = length-append done (held ∷ []) in
    let wide = so_far.wider in
    record {
      same = λ byte.
          ap (λ b. b || has_byte byte interval) (list_any-append (has_byte byte) done (held ∷ []))
          ∙ with_joined (have_byte byte done) (has_byte byte held) (has_byte byte interval) (have_byte byte apart) (has_byte byte joined) (has_byte byte union)
          (so_far.same byte) (union_has byte joined held union (omega (arith, wide, ordered)) also touch (first, last));
      most = (let most = so_far.most in omega (arith, most, long));
      fewer = λ any. (let most = so_far.most in omega (arith, most, long));
      wider = (omega (arith, wide, first), omega (arith, wide, last));
      inside = λ end all this.
          let parts = last_only (IsBefore end) done held all in
          let before = so_far.inside end parts.0 this in
          let end_of = before.1 in let held_of = parts.1 in
          (before.0, (omega (arith, first, last, end_of, held_of), omega (arith, last, end_of, held_of)));
    }

pub keep_more : (done : List Interval) (interval held joined : Interval) (apart : List Interval) → AreJoined done interval apart joined → touches joined held ≡ false
    → AreJoined (done ++ held ∷ []) interval (apart ++ held ∷ []) joined
keep_more done interval held joined apart so_far not_near =
    let long = length-append done (held ∷ []) in
    let longer = length-append apart (held ∷ []) in
    record {
      same = λ byte.
          ap (λ b. b || has_byte byte interval) (list_any-append (has_byte byte) done (held ∷ []))
          ∙ with_apart (have_byte byte done) (has_byte byte held) (has_byte byte interval) (have_byte byte apart) (has_byte byte joined) (so_far.same byte)
          ∙ ap (λ b. b || has_byte byte joined) (sym (list_any-append (has_byte byte) apart (held ∷ [])));
      most = (let most = so_far.most in omega (arith, most, long, longer));
      fewer = λ any. elim (or_cases (list_any (touches interval) done) (touches interval held || false) (sym (list_any-append (touches interval) done (held ∷ [])) ∙ any)) [
        | inl before ↦ (let fewer = so_far.fewer before in omega (arith, fewer, long, longer))
        | inr now ↦ elim (or_cases (touches interval held) false now) [
          | inl near ↦ absurd (
              let far = of_touches interval held near in
              let wide = so_far.wider in
              let too = touches_of joined held (omega (arith, far, wide)) (omega (arith, far, wide)) in
              let wrong : true ≡ false = sym too ∙ not_near in cc)
          | inr never ↦ absurd cc
        ]
      ];
      wider = so_far.wider;
      inside = λ end all this.
          let parts = last_only (IsBefore end) done held all in
          let before = so_far.inside end parts.0 this in
          (All-append (IsBefore end) apart (held ∷ []) before.0 (one_only (IsBefore end) held parts.1), before.1);
    }
