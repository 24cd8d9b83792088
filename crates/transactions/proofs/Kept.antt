-- What the last 65 say of what was taken since a walk began.
use Rattle.std.proofs.Common.{◌≡◌, ◌≤◌, ◌<◌, ◌+◌, ◌-◌, ℕ, List, [], ◌∷◌, ◌++◌, length, Some, sym, ap, ◌∙◌, arith, length-append, length-drop, ⊎_elim}
use Rattle.std.specs.Prelude.{slice_get, drop}
use Rattle.std.proofs.lemmas.Bool.{cases_lt}
use Rattle.std.proofs.lemmas.List.{drop-append-le}
use Rattle.circular_buffer.specs.Buffer.{keep_last}
use Rattle.caches.specs.declared.tag.Tag.{Tag}
use Rattle.transactions.specs.declared.recent_invalidations.Invalidation.{Invalidation}
use Rattle.transactions.specs.RecentInvalidations.{IsBeforeOldest, HasCovering}
use Rattle.transactions.proofs.Places.{get_drop, get_left, get_right, has, drop_twice}

some_same : (a b : Invalidation) → Some a ≡ Some b → a ≡ b
some_same a b is = cc

-- Those before have earlier places, and those since have later ones.
module _ (xs ys : List Invalidation) (began : ℕ) (before : (i : ℕ) (n : Invalidation) → slice_get xs i ≡ Some n → n.place < began) (since : (i : ℕ) (n : Invalidation) → slice_get ys i ≡ Some n → began ≤ n.place) where
  -- where one of all that was taken since stands among those since
  late : (k : ℕ) (n : Invalidation) → slice_get (xs ++ ys) k ≡ Some n → began ≤ n.place → (i : ℕ) × (k ≡ length xs + i) × (slice_get ys i ≡ Some n)
  late k n at from =
      ⊎_elim
      (λ (sooner : k < length xs).
      let early = before k n (sym (get_left xs ys k sooner) ∙ at) in absurd (omega (arith, early, from)))
      (λ (later : length xs ≤ k). (k - length xs, omega (arith, later), sym (get_right xs ys (k - length xs) k (omega (arith, later))) ∙ at))
      (cases_lt k (length xs))

  pub before_oldest : IsBeforeOldest (keep_last 65 (xs ++ ys)) began → 65 ≤ length ys
  before_oldest is =
      let all = length (xs ++ ys) in
      let there = late (all - 65) is.oldest (sym (get_drop (xs ++ ys) (all - 65) 0 (all - 65) (omega arith)) ∙ is.first) is.since in
      let cut = length-drop (all - 65) (xs ++ ys) in
      let sum = length-append xs ys in
      let full = is.full in
      let place = there.1 in
      omega (arith, cut, sum, full, place)

  pub is_before_oldest : 65 ≤ length ys → IsBeforeOldest (keep_last 65 (xs ++ ys)) began
  is_before_oldest many =
      let sum = length-append xs ys in
      let all = length (xs ++ ys) in
      let cut = length-drop (all - 65) (xs ++ ys) in
      let first = has ys (all - 65 - length xs) (omega (arith, sum, many)) in
      record {
        full = omega (arith, cut, sum, many);
        oldest = first.0;
        first =
            get_drop (xs ++ ys) (all - 65) 0 (all - 65) (omega arith)
            ∙ get_right xs ys (all - 65 - length xs) (all - 65) (omega (arith, sum, many))
            ∙ first.1;
        since = since (all - 65 - length xs) first.0 first.1;
      }

  pub kept_covering : (tag : Tag) → HasCovering (keep_last 65 (xs ++ ys)) began tag → HasCovering ys began tag
  kept_covering tag c =
      let all = length (xs ++ ys) in
      let there = late (all - 65 + c.index) c.invalidation (sym (get_drop (xs ++ ys) (all - 65) c.index (all - 65 + c.index) (omega arith)) ∙ c.at) c.since in
      record { index = there.0; invalidation = c.invalidation; at = there.2; since = c.since; covering = c.covering }

  pub covering_kept : (tag : Tag) → ¬ (65 ≤ length ys) → HasCovering ys began tag → HasCovering (keep_last 65 (xs ++ ys)) began tag
  covering_kept tag few c =
      let all = length (xs ++ ys) in
      let sum = length-append xs ys in
      let place = length xs + c.index in
      record {
        index = place - (all - 65);
        invalidation = c.invalidation;
        at =
            get_drop (xs ++ ys) (all - 65) (place - (all - 65)) place (omega (arith, sum, few))
            ∙ get_right xs ys c.index place (omega arith)
            ∙ c.at;
        since = c.since;
        covering = c.covering;
      }

-- ---- one more

pub keep_more : (xs : List Invalidation) (y : Invalidation) → keep_last 65 (keep_last 65 xs ++ y ∷ []) ≡ keep_last 65 (xs ++ y ∷ [])
keep_more xs y =
    let d = length xs - 65 in
    let longer = length-append xs (y ∷ []) in
    let cut = length-drop d (xs ++ y ∷ []) in
    ap (λ (l : List Invalidation). drop (length l - 65) l) (sym (drop-append-le d xs (y ∷ []) (omega arith)))
    ∙ drop_twice d (length (drop d (xs ++ y ∷ [])) - 65) (xs ++ y ∷ []) (length (xs ++ y ∷ []) - 65) (omega (arith, longer, cut))
