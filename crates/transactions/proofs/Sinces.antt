-- The invalidations of what was taken, before a walk began and since.
use Rattle.std.proofs.Common.{◌≡◌, ◌≤◌, ◌<◌, ◌+◌, ◌-◌, ℕ, zero, suc, Bool, true, false, cond, List, [], ◌∷◌, ◌++◌, length, Some, refl, sym, ap, subst, ◌∙◌, arith}
use Rattle.std.specs.Prelude.{slice_get, drop, take, not, ◌||◌, ◌&&◌}
use Rattle.cmdcodec.specs.Opcodes.{opcode_of, is_sync, is_kept}
use Rattle.std.proofs.lemmas.Option.{slice_get_within}
use Rattle.std.proofs.lemmas.List.{take-append-drop, length-take-le, append-nil}
use Rattle.circular_buffer.specs.Buffer.{keep_last}
use Rattle.ringcore.specs.declared.world.event.Outcome.{Outcome}
use Rattle.ringcore.specs.declared.world.event.Outcome.TheVariants.{Applied, Replaced}
use Rattle.ringcore.specs.world.World.{Taken}
use Rattle.caches.specs.declared.tag.Tag.{Tag}
use Rattle.engine.specs.Counting.{how_many, is_applied}
use Rattle.transactions.specs.declared.recent_invalidations.Invalidation.{Invalidation}
use Rattle.transactions.specs.Coverage.{was_invalidation, WordsCover}
use Rattle.transactions.specs.RecentInvalidations.{IsBeforeOldest, HasCovering}
use Rattle.transactions.specs.Since.{HasCoveredSince, IsTooOld, invalidations, last_invalidations}
use Rattle.transactions.proofs.Places.{get_drop}
use Rattle.transactions.proofs.Kept.{before_oldest, is_before_oldest, kept_covering, covering_kept, keep_more}
use Rattle.transactions.proofs.Spelled.{coverer_kind, words_cover, has_covered}

abbrev noted_at : ℕ → Taken → Invalidation
noted_at place t = record { place = place; raw = t.raw }

invalidations_append : (place : ℕ) (xs ys : List Taken) (next : ℕ) → next ≡ place + length xs → invalidations place (xs ++ ys) ≡ invalidations place xs ++ invalidations next ys
invalidations_append place [] ys next is = let same : place ≡ next = omega (arith, is) in ap (λ (n : ℕ). invalidations n ys) same
invalidations_append place (x ∷ xs) ys next is = by_kind (was_invalidation x) (invalidations_append (suc place) xs ys next (omega (arith, is)))
  where
    by_kind : (b : Bool) → invalidations (suc place) (xs ++ ys) ≡ invalidations (suc place) xs ++ invalidations next ys
        → cond b (noted_at place x ∷ invalidations (suc place) (xs ++ ys)) (invalidations (suc place) (xs ++ ys))
        ≡ cond b (noted_at place x ∷ invalidations (suc place) xs) (invalidations (suc place) xs) ++ invalidations next ys
    by_kind true rest = ap (λ (l : List Invalidation). noted_at place x ∷ l) rest
    by_kind false rest = rest

how_many_are : (place : ℕ) (xs : List Taken) → length (invalidations place xs) ≡ how_many was_invalidation xs
how_many_are place [] = refl
how_many_are place (x ∷ xs) = by_kind (was_invalidation x) (how_many_are (suc place) xs)
  where
    by_kind : (b : Bool) → length (invalidations (suc place) xs) ≡ how_many was_invalidation xs
        → length (cond b (noted_at place x ∷ invalidations (suc place) xs) (invalidations (suc place) xs)) ≡ cond b 1 0 + how_many was_invalidation xs
    by_kind true rest = omega (arith, rest)
    by_kind false rest = omega (arith, rest)

-- what an invalidation that was noted was among the commands
record WasTaken (place : ℕ) (xs : List Taken) (n : Invalidation) : Type 0 where
  offset : ℕ
  taken : Taken
  at : slice_get xs offset ≡ Some taken
  place_is : n.place ≡ place + offset
  raw_is : n.raw ≡ taken.raw
  applied : taken.outcome ≡ Applied

applied_of : (o : Outcome) (b : Bool) → is_applied o && b ≡ true → o ≡ Applied
applied_of Applied b is = refl
applied_of Replaced b is = absurd (cc)

was_taken : (place : ℕ) (xs : List Taken) (i : ℕ) (n : Invalidation) → slice_get (invalidations place xs) i ≡ Some n → WasTaken place xs n
was_taken place [] i n at = absurd (cc)
was_taken place (x ∷ xs) i n at = by_kind (was_invalidation x) refl (λ j there. later (was_taken (suc place) xs j n there)) i at
  where
    later : WasTaken (suc place) xs n → WasTaken place (x ∷ xs) n
    later rest =
        let p = rest.place_is in
        record { offset = suc rest.offset; taken = rest.taken; at = rest.at; place_is = omega (arith, p); raw_is = rest.raw_is; applied = rest.applied }

    here : was_invalidation x ≡ true → noted_at place x ≡ n → WasTaken place (x ∷ xs) n
    here kind same =
        let p : place ≡ n.place = ap (λ (m : Invalidation). m.place) same in
        record { offset = 0; taken = x; at = refl; place_is = omega (arith, p); raw_is = sym (ap (λ (m : Invalidation). m.raw) same); applied = applied_of x.outcome (not (is_sync x.raw || is_kept (opcode_of x.raw))) kind }

    by_kind : (b : Bool) → was_invalidation x ≡ b → ((j : ℕ) → slice_get (invalidations (suc place) xs) j ≡ Some n → WasTaken place (x ∷ xs) n)
        → (j : ℕ) → slice_get (cond b (noted_at place x ∷ invalidations (suc place) xs) (invalidations (suc place) xs)) j ≡ Some n → WasTaken place (x ∷ xs) n
    by_kind true kind rest zero there = here kind (cc)
    by_kind true kind rest (suc j) there = rest j there
    by_kind false kind rest j there = rest j there

is_noted : (place : ℕ) (xs : List Taken) (j : ℕ) (t : Taken) (p : ℕ) → slice_get xs j ≡ Some t → was_invalidation t ≡ true → p ≡ place + j
    → (i : ℕ) × (slice_get (invalidations place xs) i ≡ Some (noted_at p t))
is_noted place [] j t p at kind is = absurd (cc)
is_noted place (x ∷ xs) zero t p at kind is =
    let same : x ≡ t = cc in
    let here : p ≡ place = omega (arith, is) in (0, by_kind (was_invalidation x) (ap was_invalidation same ∙ kind) same here)
  where
    by_kind : (b : Bool) → b ≡ true → x ≡ t → p ≡ place
        → slice_get (cond b (noted_at place x ∷ invalidations (suc place) xs) (invalidations (suc place) xs)) 0 ≡ Some (noted_at p t)
    by_kind true so same here = ap (λ (n : Invalidation). Some n) (λ k. noted_at (sym here k) (same k))
    by_kind false so same here = absurd (cc)
is_noted place (x ∷ xs) (suc j) t p at kind is =
    let rest = is_noted (suc place) xs j t p at kind (omega (arith, is)) in by_kind (was_invalidation x) rest.0 rest.1
  where
    by_kind : (b : Bool) (i : ℕ) → slice_get (invalidations (suc place) xs) i ≡ Some (noted_at p t)
        → (k : ℕ) × (slice_get (cond b (noted_at place x ∷ invalidations (suc place) xs) (invalidations (suc place) xs)) k ≡ Some (noted_at p t))
    by_kind true i there = (suc i, there)
    by_kind false i there = (i, there)

-- ---- one more command

pub last_more : (list : List Taken) (t : Taken) → last_invalidations (list ++ t ∷ []) ≡ cond (was_invalidation t) (keep_last 65 (last_invalidations list ++ noted_at (length list) t ∷ [])) (last_invalidations list)
last_more list t =
    ap (keep_last 65) (invalidations_append 0 list (t ∷ []) (length list) (omega arith)) ∙ by_kind (was_invalidation t)
  where
    by_kind : (b : Bool) → keep_last 65 (invalidations 0 list ++ cond b (noted_at (length list) t ∷ []) [])
        ≡ cond b (keep_last 65 (last_invalidations list ++ noted_at (length list) t ∷ [])) (last_invalidations list)
    by_kind true = sym (keep_more (invalidations 0 list) (noted_at (length list) t))
    by_kind false = ap (keep_last 65) (append-nil (invalidations 0 list))

-- ---- before and since

module _ (list : List Taken) (began : ℕ) (within : began ≤ length list) where
  abbrev before : List Invalidation
  before = invalidations 0 (take began list)

  abbrev since : List Invalidation
  since = invalidations began (drop began list)

  split : invalidations 0 list ≡ before ++ since
  split =
      ap (invalidations 0) (sym (take-append-drop began list))
      ∙ invalidations_append 0 (take began list) (drop began list) began (let many = length-take-le began list within in omega (arith, many))

  earlier : (i : ℕ) (n : Invalidation) → slice_get before i ≡ Some n → n.place < began
  earlier i n at =
      let was = was_taken 0 (take began list) i n at in
      let p = was.place_is in
      let low = slice_get_within (take began list) was.offset was.taken was.at in
      let many = length-take-le began list within in omega (arith, p, low, many)

  later : (i : ℕ) (n : Invalidation) → slice_get since i ≡ Some n → began ≤ n.place
  later i n at = let was = was_taken began (drop began list) i n at in let p = was.place_is in omega (arith, p)

  pub too_old : IsBeforeOldest (last_invalidations list) began → IsTooOld list began
  too_old is =
      let many = before_oldest before since began earlier later (subst (λ (l : List Invalidation). IsBeforeOldest (keep_last 65 l) began) split is) in
      let count = how_many_are began (drop began list) in omega (arith, many, count)

  pub is_too_old : IsTooOld list began → IsBeforeOldest (last_invalidations list) began
  is_too_old old =
      let count = how_many_are began (drop began list) in
      subst (λ (l : List Invalidation). IsBeforeOldest (keep_last 65 l) began) (sym split) (is_before_oldest before since began earlier later (omega (arith, old, count)))

  pub has_been : (tag : Tag) → HasCovering (last_invalidations list) began tag → HasCoveredSince list began tag
  has_been tag c =
      let s = kept_covering before since began earlier later tag (subst (λ (l : List Invalidation). HasCovering (keep_last 65 l) began tag) split c) in
      let was = was_taken began (drop began list) s.index s.invalidation s.at in
      record {
        place = began + was.offset;
        taken = was.taken;
        at = sym (get_drop list began was.offset (began + was.offset) refl) ∙ was.at;
        since = omega arith;
        covered = has_covered was.taken tag was.applied (subst (λ raw. WordsCover raw tag) was.raw_is s.covering);
      }

  pub still_kept : (tag : Tag) → ¬ IsTooOld list began → HasCoveredSince list began tag → HasCovering (last_invalidations list) began tag
  still_kept tag young h =
      let count = how_many_are began (drop began list) in
      let from = h.since in
      let there = is_noted began (drop began list) (h.place - began) h.taken h.place
      (get_drop list began (h.place - began) h.place (omega (arith, from)) ∙ h.at)
      (coverer_kind h.taken tag h.covered) (omega (arith, from)) in
      subst (λ (l : List Invalidation). HasCovering (keep_last 65 l) began tag) (sym split)
      (covering_kept before since began earlier later tag (λ many. young (omega (arith, many, count)))
      (record { index = there.0; invalidation = noted_at h.place h.taken; at = there.1; since = h.since; covering = words_cover h.taken tag h.covered }))
