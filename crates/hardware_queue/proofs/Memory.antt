-- What stands in the memory of a queue.
use Rattle.std.proofs.Common.{◌≡◌, ◌≢◌, ℕ, zero, suc, ◌+◌, ◌-◌, ◌<◌, List, [], ◌∷◌, ◌++◌, length, Some, inl, inr, refl, ap, sym, subst, ◌∙◌, arith, add-one, append_assoc}
use Rattle.std.proofs.lemmas.Bool.{cases_lt}
use Rattle.std.proofs.lemmas.Option.{slice_get_within, slice_get-get_or}
use Rattle.std.proofs.lemmas.Nat.{pow_pos, mod_below}
use Rattle.std.specs.Prelude.{slice_get, slice_set, slice_index_or, Contains}
use Rattle.cmdcodec.specs.declared.raw.Raw.{Raw}
use Rattle.qindex.specs.Positions.{size, place}
use Rattle.qindex.specs.Laws.{SlotsAreApart}
use Rattle.hardware_queue.specs.Queues.{plain_sync, in_memory}
use Rattle.hardware_queue.specs.Standing.{StandsOnceWritten, StandsOnceOverwritten, StandsOnceShown}
use Rattle.hardware_queue.proofs.Owning.{in_memory_more}

-- ---- lists

get_set_other : {A : Type 0} (xs : List A) (i j : ℕ) (x : A) → j ≢ i → slice_get (slice_set xs i x) j ≡ slice_get xs j
get_set_other [] i j x other = refl
get_set_other (y ∷ xs) zero zero x other = absurd (other refl)
get_set_other (y ∷ xs) zero (suc j) x other = refl
get_set_other (y ∷ xs) (suc i) zero x other = refl
get_set_other (y ∷ xs) (suc i) (suc j) x other = get_set_other xs i j x (λ same. other (ap suc same))

contains_first : (x : ℕ) (xs : List ℕ) → Contains (x ∷ xs) x
contains_first x xs = (0, omega arith, refl)

contains_rest : (x y : ℕ) (xs : List ℕ) → Contains xs y → Contains (x ∷ xs) y
contains_rest x y xs (k, inside, is) = (suc k, omega (arith, inside), is)

some_same : {A : Type 0} (a b : A) → Some a ≡ Some b → a ≡ b
some_same a b is = cc

get_shorter : {A : Type 0} (xs ys : List A) (i : ℕ) (x : A) → i < length xs → slice_get (xs ++ ys) i ≡ Some x → slice_get xs i ≡ Some x
get_shorter [] ys i x inside at = absurd (omega (arith, inside))
get_shorter (y ∷ xs) ys zero x inside at = at
get_shorter (y ∷ xs) ys (suc i) x inside at = get_shorter xs ys i x (omega (arith, inside)) at

get_behind : {A : Type 0} (xs ys : List A) (i : ℕ) (x : A) → slice_get (xs ++ ys) (length xs + i) ≡ Some x → slice_get ys i ≡ Some x
get_behind {A} [] ys i x at = subst (λ (k : ℕ). slice_get ys k ≡ Some x) (let e : 0 + i ≡ i = omega arith in e) at
get_behind {A} (y ∷ xs) ys i x at = get_behind xs ys i x (subst (λ (k : ℕ). slice_get (y ∷ (xs ++ ys)) k ≡ Some x) (let e : suc (length xs) + i ≡ suc (length xs + i) = omega arith in e) at)

in_memory_get : (g : ℕ) (m : List Raw) (t n i : ℕ) (raw : Raw) → slice_get (in_memory g m t n) i ≡ Some raw → raw ≡ slice_index_or m (place g (t + i)) plain_sync
in_memory_get g m t zero i raw at = absurd (cc)
in_memory_get g m t (suc n) zero raw at =
    sym (some_same (slice_index_or m (place g t) plain_sync) raw at) ∙ ap (λ (p : ℕ). slice_index_or m (place g p) plain_sync) (omega arith)
in_memory_get g m t (suc n) (suc i) raw at = in_memory_get g m (suc t) n i raw at ∙ ap (λ (p : ℕ). slice_index_or m (place g p) plain_sync) (omega arith)

-- ---- memory is written

pub written_stands : StandsOnceWritten
written_stands q slot raw free stands p shown unconsumed at unlost =
    get_set_other q.memory slot (place q.geometry p) raw (λ same. free.unread (record { position = p; unconsumed = unconsumed; shown = slice_get_within q.shown p shown at; there = sym same }))
    ∙ stands p shown unconsumed at unlost

pub overwritten_stands : SlotsAreApart → StandsOnceOverwritten
overwritten_stands apart q slot owned there stands p shown unconsumed at unlost =
    let c : ℕ = q.consumed in
    let inside = slice_get_within q.shown p shown at in
    let w = owned.within in
    get_set_other q.memory slot (place q.geometry p) plain_sync (λ same.
    let some = pow_pos q.geometry in
    let one : p ≡ c = apart q.geometry c p c unconsumed (omega (arith, inside, w)) (omega arith) (omega (arith, some)) (same ∙ there) in
    unlost (subst (Contains (c ∷ q.lost)) (sym one) (contains_first c q.lost)))
    ∙ stands p shown unconsumed at (λ r. unlost (contains_rest c p q.lost r))

-- ---- more is shown

-- Inside a list it doesn't matter what would be outside.
any_default : (xs : List Raw) (i : ℕ) (d e : Raw) → i < length xs → slice_index_or xs i d ≡ slice_index_or xs i e
any_default xs i d e inside = some_same (slice_index_or xs i d) (slice_index_or xs i e) (sym (slice_get-get_or xs i d inside) ∙ slice_get-get_or xs i e inside)

length-in_memory : (g : ℕ) (m : List Raw) (t n : ℕ) → length (in_memory g m t n) ≡ n
length-in_memory g m t zero = refl
length-in_memory g m t (suc n) = ap suc (length-in_memory g m (suc t) n)

pub shown_more : (g : ℕ) (m first so_far new : List Raw) (n slot : ℕ) (d : Raw) → so_far ≡ first ++ in_memory g m (length first) n → new ≡ so_far ++ slice_index_or m slot d ∷ []
    → slot ≡ place g (length first + n) → slot < length m → new ≡ first ++ in_memory g m (length first) (n + 1)
shown_more g m first so_far new n slot d is new_is there inside =
    new_is
    ∙ ap (λ (xs : List Raw). xs ++ slice_index_or m slot d ∷ []) is
    ∙ ap (λ (x : Raw). (first ++ in_memory g m (length first) n) ++ x ∷ []) (any_default m slot d plain_sync inside ∙ ap (λ (i : ℕ). slice_index_or m i plain_sync) there)
    ∙ append_assoc first (in_memory g m (length first) n) (slice_index_or m (place g (length first + n)) plain_sync ∷ [])
    ∙ ap (λ (xs : List Raw). first ++ xs) (sym (in_memory_more g m (length first) n) ∙ ap (in_memory g m (length first)) (sym (add-one n)))

pub shown_stands : StandsOnceShown
shown_stands q count long stands p raw unconsumed at unlost =
    let g : ℕ = q.geometry in
    let m : List Raw = q.memory in
    let t : ℕ = length q.shown in
    elim (cases_lt p t) [
      | inl earlier ↦ stands p raw unconsumed (get_shorter q.shown (in_memory g m t count) p raw earlier at) unlost
      | inr later ↦
          let whole : p ≡ t + (p - t) = omega (arith, later) in
          let new = in_memory_get g m t count (p - t) raw (get_behind q.shown (in_memory g m t count) (p - t) raw
          (subst (λ (k : ℕ). slice_get (q.shown ++ in_memory g m t count) k ≡ Some raw) whole at)) in
          let inside : place g p < length m = subst (λ (k : ℕ). place g p < k) (sym long) (mod_below p (size g) (pow_pos g)) in
          let here : raw ≡ slice_index_or m (place g p) plain_sync = new ∙ ap (λ (k : ℕ). slice_index_or m (place g k) plain_sync) (sym whole) in
          slice_get-get_or m (place g p) plain_sync inside ∙ ap Some (sym here)
    ]
