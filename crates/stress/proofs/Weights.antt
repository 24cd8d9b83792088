-- Commands are counted by weights: what a list weighs, and what becomes of it in a merge.
use Rattle.std.proofs.Common.{◌≡◌, ℕ, zero, suc, ◌+◌, ◌*◌, ◌<◌, ◌≤◌, Bool, true, false, cond, ◌==◌, List, [], ◌∷◌, ◌++◌, length, map, refl, sym, ap, ap₂, ◌∙◌, inl, inr, arith}
use Rattle.std.specs.Prelude.{Some, slice_get}
use Rattle.std.proofs.lemmas.Bool.{cases_Bool, eqb-true, eqb-false}
use Rattle.cmdcodec.specs.declared.raw.Raw.{Raw}
use Rattle.ringcore.specs.world.World.{Taken, taken_as, commands}
use Rattle.ringcore.specs.world.Delivery.{Batch, joined}
use Rattle.ringcore.specs.world.Laws.{batches_of}
use Rattle.engine.specs.Counting.{how_many}
use Rattle.stress.specs.Totals.{sum_below}

-- the weights of commands, added up
abbrev pub weigh : (Raw → ℕ) → List Raw → ℕ
weigh w [] = 0
weigh w (raw ∷ raws) = w raw + weigh w raws

pub weigh_append : (w : Raw → ℕ) (xs ys : List Raw) → weigh w (xs ++ ys) ≡ weigh w xs + weigh w ys
weigh_append w [] ys = omega arith
weigh_append w (x ∷ xs) ys = let e = weigh_append w xs ys in omega (arith, e)

-- those that are so, of the commands taken
pub many_so : (is_so : Taken → Bool) (raws : List Raw) → how_many is_so (map taken_as raws) ≡ weigh (λ raw. cond (is_so (taken_as raw)) 1 0) raws
many_so is_so [] = refl
many_so is_so (raw ∷ raws) = ap (λ (n : ℕ). cond (is_so (taken_as raw)) 1 0 + n) (many_so is_so raws)

pub length_weighs : (raws : List Raw) → weigh (λ raw. 1) raws ≡ length raws
length_weighs [] = refl
length_weighs (raw ∷ raws) = let e = length_weighs raws in omega (arith, e)

pub same_weights : (v w : Raw → ℕ) → ((raw : Raw) → v raw ≡ w raw) → (raws : List Raw) → weigh v raws ≡ weigh w raws
same_weights v w same [] = refl
same_weights v w same (raw ∷ raws) = ap₂ (λ (m n : ℕ). m + n) (same raw) (same_weights v w same raws)

-- ---- sums

pub sum_same : (n : ℕ) (f g : ℕ → ℕ) → ((k : ℕ) → k < n → f k ≡ g k) → sum_below n f ≡ sum_below n g
sum_same zero f g same = refl
sum_same (suc n) f g same = ap₂ (λ (a b : ℕ). a + b) (sum_same n f g (λ k less. same k (omega (arith, less)))) (same n (omega arith))

pub sum_of : (n x : ℕ) → sum_below n (λ k. x) ≡ n * x
sum_of zero x = omega arith
sum_of (suc n) x = let e = sum_of n x in omega (arith, e)

pub sum_plus : (n : ℕ) (f g : ℕ → ℕ) → sum_below n (λ k. f k + g k) ≡ sum_below n f + sum_below n g
sum_plus zero f g = omega arith
sum_plus (suc n) f g = let e = sum_plus n f g in omega (arith, e)

pub sum_times : (n x : ℕ) (f : ℕ → ℕ) → sum_below n (λ k. f k * x) ≡ sum_below n f * x
sum_times zero x f = omega arith
sum_times (suc n) x f = let e = sum_times n x f in grind (arith, e)

-- no summand is more than the sum
pub least : (n i : ℕ) (f : ℕ → ℕ) → i < n → f i ≤ sum_below n f
least zero i f less = absurd (omega (arith, less))
least (suc n) i f less =
    elim (cases_Bool (i == n)) [
      | inl is ↦ let here = ap f (eqb-true i n is) in omega (arith, here)
      | inr isnt ↦ let e = least n i f (below (eqb-false i n isnt)) in omega (arith, e)
    ]
  where
    below : (i ≡ n → ⊥) → i < n
    below apart = omega (arith, apart, less)

-- one more at one place
pub sum_one : (n b x : ℕ) (f g : ℕ → ℕ) → b < n → ((k : ℕ) → f k ≡ cond (k == b) (x + g k) (g k)) → sum_below n f ≡ x + sum_below n g
sum_one zero b x f g less at = absurd (omega (arith, less))
sum_one (suc n) b x f g less at =
    elim (cases_Bool (n == b)) [
      | inl is ↦
          let n_is = eqb-true n b is in
          let here : f n ≡ x + g n = at n ∙ ap (λ (c : Bool). cond c (x + g n) (g n)) is in
          let below : sum_below n f ≡ sum_below n g = sum_same n f g (λ k small. at k ∙ ap (λ (c : Bool). cond c (x + g k) (g k)) (other k (omega (arith, small, n_is)))) in
          omega (arith, here, below)
      | inr isnt ↦
          let apart = eqb-false n b isnt in
          let here : f n ≡ g n = at n ∙ ap (λ (c : Bool). cond c (x + g n) (g n)) isnt in
          let below = sum_one n b x f g (smaller apart) at in
          omega (arith, here, below)
    ]
  where
    other : (k : ℕ) → k < b → (k == b) ≡ false
    other k small = elim (cases_Bool (k == b)) [
      | inl is ↦ let e = eqb-true k b is in absurd (omega (arith, e, small))
      | inr isnt ↦ isnt
    ]

    smaller : (n ≡ b → ⊥) → b < n
    smaller apart = omega (arith, apart, less)

-- ---- a merge

module _ (w : Raw → ℕ) where
  abbrev pub of : List Batch → ℕ
  of bs = weigh w (joined bs)

  one_of : (c : Bool) (b : Batch) (bs : List Batch) → of (cond c (b ∷ bs) bs) ≡ cond c (weigh w (commands b.sender b.number b.body) + of bs) (of bs)
  one_of true b bs = weigh_append w (commands b.sender b.number b.body) (joined bs)
  one_of false b bs = refl

  -- what is merged weighs what its parts weigh
  pub merged : (n : ℕ) (all : List Batch) → ((i : ℕ) (b : Batch) → slice_get all i ≡ Some b → b.sender < n) → of all ≡ sum_below n (λ s. of (batches_of s all))
  merged n [] only = sym (sum_of n 0 ∙ (omega arith))
  merged n (b ∷ bs) only =
      let x = weigh w (commands b.sender b.number b.body) in
      let rest = merged n bs (λ i c at. only (suc i) c at) in
      let more = sum_one n b.sender x (λ s. of (batches_of s (b ∷ bs))) (λ s. of (batches_of s bs)) (only 0 b refl) (λ s. one_of (s == b.sender) b (batches_of s bs)) in
      weigh_append w (commands b.sender b.number b.body) (joined bs) ∙ (ap (λ (m : ℕ). x + m) rest ∙ sym more)

  pub one_more_batch : (bs : List Batch) (b : Batch) → of (bs ++ b ∷ []) ≡ of bs + weigh w (commands b.sender b.number b.body)
  one_more_batch [] b = let e = weigh_append w (commands b.sender b.number b.body) [] in omega (arith, e)
  one_more_batch (x ∷ xs) b =
      let rest = one_more_batch xs b in
      let e = weigh_append w (commands x.sender x.number x.body) (joined (xs ++ b ∷ [])) in
      let f = weigh_append w (commands x.sender x.number x.body) (joined xs) in
      omega (arith, rest, e, f)
