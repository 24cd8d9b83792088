-- How many batches have a closing sync.
use Rattle.std.proofs.Common.{◌≡◌, ℕ, zero, suc, ◌+◌, ◌*◌, ◌/◌, ◌%◌, ◌<◌, Bool, true, false, cond, not, ◌==◌, refl, sym, ap, ◌∙◌, inl, inr, arith}
use Rattle.std.proofs.Math.Nat.{suc-mod, mod-lt, mod-eq_of_lt, mod_self}
use Rattle.std.proofs.lemmas.Nat.{div-add-mod', div-mul-add}
use Rattle.std.proofs.lemmas.Bool.{cases_lt, cases_Bool, eqb-true}
use Rattle.stress.specs.Plans.{PlanValue, closes_by, numbered}
use Rattle.stress.specs.Totals.{bare_of, closing_of}

some_rest : (r : ℕ) → (suc r == 0) ≡ false
some_rest r = elim (cases_Bool (suc r == 0)) [
  | inl is ↦ let e = eqb-true (suc r) 0 is in absurd (omega (arith, e))
  | inr isnt ↦ isnt
]

-- one batch on, it is one of those without a sync, or not
bare_more : (e k : ℕ) → suc k / suc e ≡ k / suc e + cond (suc k % suc e == 0) 1 0
bare_more e k =
    let m : ℕ = suc e in
    let q : ℕ = k / m in
    let r : ℕ = k % m in
    let whole : q * m + r ≡ k = div-add-mod' k m in
    let small : r < m = mod-lt k {m = m} (omega arith) in
    elim (cases_lt (suc r) m) [
      | inl less ↦
          let at : suc k ≡ q * m + suc r = (let w = whole in let x : ℕ = q * m in omega (arith, w)) in
          let rest : suc k % m ≡ suc r = suc-mod k m ∙ mod-eq_of_lt {n = suc r} {m = m} less in
          ap (λ (n : ℕ). n / m) at ∙ div-mul-add q m (suc r) less
          ∙ (let e : q ≡ q + 0 = omega arith in e) ∙ ap (λ (b : Bool). q + cond b 1 0) (sym (some_rest r)) ∙ ap (λ (n : ℕ). q + cond (n == 0) 1 0) (sym rest)
      | inr more ↦
          let full : suc r ≡ m = omega (arith, small, more) in
          let at : suc k ≡ (q + 1) * m + 0 = (let w = whole in let f = full in grind (arith, w, f)) in
          let rest : suc k % m ≡ 0 = suc-mod k m ∙ ap (λ (n : ℕ). n % m) full ∙ mod_self m in
          ap (λ (n : ℕ). n / m) at ∙ div-mul-add (q + 1) m 0 (omega arith) ∙ ap (λ (n : ℕ). q + cond (n == 0) 1 0) (sym rest)
    ]

step : (c : Bool) (n bare all more : ℕ) → n + bare ≡ all → more ≡ bare + cond c 1 0 → cond (not c) (suc n) n + more ≡ suc all
step true n bare all more so_far next = omega (arith, so_far, next)
step false n bare all more so_far next = omega (arith, so_far, next)

by_every : (plan : PlanValue) (every : ℕ) → plan.every ≡ every → (n : ℕ) → numbered plan n + bare_of every n ≡ n
by_every plan zero is zero = refl
by_every plan zero is (suc n) =
    let before = by_every plan zero is n in
    let each : numbered plan (suc n) ≡ suc (numbered plan n) = ap (λ (e : ℕ). cond (closes_by e (suc n)) (suc (numbered plan n)) (numbered plan n)) is in
    omega (arith, before, each)
by_every plan (suc e) is zero = (let z : 0 / suc e ≡ 0 = ap (λ (n : ℕ). n / suc e) (let w : 0 ≡ 0 * suc e + 0 = omega arith in w) ∙ div-mul-add 0 (suc e) 0 (omega arith) in omega (arith, z))
by_every plan (suc e) is (suc n) =
    let before = by_every plan (suc e) is n in
    ap (λ (x : ℕ). cond (closes_by x (suc n)) (suc (numbered plan n)) (numbered plan n) + bare_of (suc e) (suc n)) is
    ∙ step (suc n % suc e == 0) (numbered plan n) (n / suc e) n (suc n / suc e) before (bare_more e n)

pub closing_is : (plan : PlanValue) → numbered plan plan.batches ≡ closing_of plan
closing_is plan = let all = by_every plan plan.every refl plan.batches in omega (arith, all)
