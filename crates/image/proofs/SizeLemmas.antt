-- The first number of a range that passes a test.
use Rattle.std.proofs.Common.{◌≡◌, ℕ, suc, ◌+◌, ◌-◌, ◌<◌, Bool, true, false, cond, ap, ◌∙◌, refl, Some, None, arith}
use Rattle.std.proofs.lemmas.Bool.{cond-false, cond-true}
use Rattle.std.specs.List.{find, range_with_len}

unroll : (test : ℕ → Bool) (x n : ℕ) → find test (range_with_len x (suc n)) ≡ cond (test x) (Some x) (find test (range_with_len (x + 1) n))
unroll test x n = refl

more : (n : ℕ) → 0 < n → n ≡ suc (n - 1)
more n some = omega (arith, some)

pub first_found : (test : ℕ → Bool) (x n : ℕ) → 0 < n → test x ≡ true → find test (range_with_len x n) ≡ Some x
first_found test x n some is =
    ap (λ k. find test (range_with_len x k)) (more n some) ∙ unroll test x (n - 1) ∙ cond-true _ (Some x) (find test (range_with_len (x + 1) (n - 1))) is

pub first_later : (test : ℕ → Bool) (x n : ℕ) → 0 < n → test x ≡ false → find test (range_with_len x n) ≡ find test (range_with_len (x + 1) (n - 1))
first_later test x n some is_not =
    ap (λ k. find test (range_with_len x k)) (more n some) ∙ unroll test x (n - 1) ∙ cond-false _ (Some x) (find test (range_with_len (x + 1) (n - 1))) is_not

pub none_left : (test : ℕ → Bool) (x : ℕ) → find test (range_with_len x 0) ≡ None
none_left test x = refl
