-- A block that starts at a multiple of its length and holds a page starts at that page rounded down.
use Rattle.std.proofs.Common.{◌≡◌, ℕ, ◌+◌, ◌-◌, ◌*◌, ◌/◌, ◌%◌, ◌^◌, ◌<◌, ◌≤◌, ◌∙◌, ap, subst, arith}
use Rattle.std.proofs.Math.Nat.{div-add-mod'}
use Rattle.std.proofs.lemmas.Nat.{div-mul-add, mod-pow-add}

pub aligned_start : (p f s : ℕ) → p % 2 ^ s ≡ 0 → p ≤ f → f < p + 2 ^ s → f - f % 2 ^ s ≡ p
aligned_start p f s z low high =
    let m = 2 ^ s in
    let whole : p / 2 ^ s * 2 ^ s + p % 2 ^ s ≡ p = div-add-mod' p (2 ^ s) in
    let split : f ≡ p / 2 ^ s * 2 ^ s + (f - p) = omega arith in
    let same : (p / 2 ^ s * 2 ^ s + (f - p)) / 2 ^ s ≡ p / 2 ^ s = div-mul-add (p / 2 ^ s) (2 ^ s) (f - p) (omega arith) in
    let quotient : f / 2 ^ s ≡ p / 2 ^ s = ap (λ n. n / 2 ^ s) split ∙ same in
    let again : f / 2 ^ s * 2 ^ s + f % 2 ^ s ≡ f = div-add-mod' f (2 ^ s) in
    let joined : p / 2 ^ s * 2 ^ s + f % 2 ^ s ≡ f = subst (λ q. q * 2 ^ s + f % 2 ^ s ≡ f) quotient again in
    omega arith

-- Rounding a page down by more gives no greater page.
pub start_falls : (f n s : ℕ) → n ≤ s → f - f % 2 ^ s ≤ f - f % 2 ^ n
start_falls f n s h =
    let m : ℕ = s - n in
    let e : f % 2 ^ (m + n) ≡ (f / 2 ^ n % 2 ^ m) * 2 ^ n + f % 2 ^ n = mod-pow-add f m n in
    let g : f % 2 ^ s ≡ (f / 2 ^ n % 2 ^ m) * 2 ^ n + f % 2 ^ n = subst (λ k. f % 2 ^ k ≡ (f / 2 ^ n % 2 ^ m) * 2 ^ n + f % 2 ^ n) (omega arith) e in
    omega arith
