-- An aligned block of a power of two ends within a greater power of two that holds its start.
use Rattle.std.proofs.Common.{◌≡◌, ℕ, ◌+◌, ◌-◌, ◌*◌, ◌/◌, ◌^◌, ◌<◌, ◌≤◌, ap, ◌∙◌, arith}
use Rattle.std.proofs.Math.Nat.{div-lt_iff_lt-mul}
use Rattle.std.proofs.lemmas.Nat.{pow_pos, pow-add, mul-le}

pub block_fits : (n k m : ℕ) → k ≤ m → n < 2 ^ m → n / 2 ^ k * 2 ^ k + 2 ^ k ≤ 2 ^ m
block_fits n k m less below =
    let blocks = 2 ^ (m - k) in
    let split : 2 ^ m ≡ blocks * 2 ^ k = ap (λ e. 2 ^ e) (omega (arith, less)) ∙ pow-add 2 (m - k) k in
    let among : n / 2 ^ k < blocks = (div-lt_iff_lt-mul {k = 2 ^ k} {x = n} {y = blocks} (pow_pos k)).1 (omega (arith, split, below)) in
    let product = mul-le (n / 2 ^ k + 1) (2 ^ k) blocks (2 ^ k) (omega (arith, among)) (omega arith) in
    omega (arith, product, split)
