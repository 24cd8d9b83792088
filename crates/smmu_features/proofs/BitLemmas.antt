-- Numbers of few bits.
use Rattle.std.proofs.Common.{◌≡◌, ℕ, ◌^◌, ◌<◌, ◌≤◌, true, nat_lt, arith}
use Rattle.std.proofs.Math.Nat.{pow-le-pow_right}
use Rattle.std.proofs.lemmas.Bool.{lt-ltb}

-- A number of 32 bits fits more bits.
pub wide_enough : (number bits : ℕ) → number < 2 ^ 32 → 32 ≤ bits → nat_lt number (2 ^ bits) ≡ true
wide_enough number bits small wide =
    let more : 2 ^ 32 ≤ 2 ^ bits = pow-le-pow_right {n = 2} (omega arith) {i = 32} {j = bits} wide in
    lt-ltb number (2 ^ bits) (omega arith)
