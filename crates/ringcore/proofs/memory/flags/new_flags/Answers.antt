use Rattle.std.proofs.Common.{◌≡◌, ℕ, suc, ◌+◌, ◌-◌, ◌*◌, ◌%◌, ◌^◌, ◌<◌, ◌≤◌, ap, ap₂, ◌∙◌, arith}
use Rattle.std.proofs.Math.Nat.{mod-eq_of_lt, mul-le-mul_left, two-pow-succ}
use Rattle.std.proofs.Math.Pow.{pow_mono}
use Rattle.qindex.specs.Positions.{wrap_bit}
use Rattle.ringcore.specs.memory.Flags.{polarity}
use Rattle.ringcore.specs.machine.StepAnswers.{new_flags}
use Rattle.ringcore.proofs.memory.flags.new_flags.Goals as goal

one_bit : (g p : ℕ) → polarity g p ≤ 1
one_bit g p = let w : ℕ = wrap_bit g p in let le : 1 - w ≤ 1 = omega arith in le

at_most : (b k : ℕ) → b ≤ 1 → b * 2 ^ k ≤ 2 ^ k
at_most b k low = let le = mul-le-mul_left (2 ^ k) low in omega (arith, le)

fits : (b k : ℕ) → b ≤ 1 → k < 64 → b * 2 ^ k < 18446744073709551616
fits b k low small =
    let le = at_most b k low in
    let most : 2 ^ k ≤ 2 ^ 63 = pow_mono {i = k} {j = 63} (omega (arith, small)) in
    omega (arith, le, most)

pub loop-offset-preserved : goal.loop-offset-preserved
loop-offset-preserved c =
    let g : ℕ = c.args.geometry in
    let p : ℕ = c.args.position in
    let k : ℕ = c.loop-offset.offset in
    let b : ℕ = c.new_flag.result in
    let bit : b ≡ polarity g (p + k) = c.new_flag.ensures ∙ ap (λ n. polarity g (p + n)) c.from.ensures in
    let low : b ≤ 1 = (let one = one_bit g (p + k) in omega (arith, one, bit)) in
    let small : k < 64 = omega (arith, c.loop-offset-test.true, c.requires.most) in
    let whole : b * 2 ^ k % 18446744073709551616 ≡ b * 2 ^ k = mod-eq_of_lt (fits b k low small) in
    let next : suc k ≡ k + 1 = omega arith in
    record {
      flags_are =
          ap₂ (λ (x y : ℕ). x + y) c.loop-offset.invariant.flags_are (whole ∙ ap (λ n. n * 2 ^ k) bit)
          ∙ ap (new_flags g p) next;
      small =
          let was = c.loop-offset.invariant.small in
          let most = at_most b k low in
          let twice : 2 ^ (k + 1) ≡ 2 ^ k + 2 ^ k = ap (λ n. 2 ^ n) (omega arith) ∙ two-pow-succ k in
          omega (arith, was, most, whole, twice);
    }
