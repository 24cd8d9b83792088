use Rattle.std.proofs.Common.{◌-◌, ◌≤◌, ◌^◌, inl, inr, w64, arith}
use Rattle.std.specs.Int.{leading_zeros}
use Rattle.std.proofs.Math.Pow.{pow_mono}
use Rattle.std.proofs.lemmas.Bool.{cases_lt}
use Rattle.std.proofs.lemmas.Nat.{leading_length}
use Rattle.caches.proofs.Masks.{below_end}
use Rattle.caches.proofs.spans.Spans.end.Goals as goal

pub returns-clause-above : goal.returns-clause-above
returns-clause-above c = λ n has.
    let used = c.args.self.now.used in
    let long = leading_length 64 used (omega (arith, c.args.self.now.few)) in
    let below = below_end used long.0 n long.2 has in
    omega (arith, long.1, below)

pub returns-clause-few : goal.returns-clause-few
returns-clause-few c =
    let long = leading_length 64 c.args.self.now.used (omega (arith, c.args.self.now.few)) in
    elim (cases_lt long.0 54) as (λ _. 64 - leading_zeros w64 c.args.self.now.used ≤ 53) [
      | inl below ↦ omega (arith, long.1, below)
      | inr from ↦ let more : 2 ^ 54 ≤ 2 ^ long.0 = pow_mono from in absurd (omega (arith, more, long.3, c.args.self.now.few))
    ]
