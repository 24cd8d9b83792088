use Rattle.std.proofs.Common.{◌≡◌, ◌<◌, ◌^◌, ℕ, Option, IfSome, length, arith, subst, sym}
use Rattle.script.specs.Words.{number_in}
use Rattle.hex_dump.proofs.DigitLemmas.{number_small}
use Rattle.hex_dump.proofs.digits.exact_number.Goals as goal

pub returns-then-digits-count-clause-small : goal.returns-then-digits-count-clause-small
returns-then-digits-count-clause-small c =
    let digits = c.args.digits.now in
    let long : length digits ≡ c.args.count = omega arith in
    subst (λ (said : Option ℕ). IfSome said (λ n. n < 16 ^ c.args.count)) (sym c.hex_number.ensures)
    (subst (λ k. IfSome (number_in 16 c.args.count digits) (λ n. n < 16 ^ k)) long (number_small c.args.count digits))
