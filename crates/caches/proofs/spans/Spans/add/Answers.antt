use Rattle.std.proofs.Common.{◌≡◌, ◌∙◌, ◌*◌, ◌%◌, ◌<◌, ◌^◌, inl, inr, w64, sym, subst, arith, bit_or}
use Rattle.std.proofs.Math.Pow.{pow-lt}
use Rattle.std.proofs.lemmas.Bool.{cases_eq}
use Rattle.std.proofs.lemmas.Nat.{or_lt, one_shl}
use Rattle.std.proofs.lemmas.Nat.Bits.{bit_at_set_same, bit_at_set_other}
use Rattle.std.specs.Int.{bit_at}
use Rattle.caches.proofs.spans.Spans.add.Goals as goal

pub invariant_of-self : goal.invariant_of-self
invariant_of-self c =
    let one : 2 ^ c.args.span < 2 ^ 53 = pow-lt {j = 53} (omega (arith, c.requires)) in
    record { few = or_lt 53 c.args.self.now.used (1 * 2 ^ c.args.span % 2 ^ 64) c.args.self.now.few (subst (λ n. n < 2 ^ 53) (sym (one_shl c.args.span 64 (omega (arith, c.requires)))) one) }

pub returns-clause-added : goal.returns-clause-added
returns-clause-added c = (c.requires, bit_at_set_same w64 c.args.self.now.used c.args.span (omega (arith, c.requires)))

pub returns-clause-kept : goal.returns-clause-kept
returns-clause-kept c = λ n has. (
  has.0,
  elim (cases_eq n c.args.span) as (λ _. bit_at (bit_or c.args.self.now.used (1 * 2 ^ c.args.span % 2 ^ 64)) n ≡ 1) [
    | inl same ↦ subst (λ k. bit_at (bit_or c.args.self.now.used (1 * 2 ^ c.args.span % 2 ^ 64)) k ≡ 1) (sym same) (returns-clause-added c).1
    | inr apart ↦ bit_at_set_other w64 c.args.self.now.used c.args.span (omega (arith, c.requires)) n apart ∙ has.1
  ],
)
