use Rattle.std.proofs.Common.{subst}
use Rattle.engine.specs.declared.verdict.Judgement.TheVariants.{Replaced}
use Rattle.engine.specs.Units.{UnitValue, StaysSettled, took_words}
use Rattle.engine.proofs.Running.{applied_settled}
use Rattle.engine.proofs.unit.Unit.judge_words.Goals as goal

pub returns-in-Some-clause-settled : goal.returns-in-Some-clause-settled
returns-in-Some-clause-settled c = let applied = c.in-Some.ensures.applied in applied_settled _ applied.0 _ _ _ applied.1

pub returns-in-Replaced-clause-settled : goal.returns-in-Replaced-clause-settled
returns-in-Replaced-clause-settled c =
    subst (λ (u : UnitValue). StaysSettled u c.judge.new.self (took_words c.args.raw (Replaced c.in-Replaced.ill))) (c.apply_words.ensures.kept c.in_default.is) c.in-Replaced.ensures.settled
