use Rattle.std.proofs.Common.{rules, sym, ◌∙◌}
use Rattle.ring_tests.proofs.Legal.{has_outcome, one_more}
use Rattle.ring_tests.proofs.runs.legal.Goals as goal

pub loop-count-preserved : goal.loop-count-preserved
loop-count-preserved c = one_more _ _ c.unwrap.result c.loop-count.invariant (sym c.get.ensures ∙ c.unwrap.ensures) (c.is_legal.ensures (search rules))

pub returns-clause-legal : goal.returns-clause-legal
returns-clause-legal c = has_outcome _ _ (search rules)
