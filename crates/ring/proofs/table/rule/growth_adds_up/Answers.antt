use Rattle.ring.proofs.TableLemmas.Grown.{grew_more, one_is_last, none_is_none}
use Rattle.ring.proofs.table.rule.growth_adds_up.Goals as goal

pub returns-clause-sum : goal.returns-clause-sum
returns-clause-sum c = grew_more

pub returns-clause-one : goal.returns-clause-one
returns-clause-one c = one_is_last

pub returns-clause-none : goal.returns-clause-none
returns-clause-none c = none_is_none
