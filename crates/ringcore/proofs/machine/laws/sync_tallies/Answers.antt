use Rattle.ringcore.proofs.MachineLemmas.Tallies.{advances_count, others_dont_count}
use Rattle.ringcore.proofs.machine.laws.sync_tallies.Goals as goal

pub returns-clause-advance : goal.returns-clause-advance
returns-clause-advance c = advances_count

pub returns-clause-others : goal.returns-clause-others
returns-clause-others c = others_dont_count
