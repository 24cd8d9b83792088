use Rattle.ringcore.proofs.MachineLemmas.SenderKnows.{others, closed, asked}
use Rattle.ringcore.proofs.machine.laws.sender_view.Goals as goal

pub returns-clause-others : goal.returns-clause-others
returns-clause-others c = others

pub returns-clause-close : goal.returns-clause-close
returns-clause-close c = closed

pub returns-clause-ask : goal.returns-clause-ask
returns-clause-ask c = asked
