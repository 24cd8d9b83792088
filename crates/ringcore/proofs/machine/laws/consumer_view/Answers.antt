use Rattle.ringcore.proofs.MachineLemmas.ConsumerKnows.{senders_leave, look_leaves, acknowledgement_leaves}
use Rattle.ringcore.proofs.machine.laws.consumer_view.Goals as goal

pub returns-clause-senders : goal.returns-clause-senders
returns-clause-senders c = senders_leave

pub returns-clause-look : goal.returns-clause-look
returns-clause-look c = look_leaves

pub returns-clause-acknowledgement : goal.returns-clause-acknowledgement
returns-clause-acknowledgement c = acknowledgement_leaves
