use Rattle.ring.proofs.TableLemmas.Grown.{sender_step}
use Rattle.ring.proofs.sender.Sender.is_done.Goals as goal

pub returns-clause-history : goal.returns-clause-history
returns-clause-history c = sender_step c.args.self.now c.done_up_to.new.self _ c.done_up_to.ensures.asked c.done_up_to.ensures.history
