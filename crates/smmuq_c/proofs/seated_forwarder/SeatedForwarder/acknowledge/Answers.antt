use Rattle.smmuq_c.proofs.Forwarded.{refused_for}
use Rattle.smmuq_c.proofs.seated_forwarder.SeatedForwarder.acknowledge.Goals as goal

pub returns-in-Err-clause-called : goal.returns-in-Err-clause-called
returns-in-Err-clause-called c = rw (← c.self.view_is) (refused_for c.in-Err.fault c.args.gerrorn c.args.remedy _ _ _ c.refused.result c.in-Err.ensures.refused c.in-Err.ensures.kept c.refused.ensures)
