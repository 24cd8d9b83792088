use Rattle.std.proofs.Common.{sym, subst}
use Rattle.invalidations.specs.Hints.{ttl_of, IsSaid}
use Rattle.invalidations.proofs.HintLemmas.{said}
use Rattle.invalidations.proofs.by_address.CommandsByAddress.take.Goals as goal

pub returns-clause-said : goal.returns-clause-said
returns-clause-said c =
    let request = c.self.inside.request in
    subst (λ r. IsSaid (ttl_of r.target) c.command-command.result) c.self.view_is
    (subst (IsSaid (ttl_of request.target)) (sym c.command-command.ensures) (said request.target request.range.first request.range.count))
