use Rattle.std.proofs.Common.{IfOk, sym, subst}
use Rattle.script.specs.Standing.{Begins}
use Rattle.simulator.specs.Standing.{Stands}
use Rattle.replay.specs.ReplayText.{first_served}
use Rattle.replay.proofs.kind.ReplayScriptKind.first.Goals as goal

pub returns-in-Ring : goal.returns-in-Ring
unfolding first_served
returns-in-Ring c =
    subst (λ request. IfOk c.first_ring.result (λ first. Begins Stands first (λ number. first_served number request))) (sym c.in-Ring.is) c.first_ring.ensures
