use Rattle.std.proofs.Common.{◌+◌, ℕ, take, sym, subst, length-take-le}
use Rattle.ring.specs.consumer.{IsAtHead}
use Rattle.ring.proofs.ConsumerLemmas.Acknowledging.{further_at_head}
use Rattle.ring.proofs.consumer.consumer_port.ConsumerPort.advance.Goals as goal

pub invariant_of-self : goal.invariant_of-self
invariant_of-self c =
    let further = c.forward-further.ensures.position _ _ c.self.invariant.head_is in
    subst (λ (n : ℕ). IsAtHead c.advance.new.self c.forward-further.result (c.self.inside.taken + n)) (sym c.from.ensures)
    (further_at_head c.self.inside.port c.advance.new.self c.self.inside.head _ c.self.inside.taken c.args.count (take c.args.count c.args.commands.now) c.self.invariant c.advance.ensures.trail
    (length-take-le c.args.count c.args.commands.now c.requires.count) further)
