use Rattle.std.proofs.Common.{ℕ, rules, refl, sym, subst, ◌∙◌}
use Rattle.ringcore.specs.world.World.{world, control}
use Rattle.ring.specs.Rings.{RingValue}
use Rattle.ring.specs.NewRings.{IsNewRing}
use Rattle.caches.specs.Held.{AreOwn}
use Rattle.engine.specs.Units.{UnitValue}
use Rattle.engine.specs.Engines.{EngineValue}
use Rattle.renewal.specs.Queues.{AreAtOnePlace}
use Rattle.smmuq_c.specs.Renewing.{HasRenewed}
use Rattle.smmuq_c.proofs.Renewals.{gone_on}
use Rattle.smmuq_c.proofs.seated_engine.SeatedEngine.renew.Goals as goal

pub returns-in-Ok-clause-renewed : goal.returns-in-Ok-clause-renewed
returns-in-Ok-clause-renewed c =
    let last = c.sees_waiting.new.engine in
    let handles = c.args.senders.now in
    let filled = c.go_on.new.senders in
    let queue = c.in-Ok.queue.value in
    let own = subst (λ (u : UnitValue). AreOwn u.caches.entries) c.unit.ensures c.are_own.ensures in
    subst (λ (old : EngineValue). HasRenewed c.args.sizes handles filled old c.go_on.new.self c.go_on.result) c.self.view_is
    (gone_on c.args.sizes queue handles filled c.self.inside.engine last c.go_on.new.self c.go_on.result c.sees_waiting.ensures.looked (search rules)
    (subst (λ (r : RingValue). AreAtOnePlace (control r.made_with.geometry (world last.consumer.history))) (c.deref.ensures ∙ sym c.self.invariant) (c.if-sees_waiting.ensures.none refl))
    c.is_settled.ensures.settled own
    (subst (λ (n : ℕ). IsNewRing c.args.sizes.log2 n c.args.sizes.max_batches queue.ring queue.senders.items queue.engine.consumer) c.count_of.ensures c.in-Ok.ensures.unused)
    c.in-Ok.ensures.entries (search rules) (search rules) c.go_on.ensures.gone_on)
