use Rattle.std.proofs.Common.{[], arith, ◌≡◌, sym, ap, subst, ◌∙◌}
use Rattle.ring.specs.Runs.{Consumer}
use Rattle.ring.specs.Rings.{RingValue}
use Rattle.ring.specs.table.{PortValue, Grew}
use Rattle.ring.proofs.TableLemmas.Grown.{grew_step, grew_more}
use Rattle.ring.specs.consumer.{IsDue}
use Rattle.ring.proofs.ConsumerLemmas.Acknowledging.{all_are, IsTurn, turn as turn_of}
use Rattle.ring.proofs.table.port.Port.acknowledge_run.Goals.{After-is_sync, Then-is_sync, then-is_sync, else-is_sync}
use Rattle.ring.proofs.table.port.Port.acknowledge_run.Goals as goal

turn : (c : After-is_sync) → IsTurn c.args.self.now c.args.commands.now c.args.self.now.ring.made_with.senders c.loop-place.self c.loop-place.place c.unwrap-raw.result
turn c = turn_of c.args.self.now _ _ c.requires.advanced c.counts_law.ensures.sum c.consumer_trail.ensures.syncs c.counts_law.ensures.words _ c.knows_its_steps.ensures.limits.senders (c.knows_its_steps.ensures.steps c.requires.who).order
    c.loop-place.self c.loop-place.place c.unwrap-raw.result c.loop-place-test.true (sym c.get.ensures ∙ c.unwrap-raw.ensures) c.loop-place.invariant.trail c.loop-place.invariant.acks

due : (c : Then-is_sync) → IsDue c.args.self.now.ring.made_with.senders c.loop-place.self.trail c.unwrap-raw.result
due c = (turn (goal.at.Then-is_sync c).After-is_sync).due (sym c.is_sync.ensures ∙ c.if-is_sync.true)

pub acknowledge_sync-requires-clause-due : goal.acknowledge_sync-requires-clause-due
acknowledge_sync-requires-clause-due c =
    subst (λ (r : RingValue). IsDue r.made_with.senders c.loop-place.self.trail c.unwrap-raw.result) c.requires.ring (due (goal.at.acknowledge_sync-requires-clause-due c).Then-is_sync)

pub loop-place-preserved : goal.loop-place-preserved
loop-place-preserved c =
    let its = turn (goal.at.loop-place-preserved c).After-is_sync in let mid : PortValue = c.loop-place.self in
    elim c.if-is_sync.branch [
      | then-is_sync w ↦
          let kept = its.then_after (sym c.is_sync.ensures ∙ w.if-is_sync.true) c.if-is_sync.self
          (ap (λ (p : PortValue). let q : PortValue = record p { history = [] } in q) w.self-is ∙ w.acknowledge_sync.ensures.trail) in
          let one = grew_step Consumer _ _ _ _ _ (ap (λ (p : PortValue). p.trail) w.acknowledge_sync.ensures.trail) w.acknowledge_sync.ensures.history in
          let grown = subst (λ (p : PortValue). Grew Consumer mid.trail p.trail mid.history p.history) (sym w.self-is) one in
          record { trail = kept.0; acks = kept.1; history = grew_more _ _ _ _ _ _ _ c.loop-place.invariant.history grown }
      | else-is_sync w ↦
          let kept = its.else_after (sym c.is_sync.ensures ∙ w.if-is_sync.false) c.if-is_sync.self w.self-is in
          let old : PortValue = c.args.self.now in
          record { trail = kept.0; acks = kept.1; history = subst (λ (p : PortValue). Grew Consumer old.trail p.trail old.history p.history) (sym w.self-is) c.loop-place.invariant.history }
    ]

pub returns-clause-current : goal.returns-clause-current
returns-clause-current c =
    let end : c.loop-place.place ≡ c.args.count = (let a = c.loop-place-test.false in let b = c.loop-place.auto.place-end in omega (arith, a, b)) in
    all_are c.args.self.now _ _ c.requires.advanced c.loop-place.self _ end c.loop-place.invariant.trail c.loop-place.invariant.acks
