use Rattle.std.proofs.Common.{rules, ◌<◌, sym, ap, ◌∙◌, subst}
use Rattle.ringcore.specs.memory.Layout.{cell}
use Rattle.ring.proofs.TableLemmas.PortSteps.{may_store, words_are}
use Rattle.ring.proofs.TableLemmas.StepKinds.{acknowledges_may, cell_inside}
use Rattle.ring.proofs.table.port.Port.acknowledge.Goals as goal
use Rattle.ring.specs.Rings.{RingValue}

pub store-requires : goal.store-requires
store-requires g c =
    let at = c.cell_of.ensures ∙ ap (λ (r : RingValue). cell r.made_with.geometry c.args.sender) (sym c.requires.ring) in (
      search rules,
      cell_inside _ _ _ _ _ (words_are _ _ c.ring.invariant.words _ _ c.requires.ring _ (sym c.ring.view_is)) at (subst (λ (r : RingValue). c.args.sender < r.made_with.senders) (sym c.requires.ring) c.requires.known),
      may_store _ _ _ c.self.view_is c.self.invariant _ _ _ _ _ c.requires.intent _ c.requires.who _ _
          (acknowledges_may c.acknowledge.ensures c.consumer_trail.ensures.acknowledged c.counts_law.ensures.syncs _ _ _ _ _ _ at c.from.ensures c.requires.next c.requires.taken),
    )
