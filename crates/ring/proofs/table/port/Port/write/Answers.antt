use Rattle.std.proofs.Common.{rules, sym, ap, ◌∙◌}
use Rattle.ringcore.specs.memory.Layout.{data_word}
use Rattle.ring.proofs.TableLemmas.PortSteps.{may_store, words_are}
use Rattle.ring.proofs.TableLemmas.StepKinds.{writes_may, data_inside}
use Rattle.ring.proofs.table.port.Port.write.Goals as goal

pub store-requires : goal.store-requires
store-requires g c = (
  search rules,
  data_inside _ _ _ _ _ _ (words_are _ _ c.ring.invariant.words _ _ c.requires.ring _ (sym c.ring.view_is)) (c.data_word.ensures.value ∙ ap (λ geometry. data_word geometry c.args.slot.number c.args.half) c.requires.geometry),
  may_store _ _ _ c.self.view_is c.self.invariant _ _ _ _ _ c.requires.intent _ c.requires.who _ _
      (writes_may c.write.ensures c.start.ensures _ _ _ _ _ _ _ _ c.requires.may c.requires.raw c.half_word-word.ensures (λ position here. c.data_word.ensures.position _ _ (c.requires.slot position here))),
)
