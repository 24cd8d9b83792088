use Rattle.std.proofs.Common.{rules, sym, ap, ◌∙◌}
use Rattle.std.specs.Prelude.{bit_xor}
use Rattle.ringcore.specs.memory.Layout.{flag_word}
use Rattle.ring.proofs.TableLemmas.PortSteps.{may_change, words_are, may_flip_all}
use Rattle.ring.proofs.TableLemmas.StepKinds.{flips_may, flag_inside}
use Rattle.ring.proofs.table.port.Port.flip.Goals as goal

pub fetch_xor-requires : goal.fetch_xor-requires
fetch_xor-requires g c = (
  search rules,
  flag_inside _ _ _ _ _ (words_are _ _ c.ring.invariant.words _ _ c.requires.ring _ (sym c.ring.view_is)) (c.flag_word.ensures.value ∙ ap (λ geometry. flag_word geometry c.args.slot.number) c.requires.geometry),
  may_change _ _ _ c.self.view_is c.self.invariant _ _ _ _ _ c.requires.intent _ c.requires.who _ _ 0 (λ x. bit_xor x c.flip_mask.result)
      (flips_may c.flip.ensures c.start.ensures _ _ _ _ _ _ _ (may_flip_all c.args.self.now c.args.slot _ _ c.requires.may c.requires.slot c.requires.share_at_position)
      (λ position here. c.flag_word.ensures.position _ _ (c.requires.slot position here)) (λ position here. c.flip_mask.ensures.position _ _ (c.requires.slot position here))),
)
