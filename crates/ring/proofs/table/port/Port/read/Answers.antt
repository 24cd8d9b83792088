use Rattle.std.proofs.Common.{rules, sym}
use Rattle.ring.proofs.TableLemmas.PortSteps.{may_change, words_are}
use Rattle.ring.proofs.TableLemmas.StepKinds.{reads_may, data_inside}
use Rattle.ring.proofs.table.port.Port.read.Goals as goal

pub load-requires : goal.load-requires
load-requires g c =
    let at = c.data_word.ensures.position _ _ c.requires.slot in (
      search rules,
      data_inside _ _ _ _ _ _ (words_are _ _ c.ring.invariant.words _ _ c.requires.ring _ (sym c.ring.view_is)) at,
      may_change _ _ _ c.self.view_is c.self.invariant _ _ _ _ _ c.requires.intent _ c.requires.who _ 0 0 (λ x. x) (reads_may c.read.ensures c.consumer_trail.ensures.head _ _ _ _ _ c.requires.ready at),
    )
