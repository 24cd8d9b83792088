use Rattle.std.proofs.Common.{rules, refl}
use Rattle.ring.specs.table.{looks}
use Rattle.ring.proofs.TableLemmas.PortSteps.{may_change}
use Rattle.ring.proofs.TableLemmas.StepKinds.{looks_may, control_inside}
use Rattle.ring.proofs.table.port.Port.look.Goals as goal

pub load-word-requires : goal.load-word-requires
load-word-requires c = (
  search rules,
  control_inside _ _ _ _ c.ring.invariant.words c.control_word.ensures,
  may_change _ _ _ c.self.view_is c.self.invariant _ _ _ looks looks refl _ refl _ 0 0 (λ x. x) (looks_may c.look.ensures.word c.look.ensures.finds _ _ _ _ c.control_word.ensures),
)
