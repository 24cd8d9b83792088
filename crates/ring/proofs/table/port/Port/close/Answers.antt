use Rattle.std.proofs.Common.{rules, refl}
use Rattle.std.specs.Prelude.{bit_or}
use Rattle.ring.specs.table.{closes}
use Rattle.ring.proofs.TableLemmas.StepKinds.{closes_may, control_inside}
use Rattle.ring.proofs.TableLemmas.PortSteps.{may_change}
use Rattle.ring.proofs.table.port.Port.close.Goals as goal

pub fetch_or-requires : goal.fetch_or-requires
fetch_or-requires c = (
  search rules,
  control_inside _ _ _ _ c.ring.invariant.words c.control_word.ensures,
  may_change _ _ _ c.self.view_is c.self.invariant _ _ _ closes closes refl _ c.requires.who _ c.close_mask.result 0 (λ x. bit_or x c.close_mask.result) (closes_may c.close.ensures _ _ _ _ _ c.control_word.ensures c.close_mask.ensures),
)
