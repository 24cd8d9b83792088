use Rattle.std.proofs.Common.{rules, refl, ap}
use Rattle.ring.specs.table.{Holding}
use Rattle.ring.proofs.TableLemmas.StepKinds.{control_inside}
use Rattle.ring.proofs.KeeperLemmas.Lending.{lends_as, left_keeps, left_is}
use Rattle.ring.proofs.keeper.Keeper.lend.Goals as goal

pub split_seat-seat-requires : goal.split_seat-seat-requires
split_seat-seat-requires g c = (
  search rules,
  control_inside _ _ _ 0 c.ring.invariant.words refl,
  lends_as _ _ _ c.self.view_is c.self.invariant.knows c.requires.whole _ c.requires.known _ _,
)

pub invariant_of-self : goal.invariant_of-self
invariant_of-self g c = left_keeps _ _ _ c.self.view_is c.self.invariant.knows c.requires.whole _ c.requires.known c.self.inside.seat.me _ refl c.self.invariant.no_slots c.split_seat-seat.ensures.2

pub returns-clause-keeper : goal.returns-clause-keeper
returns-clause-keeper g c = left_is _ _ _ c.self.view_is c.self.invariant.knows c.requires.whole _ c.requires.known _ _ c.split_seat-seat.ensures.0 (ap (λ (m : Holding). m.0) c.split_seat-seat.ensures.2)
