use Rattle.std.proofs.Common.{rules, ◌≡◌, [], ◌++◌, refl, sym, ap, ◌∙◌}
use Rattle.ring.specs.table.{Holding, ring_of, history_of_first}
use Rattle.ring.proofs.TableLemmas.StepKinds.{control_inside}
use Rattle.ring.proofs.TableLemmas.Steps.{gathers_at}
use Rattle.ring.proofs.TableLemmas.Meetings.{meets_as}
use Rattle.ring.proofs.KeeperLemmas.Returning.{IsBack, joined_is, comes_back, comes_as}
use Rattle.ring.proofs.keeper.Keeper.take_back.Goals as goal

pub join_seat-requires : goal.join_seat-requires
join_seat-requires c = (
  search rules,
  search rules,
  ap (λ (m : Holding). m.1) c.port.invariant.me_is,
  control_inside _ _ _ 0 c.ring.invariant.words refl,
  gathers_at _ _ _ _ _,
)

pub load-requires : goal.load-requires
load-requires c = (
  search rules,
  control_inside _ _ _ _ c.ring.invariant.words c.control_word.ensures,
  meets_as _ _ _ _ _ _ _ (joined_is _ _ _ c.self.view_is c.self.invariant.knows _ c.requires.lent (c.requires.own ∙ sym c.requires.ring) _ _ c.port.view_is c.port.invariant _ (search rules)),
)

back : (c : goal.After-load) → IsBack (ring_of c.self.inside.seat.me.0) (history_of_first c.self.inside.seat.me.0) c.args.port.who c.args.port.trail c.args.port.history c.load.new.seat.me
back c =
    let joined : c.join_seat.new.seat.me ≡ (c.port.inside.seat.me.0 ++ c.self.inside.seat.me.0, []) = search rules in
    comes_back _ _ _ c.self.view_is c.self.invariant.knows _ c.requires.lent (c.requires.own ∙ sym c.requires.ring) _ _ c.port.view_is c.port.invariant _ _ joined c.load.ensures.2

pub invariant_of-self : goal.invariant_of-self
invariant_of-self c = (back c).keeper

pub returns : goal.returns
returns c =
    let all = comes_as _ _ _ c.self.view_is c.self.invariant.knows _ c.requires.lent (c.requires.own ∙ sym c.requires.ring) _ _ c.port.view_is c.port.invariant _ (back c) _ (search rules) in
    record { keeper = all.keeper; adds = all.adds; grew = all.grew; news = all.news; others = all.others }
