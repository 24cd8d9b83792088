use Rattle.std.proofs.Common.{rules, ◌+◌, ℕ, ap, ◌∙◌, subst}
use Rattle.std.specs.Prelude.{◌==◌}
use prog.Atomic.{either}
use Rattle.ring.specs.Runs.{Control, MayTry}
use Rattle.qindex.specs.Positions.{IndexValue, index_of}
use Rattle.qindex.specs.ControlWord.{packed}
use Rattle.ring.proofs.TableLemmas.StepKinds.{reserves_may, control_inside}
use Rattle.ring.proofs.TableLemmas.PortSteps.{may_change, exchange_told_as}
use Rattle.ring.proofs.table.port.Port.exchange.Goals as goal

pub compare_exchange-found-requires : goal.compare_exchange-found-requires
compare_exchange-found-requires g c =
    let seen : Control = c.args.seen.now in (
      search rules,
      control_inside _ _ _ _ c.ring.invariant.words c.control_word.ensures,
      may_change _ _ _ c.self.view_is c.self.invariant _ _ _ _ _ c.requires.intent _ c.requires.who _ c.pack-before.result c.pack.result (λ x. either (x == c.pack-before.result) c.pack.result x) (reserves_may c.reserve_won.ensures c.reserve_lost.ensures _ _ _ _ _ _ _ _ _ c.control_word.ensures (subst (λ (k : ℕ). MayTry c.args.self.now.ring.made_with c.args.self.now.trail c.args.batch.now k seen) c.requires.many c.requires.may) c.pack-before.ensures
          (c.pack.ensures ∙ ap (λ (p : IndexValue). let after : Control = record seen { prod = p } in packed after) (c.forward.ensures.value ∙ ap (λ (k : ℕ). index_of seen.prod.geometry (seen.prod.number + k)) c.requires.many))),
    )

pub returns : goal.returns
returns g c =
    let new = c.compare_exchange-found.new.seat in
    exchange_told_as c.self.inside.seat.table_id new.table_id c.self.inside.seat.me new.me _ c.self.view_is _ _ _ _ _ c.ring.inside.table.shared.table_id.slots c.control_word.result _ _ c.pack.result
    c.requires.who c.requires.may.looked_at c.compare_exchange-found.ensures.0 c.requires.intent c.compare_exchange-found.ensures.2
