use Rattle.std.proofs.Common.{rules, ◌<◌, ◌^◌, refl, sym, ap, ◌∙◌}
use Rattle.ringcore.specs.memory.Layout.{cell}
use Rattle.ring.proofs.TableLemmas.PortSteps.{may_change, words_are, sender_known, ask_few}
use Rattle.ring.proofs.TableLemmas.StepKinds.{asks_may, cell_inside}
use Rattle.ring.specs.table.{asks}
use Rattle.ring.proofs.table.port.Port.ask.Goals as goal
use Rattle.ring.specs.Rings.{RingValue}

pub load-found-requires : goal.load-found-requires
load-found-requires c =
    let at = c.cell.ensures ∙ ap (λ g. cell g c.args.sender) (c.geometry.ensures ∙ ap (λ (r : RingValue). r.made_with.geometry) (sym c.requires.ring)) in (
      search rules,
      cell_inside _ _ _ _ _ (words_are _ _ c.ring.invariant.words _ _ c.requires.ring _ (sym c.ring.view_is)) at (sender_known _ _ _ c.self.view_is c.self.invariant _ c.requires.who),
      may_change _ _ _ c.self.view_is c.self.invariant _ _ _ asks asks refl _ c.requires.who _ 0 0 (λ x. x) (asks_may c.ask.ensures _ _ _ _ at),
    )

pub overflow_cast-result : goal.overflow_cast-result
overflow_cast-result c =
    let few : c.load-found.result < 2 ^ 32 = ask_few c.world_law.ensures.acknowledged c.counts_law.ensures.few c.self.inside.seat.table_id c.self.inside.seat.me c.load-found.new.seat.me _ c.self.view_is _ c.ring.inside.table.shared.table_id.slots c.cell.result _ c.requires.who c.load-found.ensures.2 in search rules
