use Rattle.std.proofs.Common.{rules, ◌≡◌, ℕ, refl, ap, ◌∙◌}
use Rattle.qindex.specs.ControlWord.{control_in}
use Rattle.ring.specs.Runs.{same}
use Rattle.ring.specs.table.{Holding}
use Rattle.ring.proofs.TableLemmas.StepKinds.{control_inside}
use Rattle.ring.proofs.TableLemmas.Steps.{gathers_at}
use Rattle.ring.proofs.TableLemmas.Meetings.{both, leaves_now, joined_is, found_as, parts_now, my_seat, their_seat, have_met, finds_now}
use Rattle.ring.proofs.table.port.Port.meet.Goals.{After-join_seat}
use Rattle.ring.proofs.table.port.Port.meet.Goals as goal

pub split_seat-one-requires : goal.split_seat-one-requires
split_seat-one-requires c = (
  search rules,
  control_inside _ _ _ 0 c.ring.invariant.words refl,
  leaves_now _ c.other.invariant _ _,
)

pub join_seat-requires : goal.join_seat-requires
join_seat-requires c = (
  search rules,
  search rules,
  ap (λ (m : Holding). m.1) c.split_seat-one.ensures.4,
  control_inside _ _ _ 0 c.ring.invariant.words refl,
  gathers_at _ _ _ _ _,
)

is_both : (c : After-join_seat) → c.join_seat.new.seat.me ≡ both _ _ c.self.invariant c.other.invariant
is_both c = joined_is _ _ c.self.invariant c.other.invariant c.split_seat-one.result.me c.join_seat.new.seat.me c.split_seat-one.ensures.4 c.join_seat.ensures.2

pub load-found-requires : goal.load-found-requires
load-found-requires c = (
  search rules,
  control_inside _ _ _ _ c.ring.invariant.words c.control_word.ensures,
  found_as _ _ _ _ _ _ _ (is_both (goal.at.load-found-requires c).After-join_seat),
)

pub split_seat-requires : goal.split_seat-requires
split_seat-requires c = (
  search rules,
  control_inside _ _ _ 0 c.ring.invariant.words refl,
  parts_now _ _ c.self.invariant c.other.invariant _ _ (is_both (goal.at.split_seat-requires c).After-join_seat) c.load-found.ensures.2.0 _ _ ((λ k. same (c.self.view_is k).who (c.other.view_is k).who) ∙ c.requires.apart),
)

pub invariant_of-self : goal.invariant_of-self
invariant_of-self c = my_seat _ _ c.self.invariant c.other.invariant _ _ (is_both (goal.at.invariant_of-self c).After-join_seat) c.load-found.ensures.2.0 _ _ c.split_seat.ensures.2 c.split_seat.ensures.4

pub invariant_of-other : goal.invariant_of-other
invariant_of-other c = their_seat _ _ c.self.invariant c.other.invariant _ _ (is_both (goal.at.invariant_of-other c).After-join_seat) c.load-found.ensures.2.0 _ _ c.split_seat.ensures.2 c.split_seat.ensures.4

pub returns : goal.returns
returns c =
    let mine : c.split_seat.new.seat.table_id ≡ c.self.inside.seat.table_id = search rules in
    let theirs : c.split_seat.result.table_id ≡ c.other.inside.seat.table_id = search rules in
    let joined = is_both (goal.at.returns c).After-join_seat in
    let found = c.load-found.ensures.2 in
    let met = have_met _ _ c.self.invariant c.other.invariant _ _ joined found.0 _ _ c.split_seat.ensures.2 c.split_seat.ensures.4 _ _ _ _ mine theirs _ _ c.self.view_is c.other.view_is in
    let says = finds_now _ _ c.self.invariant c.other.invariant _ _ joined found.0 _ _ c.split_seat.ensures.2 c.split_seat.ensures.4 _ c.split_seat.new.seat.table_id _ c.self.view_is c.look.ensures.finds _ c.load-found.result c.control_word.ensures found.1 in
    let geometry_is : c.geometry.result ≡ c.args.self.now.ring.made_with.geometry = search rules in
    let result_is : c.unwrap.result ≡ control_in c.geometry.result c.load-found.result = search rules in
    record {
      mine = met.mine;
      theirs = met.theirs;
      one = met.one;
      i_knew = met.i_knew;
      they_knew = met.they_knew;
      control = search rules;
      current = result_is ∙ ap (λ (g : ℕ). control_in g c.load-found.result) geometry_is ∙ says;
    }
