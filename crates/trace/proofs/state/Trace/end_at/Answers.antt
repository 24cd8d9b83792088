use Rattle.std.proofs.Common.{◌≡◌, [], Some, refl, sym, ap, ◌∙◌, subst}
use Rattle.std.specs.Prelude.{slice_get}
use Rattle.transactions.specs.Tracking.{IsTracked}
use Rattle.trace.specs.declared.access.OpenAccess.{OpenAccess}
use Rattle.trace.specs.declared.request.Request.TheVariants.{End as EndOf}
use Rattle.trace.specs.declared.reply.Reply.TheVariants.{Ended}
use Rattle.trace.specs.Serving.{Serves}
use Rattle.trace.specs.Traces.{TraceValue, IsPlaceOf}
use Rattle.trace.proofs.Slots.{can_end_removed, removed_is, ended_so}
use Rattle.trace.proofs.state.Trace.end_at.Goals as goal

pub unreachable-requires : goal.unreachable-requires
unreachable-requires c =
    let there = subst (λ (t : TraceValue). IsPlaceOf c.args.number t.accesses c.args.place) (sym c.self.view_is) c.requires in
    let can = can_end_removed c.self.inside.unit c.self.inside.accesses.items c.args.place there.0 c.remove-transaction.result c.self.invariant there.1.at c.remove-transaction.ensures.value in
    c.in-Err.ensures.ended.0 (can.own, can.can.is)

pub invariant_of-self : goal.invariant_of-self
invariant_of-self c =
    let there = subst (λ (t : TraceValue). IsPlaceOf c.args.number t.accesses c.args.place) (sym c.self.view_is) c.requires in
    let can = can_end_removed c.self.inside.unit c.self.inside.accesses.items c.args.place there.0 c.remove-transaction.result c.self.invariant there.1.at c.remove-transaction.ensures.value in
    ended_so c.self.inside.unit c.end.new.self c.remove-transaction.result c.self.inside.accesses.items c.remove-transaction.new.self.items c.args.place c.in-Ok.ensures.ended.0 c.self.invariant can c.remove-transaction.ensures.items

pub returns : goal.returns
returns c taken is =
    let new : TraceValue = record { unit = c.end.new.self; walks = c.self.inside.walks.items; accesses = c.remove-transaction.new.self.items; right = c.self.inside.right } in
    let there = subst (λ (t : TraceValue). IsPlaceOf c.args.number t.accesses c.args.place) (sym c.self.view_is) c.requires in
    let tracked = subst (λ (t : TraceValue). IsTracked t.unit taken) (sym c.self.view_is) is in
    let same = removed_is c.self.inside.accesses.items c.args.place there.0 c.remove-transaction.result there.1.at c.remove-transaction.ensures.value in
    subst (λ (old : TraceValue). Serves taken (EndOf c.args.number) old Ended new) c.self.view_is
    (record {
      more = [];
      served = (
        refl,
        record {
          place = c.args.place;
          access = c.remove-transaction.result;
          open_at = record { at = subst (λ (a : OpenAccess). slice_get c.self.inside.accesses.items c.args.place ≡ Some a) (sym same) there.1.at; number_is = ap (λ (a : OpenAccess). a.number) same ∙ there.1.number_is };
          ended = c.in-Ok.ensures.ended.0;
          new_is = λ k. record { unit = c.end.new.self; walks = c.self.inside.walks.items; accesses = c.remove-transaction.ensures.items k; right = c.self.inside.right };
        },
        refl,
      );
      tracked = c.end.ensures.tracked taken tracked;
    })
