use Rattle.std.proofs.Common.{arith}
use Rattle.std.proofs.lemmas.Nat.{one_shl}
use Rattle.caches.specs.Finding.{NoneAt}
use Rattle.caches.proofs.Masks.{top_few, top_set, none_above, left_set, known_but_left}
use Rattle.caches.proofs.entry_map.EntryMap.find.Goals as goal

pub find_at-requires : goal.find_at-requires
find_at-requires c = top_few c.loop-left.left c.ilog2-span.result c.ilog2-span.ensures.power_le c.ilog2-span.ensures.next_power_gt c.loop-left.invariant.few

pub returns-in-Some-clause-found : goal.returns-in-Some-clause-found
returns-in-Some-clause-found c =
    let mask = c.loop-left.left in
    let top = c.ilog2-span.result in
    let low = c.ilog2-span.ensures.power_le in
    let high = c.ilog2-span.ensures.next_power_gt in
    record {
      span = top;
      asked = c.loop-left.invariant.asked top (top_few mask top low high c.loop-left.invariant.few, top_set mask top low high);
      held = c.in-Some.ensures.found;
      greater = λ n above asked. c.loop-left.invariant.others n asked (none_above mask top low high n above);
    }

pub loop-left-preserved : goal.loop-left-preserved
loop-left-preserved c =
    let mask = c.loop-left.left in
    let top = c.ilog2-span.result in
    let low = c.ilog2-span.ensures.power_le in
    let high = c.ilog2-span.ensures.next_power_gt in
    rw (one_shl top 64 c.ilog2-span.ensures.bound) (record {
      few = omega (arith, c.loop-left.invariant.few);
      asked = λ n has. c.loop-left.invariant.asked n (left_set mask top low high n has);
      others = known_but_left mask top low high c.args.spans (NoneAt c.args.self.now c.args.space.now c.args.page) c.in_default.ensures.found c.loop-left.invariant.others;
    })
