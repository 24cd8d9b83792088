use Rattle.std.proofs.Common.{sym, subst, ◌∙◌, take, get_or, ◌≤◌}
use Rattle.std.proofs.lemmas.Grind.{take_at_read}
use Rattle.invalidations.specs.declared.interval.Interval.{Interval}
use Rattle.invalidations.specs.Intervals.{AreJoined}
use Rattle.invalidations.proofs.IntervalLemmas.{join_more, keep_more}
use Rattle.invalidations.proofs.interval.join.Goals as goal
use Rattle.invalidations.proofs.interval.join.Goals.{then-touches, else-touches}

pub loop-held-preserved : goal.loop-held-preserved
loop-held-preserved c =
    let i = c.loop-held.held-index in
    let none : Interval = record { first = 0; last = 0 } in
    let held = get_or c.args.intervals.now i none in
    let more = (take_at_read c.args.intervals.now i none c.loop-held-test.true).1 in
    let ordered : held.first ≤ held.last = c.requires.all_ordered i none c.loop-held-test.true in
    subst (λ done. AreJoined done c.args.interval c.if-touches.apart.items c.if-touches.joined) (sym more) (
    elim c.if-touches.branch [
      | then-touches w ↦
          let next = join_more (take i c.args.intervals.now) c.args.interval held c.loop-held.joined w.joined-joined.result c.loop-held.apart.items
          c.requires.ordered ordered c.loop-held.invariant (sym c.touches.ensures ∙ w.if-touches.true) w.joined-joined.ensures.first w.joined-joined.ensures.last in
          rw (w.apart-is, w.joined-is) next
      | else-touches w ↦
          let next = keep_more (take i c.args.intervals.now) c.args.interval held c.loop-held.joined c.loop-held.apart.items
          c.loop-held.invariant (sym c.touches.ensures ∙ w.if-touches.false) in
          rw (w.apart-is, w.joined-is, w.push.ensures.items) next
    ])
