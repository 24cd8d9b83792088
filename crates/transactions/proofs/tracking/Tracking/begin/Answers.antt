use Rattle.std.proofs.Common.{sym, ap}
use Rattle.transactions.specs.Tracking.{TrackedValue, tracked_with}
use Rattle.transactions.proofs.Covering.{began_tracked, fresh_entry}
use Rattle.transactions.proofs.Together.{stays_together, unchanged_tracked, unchanged_together}
use Rattle.transactions.proofs.tracking.Tracking.begin.Goals as goal

pub returns-in-Some-begin_with-clause-tracked : goal.returns-in-Some-begin_with-clause-tracked
returns-in-Some-begin_with-clause-tracked c list is =
    began_tracked (tracked_with c.args.unit.now c.args.self.now) (tracked_with c.args.unit.now c.begin_with.new.self) list c.in-Some-begin_with.transaction.slot _ c.in-Some.entry.born is
    (fresh_entry list c.args.tag.now c.in-Some.entry (is.settled c.args.tag.now c.in-Some.entry (sym c.in-Some.ensures.value))) (c.in-Some-begin_with.ensures.begun c.args.unit.now).new_is

pub returns-in-Some-begin_with-clause-together : goal.returns-in-Some-begin_with-clause-together
returns-in-Some-begin_with-clause-together c =
    stays_together (tracked_with c.args.unit.now c.args.self.now) (tracked_with c.args.unit.now c.begin_with.new.self) (returns-in-Some-begin_with-clause-tracked c)
    (ap (λ (t : TrackedValue). t.unit.stop.next) (c.in-Some-begin_with.ensures.begun c.args.unit.now).new_is)

pub returns-in-Some-begin_with-clause-begun : goal.returns-in-Some-begin_with-clause-begun
returns-in-Some-begin_with-clause-begun c = (sym c.in-Some.ensures.value, c.in-Some.ensures.own, c.in-Some-begin_with.ensures.begun c.args.unit.now)

pub returns-in-None-clause-begun : goal.returns-in-None-clause-begun
returns-in-None-clause-begun c =
    let full = c.in-None.ensures.begun c.args.unit.now in (full.0, c.in-Some.entry, sym c.in-Some.ensures.value, full.1)

pub returns-in-None-clause-tracked : goal.returns-in-None-clause-tracked
returns-in-None-clause-tracked c = unchanged_tracked _ _ (c.in-None.ensures.begun c.args.unit.now).0

pub returns-in-None-clause-together : goal.returns-in-None-clause-together
returns-in-None-clause-together c = unchanged_together _ _ (c.in-None.ensures.begun c.args.unit.now).0
