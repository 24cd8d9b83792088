use Rattle.std.proofs.Common.{[], sym, ap, subst}
use Rattle.engine.specs.Counting.{taken}
use Rattle.engine.specs.Units.{UnitValue}
use Rattle.transactions.specs.Tracking.{tracked_with, StaysTracked}
use Rattle.transactions.specs.TrackedQueueUnits.{TrackedQueueValue, tracked_in, RefusesWalks}
use Rattle.transactions.proofs.Queued.{queue_tracked}
use Rattle.transactions.proofs.tracked_queue_unit.TrackedQueueUnit.evict_older.Goals as goal

pub returns-clause-walks : goal.returns-clause-walks
returns-clause-walks c =
    let refused = subst (λ (q : TrackedQueueValue). RefusesWalks c.args.self.now q) (sym c.self.view_is) c.refuse_walks.ensures.walks in
    record { of_before = refused.of_before; nearer = refused.nearer }

pub returns-clause-tracked : goal.returns-clause-tracked
returns-clause-tracked c =
    subst (λ (q : TrackedQueueValue). StaysTracked (tracked_in q) (tracked_with c.evict_older.new.self c.self.inside.tracking) []) c.refuse_walks.ensures.new
    (queue_tracked _ c.self.inside.queue c.self.inside.tracking c.self.inside.walks c.evict_older.new.self c.self.view_is (ap (λ (u : UnitValue). taken u.counts) c.evict_older.ensures.lost.new_is) c.evict_older.ensures.settled)
