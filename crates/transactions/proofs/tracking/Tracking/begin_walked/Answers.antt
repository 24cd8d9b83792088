use Rattle.std.proofs.Common.{refl, ap}
use Rattle.transactions.specs.Tracking.{TrackedValue, tracked_with}
use Rattle.transactions.proofs.Answering.{refused, refused_for, inside_of, uncovered}
use Rattle.transactions.proofs.Covering.{began_tracked, fresh_walked}
use Rattle.transactions.proofs.Together.{stays_together, unchanged_tracked, unchanged_together}
use Rattle.transactions.proofs.tracking.Tracking.begin_walked.Goals as goal

pub returns-in-Some-clause-begun : goal.returns-in-Some-clause-begun
returns-in-Some-clause-begun c =
    let old = tracked_with c.args.unit.now c.args.self.now in
    (refl, (λ list is. refused old list c.args.began c.args.tag.now is c.in-Some.fault c.in-Some.ensures), refused_for old c.args.began c.args.tag.now c.in-Some.fault c.in-Some.ensures)

pub returns-in-Some-begin_with-clause-begun : goal.returns-in-Some-begin_with-clause-begun
returns-in-Some-begin_with-clause-begun c =
    let old = tracked_with c.args.unit.now c.args.self.now in
    let block = c.is_block.ensures.0 c.if-not-is_block.false in (
      c.in-Some-begin_with.ensures.begun c.args.unit.now,
      λ list is. (inside_of old list c.args.began c.args.tag.now is c.in_default.ensures block, uncovered old list c.args.began c.args.tag.now is c.in_default.ensures block),
    )

pub returns-in-Some-begin_with-clause-tracked : goal.returns-in-Some-begin_with-clause-tracked
returns-in-Some-begin_with-clause-tracked c list is =
    let old = tracked_with c.args.unit.now c.args.self.now in
    let block = c.is_block.ensures.0 c.if-not-is_block.false in
    let within = inside_of old list c.args.began c.args.tag.now is c.in_default.ensures block in
    let free = uncovered old list c.args.began c.args.tag.now is c.in_default.ensures block in
    began_tracked old (tracked_with c.args.unit.now c.begin_with.new.self) list c.in-Some-begin_with.transaction.slot _ c.args.began is
    (fresh_walked list c.args.tag.now c.args.began (within, free)) (c.in-Some-begin_with.ensures.begun c.args.unit.now).new_is

pub returns-in-Some-begin_with-clause-together : goal.returns-in-Some-begin_with-clause-together
returns-in-Some-begin_with-clause-together c =
    stays_together (tracked_with c.args.unit.now c.args.self.now) (tracked_with c.args.unit.now c.begin_with.new.self) (returns-in-Some-begin_with-clause-tracked c)
    (ap (λ (t : TrackedValue). t.unit.stop.next) (c.in-Some-begin_with.ensures.begun c.args.unit.now).new_is)

pub returns-in-None-clause-begun : goal.returns-in-None-clause-begun
returns-in-None-clause-begun c = c.in-None.ensures.begun c.args.unit.now

pub returns-in-None-clause-tracked : goal.returns-in-None-clause-tracked
returns-in-None-clause-tracked c = unchanged_tracked _ _ (c.in-None.ensures.begun c.args.unit.now).0

pub returns-in-None-clause-together : goal.returns-in-None-clause-together
returns-in-None-clause-together c = unchanged_together _ _ (c.in-None.ensures.begun c.args.unit.now).0
