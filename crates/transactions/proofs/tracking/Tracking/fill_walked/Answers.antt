use Rattle.std.proofs.Common.{refl, ap}
use Rattle.caches.specs.declared.tag.Entry.{Entry}
use Rattle.transactions.specs.Tracking.{tracked_with}
use Rattle.transactions.proofs.Answering.{refused, caches_refuse, accepts, settles, still_tracked, block_of}
use Rattle.transactions.proofs.Together.{stays_together}
use Rattle.engine.specs.Units.{UnitValue}
use Rattle.transactions.proofs.tracking.Tracking.fill_walked.Goals as goal

pub returns-in-Some-clause-answer : goal.returns-in-Some-clause-answer
returns-in-Some-clause-answer c list is = refused (tracked_with c.args.unit.now c.args.self.now) list c.args.began c.args.tag is c.in-Some.fault c.in-Some.ensures

pub returns-in-Ok-clause-answer : goal.returns-in-Ok-clause-answer
returns-in-Ok-clause-answer c list is =
    let old = tracked_with c.args.unit.now c.args.self.now in
    accepts old list c.args.began c.args.tag is c.in_default.ensures c.in-Ok.was
    (block_of old list c.args.began c.args.tag is c.in_default.ensures c.args.unit.now.caches c.fill_born.result c.in-Ok.was c.fill_born.ensures.answer c.in-Ok.is)

pub returns-in-Err-clause-answer : goal.returns-in-Err-clause-answer
returns-in-Err-clause-answer c list is = caches_refuse (tracked_with c.args.unit.now c.args.self.now) list c.args.began c.args.tag is c.in_default.ensures c.in-Err.fault

pub returns-in-Ok-clause-tracked : goal.returns-in-Ok-clause-tracked
returns-in-Ok-clause-tracked c list is =
    let old = tracked_with c.args.unit.now c.args.self.now in
    let entry : Entry = record { tag = c.args.tag; value = c.args.value; born = c.args.began } in
    still_tracked old c.fill_born.new.self list entry c.fill_born.result is c.fill_born.ensures.ok c.fill_born.ensures.err c.fill_born.ensures.settled
    (λ was ok. settles old list c.args.began c.args.tag is c.in_default.ensures entry refl refl
    (block_of old list c.args.began c.args.tag is c.in_default.ensures c.args.unit.now.caches c.fill_born.result was c.fill_born.ensures.answer ok))

pub returns-in-Ok-clause-together : goal.returns-in-Ok-clause-together
returns-in-Ok-clause-together c =
    stays_together (tracked_with c.args.unit.now c.args.self.now) (tracked_with c.fill_born.new.self c.args.self.now) (returns-in-Ok-clause-tracked c)
    (ap (λ (u : UnitValue). u.stop.next) c.in-Ok.ensures.ok)
