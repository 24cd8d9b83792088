use Rattle.std.proofs.Common.{◌∙◌, refl, sym, ap, subst, arith}
use Rattle.ringcore.specs.world.Allowed.{Ring}
use Rattle.caches.specs.Stored.{Stored}
use Rattle.ring.specs.Finishing.{AreAll}
use Rattle.stress.specs.EngineTurns.{IsStarted}
use Rattle.stress.specs.Workers.{HaveSent}
use Rattle.stress.specs.Reports.{ReportValue, HaveAsked, IsAsPlanned, IsOfARun, IsUnfinished}
use Rattle.stress.proofs.Turns.{still_started, when_err}
use Rattle.stress.proofs.Rows.{all_of, rings, sent_of}
use Rattle.stress.proofs.Reports.{told, of_a_run, as_planned}
use Rattle.stress.proofs.run.finish.Goals as goal

pub send_and_drain-requires-clause-ring : goal.send_and_drain-requires-clause-ring
send_and_drain-requires-clause-ring c = ap (λ (r : Ring). r.senders) c.requires.ring

pub ask_all-senders-requires-clause-ring : goal.ask_all-senders-requires-clause-ring
ask_all-senders-requires-clause-ring c =
    rings c.args.plan c.args.ring c.in_ok-senders.senders.items c.in_ok-senders.ensures.senders (ap (λ (r : Ring). r.senders) c.requires.ring)

pub ask_all-senders-requires-clause-room : goal.ask_all-senders-requires-clause-room
ask_all-senders-requires-clause-room c =
    let made = ap (λ (r : Ring). r.senders) c.requires.ring in
    let all = all_of c.args.plan c.args.ring c.in_ok-senders.senders.items c.in_ok-senders.ensures.senders made in
    let many = all.many in
    let room = c.requires.done.1 in
    omega (arith, many, made, room)

pub finish-finished-requires-clause-senders : goal.finish-finished-requires-clause-senders
finish-finished-requires-clause-senders c =
    all_of c.args.plan c.args.ring c.ask_all-senders.result.0.items (c.ask_all-senders.ensures.assignments ∙ c.in_ok-senders.ensures.senders)
    (ap (λ (r : Ring). r.senders) c.requires.ring)

-- ---- no report

pub returns-in_err-senders-clause-unfinished : goal.returns-in_err-senders-clause-unfinished
returns-in_err-senders-clause-unfinished c =
    when_err c.from_residual.result (IsUnfinished c.args.plan)
    (record {
      ring = c.args.ring;
      engine = c.args.engine;
      end = c.send_and_drain.new.engine;
      made_is = c.requires.ring;
      started = c.requires.engine;
      given_up = c.in_err-senders.ensures.given_up;
    })

-- ---- the report

all : (c : goal.After-new) → AreAll c.args.ring c.ask_all-senders.result.0.items
all c = finish-finished-requires-clause-senders c.before.before

sent : (c : goal.After-new) → HaveSent c.args.plan c.ask_all-senders.result.0.items
sent c =
    sent_of c.args.plan c.args.ring c.ask_all-senders.result.0.items (c.ask_all-senders.ensures.assignments ∙ c.in_ok-senders.ensures.senders)
    (ap (λ (r : Ring). r.senders) c.requires.ring) c.ask_all-senders.ensures.sent

started : (c : goal.After-new) → IsStarted c.args.plan.senders c.args.plan.turns c.args.ring c.send_and_drain.new.engine
started c = still_started c.args.plan.senders c.args.plan.turns 0 c.args.ring c.args.engine c.send_and_drain.new.engine c.requires.engine c.in_ok-senders.ensures.engine

asked : (c : goal.After-new) → HaveAsked c.args.plan.batches c.ask_all-senders.result.0.items c.ask_all-senders.result.1.items
asked c = subst (λ (r : Ring). HaveAsked r.max_batches c.ask_all-senders.result.0.items c.ask_all-senders.result.1.items) c.requires.ring c.ask_all-senders.ensures.asked

abbrev report : goal.After-new → ReportValue
report c =
    told c.args.plan c.args.ring c.ask_all-senders.result.0.items c.send_and_drain.new.engine c.finish-finished.result.summary c.finish-finished.result.counts
    c.finish-finished.result.caches.entries c.ask_all-senders.result.1.items

abbrev run : (c : goal.After-new) → IsOfARun c.args.plan (report c)
run c =
    of_a_run c.args.plan c.args.ring c.ask_all-senders.result.0.items c.send_and_drain.new.engine c.finish-finished.result.summary c.finish-finished.result.counts
    c.finish-finished.result.caches.entries c.ask_all-senders.result.1.items c.requires.ring (all c) (sent c) (started c) c.finish-finished.ensures.end
    c.finish-finished.ensures.counts (ap (λ (s : Stored). s.entries) c.finish-finished.ensures.caches) (asked c)

pub returns-clause-planned : goal.returns-clause-planned
returns-clause-planned c = subst (IsAsPlanned c.args.plan) (sym c.new.ensures) (as_planned c.args.plan c.requires.plan (report c) refl (run c) c.in_ok-senders.ensures.drained)

pub returns-clause-run : goal.returns-clause-run
returns-clause-run c = subst (IsOfARun c.args.plan) (sym c.new.ensures) (run c)
