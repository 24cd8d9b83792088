use Rattle.std.proofs.Common.{rules, ◌≡◌, ◌≢◌, Bool, true, false, ◌∷◌, sym, ap, subst, ◌∙◌}
use Rattle.ring.specs.Runs.{Raw, Control, Look, Test, Run, IsSteady, Consumer, world, control}
use Rattle.ring.specs.Rings.{RingValue}
use Rattle.ring.proofs.ConsumerLemmas.Waited.{waited}
use Rattle.ring.specs.table.{Grew, PortValue}
use Rattle.ring.specs.consumer.{ConsumerValue, reads_from, HasSeen, TookNone, IsCurrent}
use Rattle.ring.proofs.TableLemmas.Grown.{grew_step, grew_more}
use Rattle.ring.proofs.ConsumerLemmas.Reads.{look_again, test_again, run_again, still_current}
use Rattle.ring.proofs.consumer.Consumer.take_run.Given.{Over}
use Rattle.ring.proofs.consumer.Consumer.take_run.Goals.{After-look-seen, After-test-found, Then-get}
use Rattle.ring.proofs.consumer.Consumer.take_run.Goals as goal

-- what was seen before is not gone
still_there : (g : Over) (c : Then-get g) (raw : Raw) → HasSeen c.args.self.trail raw → ⊥
still_there g c raw seen =
    let e : c.consumer.inside.port.trail ≡ Look c.look-seen.result ∷ c.args.self.trail = search rules in
    look_again c.look-seen.result _ raw (subst IsSteady e c.knows_its_steps.ensures.steady) seen (sym c.get.ensures.value ∙ c.if-get.true ∙ c.get-2.ensures.value)

pub returns-then-seen-clause-again : goal.returns-then-seen-clause-again
returns-then-seen-clause-again g c = still_there g (goal.at.returns-then-seen-clause-again g c).Then-get

pub returns-else-seen-clause-again : goal.returns-else-seen-clause-again
returns-else-seen-clause-again g c = still_there g (goal.at.returns-else-seen-clause-again g c).Then-get

pub returns-then-found-eq0-clause-again : goal.returns-then-found-eq0-clause-again
returns-then-found-eq0-clause-again g c raw seen =
    let e : c.test-found.new.self.trail ≡ Test c.args.most c.test-found.result ∷ Look c.look-seen.result ∷ c.args.self.trail = search rules in
    test_again c.args.most c.test-found.result c.look-seen.result _ raw (subst IsSteady e c.knows_its_steps-2.ensures.steady) seen c.requires.some c.if-found-eq0.true

pub invariant_of-result : goal.invariant_of-result
invariant_of-result g c =
    let tested : c.test-found.new.self.trail ≡ Test c.args.most c.test-found.result ∷ c.consumer.inside.port.trail = ap (λ (p : PortValue). p.trail) c.test-found.ensures.trail in
    let read : c.read_run.new.self.trail ≡ reads_from 0 c.read_run.new.commands c.test-found.new.self.trail = ap (λ (p : PortValue). p.trail) c.read_run.ensures.trail in
    (search rules, subst IsCurrent (sym read) (still_current 0 c.read_run.new.commands c.test-found.new.self.trail (subst IsCurrent (sym tested) c.consumer.invariant)))

pub returns-clause-again : goal.returns-clause-again
returns-clause-again g c raw seen =
    let e : c.read_run.new.self.trail ≡ reads_from 0 c.read_run.new.commands (Test c.args.most c.test-found.result ∷ Look c.look-seen.result ∷ c.args.self.trail) = search rules in
    run_again c.args.most c.test-found.result c.look-seen.result _ _ _ raw e c.read_run.ensures.read.some c.knows_its_steps-3.ensures.steady seen

looked : (g : Over) (c : After-look-seen g) → Grew Consumer c.args.self.trail c.look-seen.new.self.trail c.args.self.history c.look-seen.new.self.history
looked g c = grew_step Consumer _ _ _ _ _ (ap (λ (d : ConsumerValue g.row.D.Denot). d.trail) c.look-seen.ensures.trail) c.look-seen.ensures.history

tested : (g : Over) (c : After-test-found g) → Grew Consumer c.look-seen.new.self.trail c.test-found.new.self.trail c.look-seen.new.self.history c.test-found.new.self.history
tested g c = subst (λ (d : ConsumerValue g.row.D.Denot). Grew Consumer d.trail c.test-found.new.self.trail d.history c.test-found.new.self.history) c.consumer.view_is
    (grew_step _ _ _ _ _ _ (ap (λ (p : PortValue). p.trail) c.test-found.ensures.trail) c.test-found.ensures.history)

took_none : (g : Over) (c : Then-get g) (closed : Bool) → c.look-seen.result.closed ≡ closed → TookNone closed c.args.self c.look-seen.new.self
took_none g c closed is = record {
  seen = c.look-seen.result;
  nothing = search rules;
  closed_is = is;
  seen_is = search rules;
  all_taken = search rules;
  trail_is = search rules;
  grew = looked g (goal.at.Then-get g c).After-look-seen;
}

pub returns-then-seen-clause-taken : goal.returns-then-seen-clause-taken
returns-then-seen-clause-taken g c = took_none g (goal.at.returns-then-seen-clause-taken g c).Then-get true c.if-seen.true

pub returns-else-seen-clause-taken : goal.returns-else-seen-clause-taken
returns-else-seen-clause-taken g c = took_none g (goal.at.returns-else-seen-clause-taken g c).Then-get false c.if-seen.false

pub returns-then-found-eq0-clause-taken : goal.returns-then-found-eq0-clause-taken
returns-then-found-eq0-clause-taken g c =
    let at = goal.at.returns-then-found-eq0-clause-taken g c in
    let something : c.look-seen.result.prod.number ≢ c.look-seen.result.cons.number = search rules in
    let known : PortValue = c.consumer.inside.port in
    let tested_is : PortValue = c.test-found.new.self in
    let now_seen : ConsumerValue g.row.D.Denot = c.look-seen.new.self in
    let ring : tested_is.ring ≡ c.args.self.ring = ap (λ (p : PortValue). p.ring) c.test-found.ensures.trail
    ∙ ap (λ (d : ConsumerValue g.row.D.Denot). d.ring) c.consumer.view_is
    ∙ ap (λ (d : ConsumerValue g.row.D.Denot). d.ring) c.look-seen.ensures.trail in
    let older : known.history ≡ now_seen.history = ap (λ (d : ConsumerValue g.row.D.Denot). d.history) c.consumer.view_is in
    let seen_is : c.look-seen.result ≡ control tested_is.ring.made_with.geometry (world known.history) =
    c.look-seen.ensures.current
    ∙ ap (λ (r : RingValue). control r.made_with.geometry (world now_seen.history)) (sym ring)
    ∙ ap (λ (r : Run). control tested_is.ring.made_with.geometry (world r)) (sym older) in
    let held = waited c.waiting_law.ensures.since tested_is.ring.made_with c.args.most c.test-found.result known.history tested_is.history c.if-found-eq0.true
    c.test-found.ensures.history c.knows_a_run.ensures.stands.after.run_is
    (subst (λ (x : Control). x.prod.number ≢ x.cons.number) seen_is something) in
    record {
      seen = c.look-seen.result;
      something = something;
      unturned = c.test-found.ensures.unturned c.if-found-eq0.true;
      holder = held.0;
      held = held.1;
      trail_is = search rules;
      grew = grew_more _ _ _ _ _ _ _ (looked g at.After-look-seen) (tested g at.After-test-found);
    }

pub returns-clause-taken : goal.returns-clause-taken
returns-clause-taken g c =
    let at = goal.at.returns-clause-taken g c in
    record {
      seen = c.look-seen.result;
      something = search rules;
      some = search rules;
      few = search rules;
      trail_is = search rules;
      grew = grew_more _ _ _ _ _ _ _ (looked g at.After-look-seen) (grew_more _ _ _ _ _ _ _ (tested g at.After-test-found) c.read_run.ensures.history);
    }
