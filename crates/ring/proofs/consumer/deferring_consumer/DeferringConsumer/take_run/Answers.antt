use Rattle.std.proofs.Common.{rules, ◌≡◌, ◌≢◌, Bool, true, false, List, [], ◌∷◌, sym, ap, ◌∙◌, subst}
use Rattle.ring.specs.Runs.{Raw, Control, Trail, Look, Test, Consumer, world, control}
use Rattle.ring.specs.Rings.{RingValue}
use Rattle.ring.proofs.ConsumerLemmas.Waited.{waited}
use Rattle.ring.specs.table.{Grew, PortValue}
use Rattle.ring.specs.consumer.{DeferringValue, reads_from, consumer_of, IsDeferring, IsPending, AreRead, TookNone}
use Rattle.ring.proofs.TableLemmas.Grown.{grew_step, grew_more}
use Rattle.ring.proofs.ConsumerLemmas.Reads.{still_deferring}
use Rattle.ring.proofs.consumer.deferring_consumer.DeferringConsumer.take_run.Given.{Over}
use Rattle.ring.proofs.consumer.deferring_consumer.DeferringConsumer.take_run.Goals.{After-look-seen, After-test-found, Then-get}
use Rattle.ring.proofs.consumer.deferring_consumer.DeferringConsumer.take_run.Goals as goal

looked : (g : Over) (c : After-look-seen g) → Grew Consumer c.args.self.now.consumer.trail c.look-seen.new.self.trail c.args.self.now.consumer.history c.look-seen.new.self.history
looked g c =
    let new : PortValue = c.look-seen.new.self in
    subst (λ (v : DeferringValue g.row.D.Denot). Grew Consumer v.consumer.trail new.trail v.consumer.history new.history) c.self.view_is
    (grew_step Consumer _ _ _ _ _ (ap (λ (p : PortValue). p.trail) c.look-seen.ensures.trail) c.look-seen.ensures.history)

tested : (g : Over) (c : After-test-found g) → Grew Consumer c.look-seen.new.self.trail c.test-found.new.self.trail c.look-seen.new.self.history c.test-found.new.self.history
tested g c = grew_step _ _ _ _ _ _ (ap (λ (p : PortValue). p.trail) c.test-found.ensures.trail) c.test-found.ensures.history

took_none : (g : Over) (c : Then-get g) (closed : Bool) → c.look-seen.result.closed ≡ closed → TookNone closed c.args.self.now.consumer (consumer_of c.look-seen.new.self c.self.inside.lent)
took_none g c closed is = record {
  seen = c.look-seen.result;
  nothing = search rules;
  closed_is = is;
  seen_is = search rules;
  all_taken = search rules;
  trail_is = search rules;
  grew = looked g (goal.at.Then-get g c).After-look-seen;
}

pub returns-then-seen-clause-found : goal.returns-then-seen-clause-found
returns-then-seen-clause-found g c = (took_none g (goal.at.returns-then-seen-clause-found g c).Then-get true c.if-seen.true, c.clear.ensures)

pub returns-then-get-clause-found : goal.returns-then-get-clause-found
returns-then-get-clause-found g c = (took_none g (goal.at.returns-then-get-clause-found g c).Then-get false c.if-seen.false, c.clear.ensures)

pub returns-then-found-eq0-clause-found : goal.returns-then-found-eq0-clause-found
returns-then-found-eq0-clause-found g c =
    let at = goal.at.returns-then-found-eq0-clause-found g c in
    let something : c.look-seen.result.prod.number ≢ c.look-seen.result.cons.number = search rules in
    let known : PortValue = c.look-seen.new.self in
    let now : PortValue = c.test-found.new.self in
    let ring : now.ring ≡ c.self.inside.port.ring = ap (λ (p : PortValue). p.ring) c.test-found.ensures.trail ∙ ap (λ (p : PortValue). p.ring) c.look-seen.ensures.trail in
    let seen_is : c.look-seen.result ≡ control now.ring.made_with.geometry (world known.history) =
    c.look-seen.ensures.current ∙ ap (λ (r : RingValue). control r.made_with.geometry (world known.history)) (sym ring) in
    let held = waited c.waiting_law.ensures.since now.ring.made_with c.args.most c.test-found.result known.history now.history c.if-found-eq0.true
    c.test-found.ensures.history c.knows_a_run.ensures.stands.after.run_is
    (subst (λ (x : Control). x.prod.number ≢ x.cons.number) seen_is something) in (
      record {
        seen = c.look-seen.result;
        something = something;
        unturned = c.test-found.ensures.unturned c.if-found-eq0.true;
        holder = held.0;
        held = held.1;
        trail_is = search rules;
        grew = grew_more _ _ _ _ _ _ _ (looked g at.After-look-seen) (tested g at.After-test-found);
      },
      c.clear.ensures,
    )

are_read : (port : PortValue) (raws : List Raw) → IsPending port raws → AreRead port raws
are_read port [] is = tt
are_read port (raw ∷ raws) is = is

pub invariant_of-self-2 : goal.invariant_of-self-2
invariant_of-self-2 g c =
    let looked_is : c.look-seen.new.self.trail ≡ Look c.look-seen.result ∷ c.self.inside.port.trail = ap (λ (p : PortValue). p.trail) c.look-seen.ensures.trail in
    let tested_is : c.test-found.new.self.trail ≡ Test c.args.most c.test-found.result ∷ c.look-seen.new.self.trail = ap (λ (p : PortValue). p.trail) c.test-found.ensures.trail in
    let read_is : c.read_run.new.self.trail ≡ reads_from 0 c.read_run.new.commands c.test-found.new.self.trail = ap (λ (p : PortValue). p.trail) c.read_run.ensures.trail in
    let before : IsDeferring (Look c.look-seen.result ∷ c.self.inside.port.trail) c.self.inside.settled = record { few = c.self.invariant.0.few; current = c.self.invariant.0.current } in
    let looked : IsDeferring c.look-seen.new.self.trail c.self.inside.settled = subst (λ (t : Trail). IsDeferring t c.self.inside.settled) (sym looked_is) before in
    let after : IsDeferring (Test c.args.most c.test-found.result ∷ c.look-seen.new.self.trail) c.self.inside.settled = record { few = looked.few; current = looked.current } in (
      subst (λ (t : Trail). IsDeferring t c.self.inside.settled) (sym read_is)
          (still_deferring 0 c.read_run.new.commands c.test-found.new.self.trail c.self.inside.settled
          (subst (λ (t : Trail). IsDeferring t c.self.inside.settled) (sym tested_is) after)),
      are_read _ _ (record { read = c.read_run.ensures.read; few = search rules; fits = search rules }),
    )

pub returns-clause-found : goal.returns-clause-found
returns-clause-found g c =
    let at = goal.at.returns-clause-found g c in
    record {
      seen = c.look-seen.result;
      something = search rules;
      some = search rules;
      few = search rules;
      trail_is = search rules;
      grew = grew_more _ _ _ _ _ _ _ (looked g at.After-look-seen) (grew_more _ _ _ _ _ _ _ (tested g at.After-test-found) c.read_run.ensures.history);
    }
