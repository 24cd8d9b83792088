use Rattle.std.proofs.Common.{◌≡◌, ap, ◌∙◌, Result, Ok, Err, Option}
use Rattle.std.specs.Result.{OnOk, OnErr}
use Rattle.caches.specs.declared.tag.Entry.{Entry}
use Rattle.caches.specs.declared.fault.CacheFault.{CacheFault}
use Rattle.caches.specs.Held.{Entries}
use Rattle.engine.specs.Units.{UnitValue, with_entries}
use Rattle.engine.specs.Engines.{IsEngine}
use Rattle.engine.proofs.Stepping.{still_counted, engine_settled}
use Rattle.engine.proofs.engine.Engine.fill.Goals as goal

-- Whatever the answer, the counts and the stop stay.
stays : {A : Type 0} (part : UnitValue → A) → ((u : UnitValue) (entries : Entries) → part (with_entries u entries) ≡ part u)
    → (r : Result (Option Entry) CacheFault) (old new : UnitValue) (entries : Entries) → OnOk r (new ≡ with_entries old entries) → OnErr r (new ≡ old) → part new ≡ part old
stays part same (Ok was) old new entries ok err = ap part ok ∙ same old entries
stays part same (Err fault) old new entries ok err = ap part err

together : (c : goal.After-fill) → IsEngine c.self.inside.consumer c.fill.new.self
together c =
    still_counted _ _ _ c.self.invariant
    (stays (λ u. u.counts) (λ u entries _. u.counts) c.fill.result _ _ _ c.fill.ensures.ok c.fill.ensures.err)
    (stays (λ u. u.stop.next) (λ u entries _. u.stop.next) c.fill.result _ _ _ c.fill.ensures.ok c.fill.ensures.err) c.fill.ensures.settled

pub invariant_of-self : goal.invariant_of-self
invariant_of-self c = together c

pub returns-clause-settled : goal.returns-clause-settled
returns-clause-settled c = engine_settled _ _ (together c)
