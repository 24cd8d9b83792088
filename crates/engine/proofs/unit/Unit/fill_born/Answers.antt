use Rattle.std.proofs.Common.{◌≡◌, sym, subst, Result, Ok, Err, Option}
use Rattle.std.specs.FinMap as finite
use Rattle.std.specs.Result.{OnOk, OnErr}
use Rattle.caches.specs.Held.{Entries}
use Rattle.caches.specs.declared.tag.Entry.{Entry}
use Rattle.caches.specs.declared.fault.CacheFault.{CacheFault}
use Rattle.engine.specs.Settled.{IsSettled, StaysSettledWith}
use Rattle.engine.specs.Units.{UnitValue}
use Rattle.engine.proofs.Settlings.{settled_born}
use Rattle.engine.proofs.unit.Unit.fill_born.Goals as goal

by_answer : (r : Result (Option Entry) CacheFault) (old new : Entries) (entry : Entry) → OnOk r (new ≡ finite.insert old entry.tag entry) → OnErr r (new ≡ old)
    → StaysSettledWith entry old new
by_answer (Ok was) old new entry ok err list own s = subst (λ (e : Entries). IsSettled e list) (sym ok) (settled_born old list entry own s)
by_answer (Err fault) old new entry ok err list own s = subst (λ (e : Entries). IsSettled e list) (sym err) s

pub returns-clause-settled : goal.returns-clause-settled
returns-clause-settled c list own s =
    let before = subst (λ (u : UnitValue). IsSettled u.caches.entries list) (sym c.self.view_is) s in
    by_answer c.fill.result _ c.fill.new.self.entries _ c.fill.ensures.after c.fill.ensures.err list own before
