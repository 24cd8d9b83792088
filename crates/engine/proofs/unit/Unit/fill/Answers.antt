use Rattle.std.proofs.Common.{◌≡◌, List, length, sym, ap, subst, ◌∙◌, Result, Ok, Err, Option}
use Rattle.std.specs.FinMap as finite
use Rattle.std.specs.Result.{OnOk, OnErr}
use Rattle.caches.specs.Held.{Entries}
use Rattle.caches.specs.declared.tag.Entry.{Entry}
use Rattle.caches.specs.declared.fault.CacheFault.{CacheFault}
use Rattle.ringcore.specs.world.World.{Taken}
use Rattle.engine.specs.Settled.{IsSettled}
use Rattle.engine.specs.Counting.{taken}
use Rattle.engine.specs.Units.{UnitValue}
use Rattle.engine.proofs.Settlings.{settled_fill, settled_as_before}
use Rattle.engine.proofs.unit.Unit.fill.Goals as goal

by_answer : (r : Result (Option Entry) CacheFault) (list : List Taken) (old new : Entries) (entry : Entry) → OnOk r (new ≡ finite.insert old entry.tag entry) → OnErr r (new ≡ old)
    → entry.born ≡ length list → IsSettled old list → IsSettled new list
by_answer (Ok was) list old new entry ok err born s = subst (λ (e : Entries). IsSettled e list) (sym ok) (settled_fill old list entry born s)
by_answer (Err fault) list old new entry ok err born s = subst (λ (e : Entries). IsSettled e list) (sym err) s

pub returns-clause-settled : goal.returns-clause-settled
returns-clause-settled c list many s =
    let before = subst (λ (u : UnitValue). IsSettled u.caches.entries list) (sym c.self.view_is) s in
    let born = c.taken-born.ensures.value ∙ ap (λ (u : UnitValue). taken u.counts) c.self.view_is ∙ sym many in
    settled_as_before c.fill.new.self.entries list (by_answer c.fill.result list _ _ _ c.fill.ensures.after c.fill.ensures.err born before)
