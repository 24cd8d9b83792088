use Rattle.std.proofs.Common.{◌≡◌, ap, refl, sym, subst, ◌∙◌, Option}
use Rattle.std.specs.Prelude.{IfSome}
use Rattle.caches.specs.declared.tag.Entry.{Entry}
use Rattle.smmuq_c.specs.Entries.{entry_status, entry_words}
use Rattle.transactions.specs.TrackedQueueUnits.{TrackedQueueValue, with_its_unit}
use Rattle.smmuq_c.proofs.Objects.{said_unit, said_engine}
use Rattle.smmuq_c.proofs.Unchanged.{evicted_none}
use Rattle.smmuq_c.proofs.entry_calls.evict.Goals as goal

pub returns-in-Unit-clause-called : goal.returns-in-Unit-clause-called
returns-in-Unit-clause-called c =
    let e = c.tell_entry.ensures in
    let was = c.evict.ensures.was in
    let new = c.evict.ensures.new in
    let rest = subst (λ (q : TrackedQueueValue). q ≡ with_its_unit q.queue.unit c.in-Unit.unit) (sym new) refl in
    said_unit _ _ c.in-Some.tag c.in-Some.ensures c.in-Unit.is rest (evicted_none c.in-Some.tag c.in-Unit.unit c.evict.new.self new c.evict.ensures.tracked) (record {
      tells = record {
        status_is = e.status ∙ ap entry_status was;
        told_is = subst (λ (o : Option Entry). IfSome o (λ entry. c.tell_entry.new.told ≡ entry_words entry)) was e.told;
      };
      new_is = ap (λ (q : TrackedQueueValue). q.queue.unit) new;
    })

pub returns-in-Engine-clause-called : goal.returns-in-Engine-clause-called
returns-in-Engine-clause-called c = let e = c.evict-in-Engine.ensures in said_engine _ _ c.in-Some.tag c.in-Some.ensures c.in-Engine.is e.consumer e.settled e.evicted
