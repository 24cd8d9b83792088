use Rattle.std.proofs.Common.{◌≡◌, ap, refl, subst, ◌∙◌, Option}
use Rattle.std.specs.Prelude.{IfSome}
use Rattle.caches.specs.declared.tag.Entry.{Entry}
use Rattle.smmuq_c.specs.Entries.{entry_status, entry_words}
use Rattle.smmuq_c.proofs.Objects.{said_read}
use Rattle.smmuq_c.proofs.entry_calls.lookup.Goals as goal

pub returns-clause-called : goal.returns-clause-called
returns-clause-called c =
    let it = c.in-Some in
    let e = c.tell_entry.ensures in
    let found = c.lookup.ensures.value in
    said_read _ _ c.args.object.now it.unit.now _ c.in-Some-tag_of.tag it.ensures.unit it.ensures.settled c.in-Some-tag_of.ensures (record {
      tells = record {
        status_is = e.status ∙ ap entry_status found;
        told_is = subst (λ (o : Option Entry). IfSome o (λ entry. c.tell_entry.new.told ≡ entry_words entry)) found e.told;
      };
      new_is = refl;
    })
