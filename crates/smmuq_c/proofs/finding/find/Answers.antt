use Rattle.std.proofs.Common.{refl, subst}
use Rattle.caches.specs.Finding.{IsFound}
use Rattle.smmuq_c.proofs.Objects.{said_read}
use Rattle.smmuq_c.proofs.finding.find.Goals as goal

pub returns-clause-called : goal.returns-clause-called
returns-clause-called c =
    let it = c.in-Some in
    let e = c.tell_found.ensures in
    let space = c.in-Some-space.space in
    let found = c.find-found in
    said_read _ _ c.args.object.now it.unit.now _ space it.ensures.unit it.ensures.settled c.in-Some-space.ensures (record {
      answer = found.result;
      found = subst (λ page. IsFound it.unit.now.caches.entries space page c.args.sought.spans found.result) c.page_of.ensures found.ensures.found;
      status_is = e.status;
      tag_is = e.tag;
      held_is = e.held;
      new_is = refl;
    })
