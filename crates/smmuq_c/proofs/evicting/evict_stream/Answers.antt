use Rattle.std.proofs.Common.{subst}
use Rattle.caches.specs.declared.tag_owner.OfStream.{OfStream}
use Rattle.caches.specs.OwnerTests.{is_of_stream}
use Rattle.smmuq_c.specs.Evicting.{EvictsPassing}
use Rattle.smmuq_c.proofs.evicting.evict_stream.Goals as goal

pub returns-clause-called : goal.returns-clause-called
returns-clause-called c =
    let e = c.evict_passing in
    subst (λ (s : OfStream). EvictsPassing (is_of_stream s) e.new.count c.args.object.now e.new.object e.result) c.stream_of.ensures e.ensures.called
