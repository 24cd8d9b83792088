use Rattle.std.proofs.Common.{subst}
use Rattle.invalidations.specs.Gathering.{Gathered, IsTaken}
use Rattle.invalidations.proofs.GatherLemmas.{last_taken}
use Rattle.invalidations.proofs.gather.Gather.take_bytes.Goals as goal

pub returns : goal.returns
returns c =
    let inside = c.self.inside in
    let old : Gathered = record { space = inside.space; granule = inside.granule; entries = inside.entries; intervals = inside.intervals.items; everything = inside.everything } in
    let new : Gathered = record { space = inside.space; granule = inside.granule; entries = inside.entries; intervals = c.pop.new.self.items; everything = inside.everything } in
    subst (λ gathered. IsTaken gathered (record { space = gathered.space; bytes = c.bytes.result; granule = gathered.granule; entries = gathered.entries }) new) c.self.view_is
    (last_taken old c.in_ok-interval.interval c.pop.new.self.items c.bytes.result c.if-self.false c.self.invariant c.in_ok-interval.ensures.items c.bytes.ensures)
