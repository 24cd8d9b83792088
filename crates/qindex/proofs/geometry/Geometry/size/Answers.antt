use Rattle.qindex.proofs.PositionLemmas.{size_shifted, two_or_more, size_fits}
use Rattle.qindex.proofs.geometry.Geometry.size.Goals as goal

pub returns-clause-in_range : goal.returns-clause-in_range
returns-clause-in_range c =
    let is = c.self.invariant in
    rw (size_shifted c.self.inside.log2 is) (two_or_more c.self.inside.log2 is, size_fits c.self.inside.log2 is)
