use Rattle.invalidations.proofs.ReachLemmas.{gathered}
use Rattle.invalidations.proofs.laws.gathered_bytes_are_covered.Goals as goal

pub returns : goal.returns
returns c = gathered
