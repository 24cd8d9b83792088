use Rattle.invalidations.proofs.ReachLemmas.{reached}
use Rattle.invalidations.proofs.laws.invalidations_reach_their_bytes.Goals as goal

pub returns : goal.returns
returns c = reached
