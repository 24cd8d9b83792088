use Rattle.image.proofs.WaitingLemmas.{slots_wait}
use Rattle.image.proofs.laws.slots_wait_by_position.Goals as goal

pub returns : goal.returns
returns c = slots_wait
