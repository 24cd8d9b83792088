-- What became of batches, worked out by hand.
use Rattle.std.proofs.Common.{◌≡◌, true, false, List, [], ◌∷◌, Some, None, refl}
use Rattle.batch_outcomes.specs.declared.settled.Settled.{Settled}
use Rattle.batch_outcomes.specs.declared.settled.Settled.TheVariants.{Command, Sync}
use Rattle.batch_outcomes.specs.Settled.{losses_of}

-- A batch of one command, which was lost, and behind it one that lost none, the newest first.
abbrev pub two_batches : List Settled
two_batches = Sync 0 2 ∷ Command true ∷ Sync 0 1 ∷ Command false ∷ []

pub its_loss_is_told : losses_of 0 1 two_batches ≡ Some 1
its_loss_is_told = refl

-- A loss is of the batch whose CMD_SYNC comes next, and of no later one.

pub a_later_batch_lost_none : losses_of 0 2 two_batches ≡ Some 0
a_later_batch_lost_none = refl

pub another_sender_has_none : losses_of 1 1 two_batches ≡ None
another_sender_has_none = refl
