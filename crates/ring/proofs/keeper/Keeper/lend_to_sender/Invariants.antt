use Rattle.ring.specs.Runs.{Sender}
use Rattle.ring.proofs.keeper.Keeper.lend_to_sender.Given as goal

abbrev pub ghosts-lend_sender_for : goal.ghosts-lend_sender_for
ghosts-lend_sender_for a = record { who = Sender a.sender }
