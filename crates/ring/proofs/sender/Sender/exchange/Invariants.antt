use Rattle.ring.specs.table.{reserves}
use Rattle.ring.proofs.sender.Sender.exchange.Given as goal

abbrev pub ghosts-exchange : goal.ghosts-exchange
ghosts-exchange g a = record { intent = reserves a.batch.now a.closes }
