use Rattle.std.specs.Prelude.{take}
use Rattle.ring.specs.table.{advances}
use Rattle.ring.proofs.consumer.consumer_port.ConsumerPort.advance.Given as goal

abbrev pub ghosts-advance : goal.ghosts-advance
ghosts-advance a = record { intent = advances (take a.count a.commands.now) }
