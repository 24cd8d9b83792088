use Rattle.caches.proofs.Standing.{held_are, held_only}
use Rattle.caches.proofs.laws.held_is_what_stands.Goals as goal

pub returns : goal.returns
returns c = record { stands = held_are; only = held_only }
