use Rattle.guest_commands.proofs.BatchLemmas.{Progress}
use Rattle.guest_commands.proofs.guest.Guest.convert_all.Given as goal

abbrev pub invariant-loop-taken : goal.invariant-loop-taken
invariant-loop-taken l = Progress l.self l.raws l.body.items l.taken
