use Rattle.std.proofs.Common.{rules}
use Rattle.std.proofs.lemmas.List.{take_min}
use Rattle.smmuq_c.proofs.guest_calls.copy_first.Goals as goal

pub returns : goal.returns
returns c = let took = take_min 63 c.args.commands.now in search (rules, took)
