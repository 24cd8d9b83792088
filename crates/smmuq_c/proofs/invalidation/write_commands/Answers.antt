use Rattle.std.proofs.Common.{sym, ◌∙◌, arith}
use Rattle.smmuq_c.proofs.Few.{few}
use Rattle.smmuq_c.proofs.invalidation.write_commands.Goals as goal

pub give_commands-requires : goal.give_commands-requires
give_commands-requires c =
    let at_most = few c.args.invalidation.now c.args.smmu.now c.args.policy.now c.in-Ok.commands (sym c.new.ensures ∙ c.in-Ok.is) in
    let small = c.requires in
    omega (arith, at_most, small)
