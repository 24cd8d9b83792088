use Rattle.smmuq_c.proofs.Named.{no_command}
use Rattle.smmuq_c.proofs.fields.to_command.command_of.Goals as goal

pub returns-in_err-opcode : goal.returns-in_err-opcode
returns-in_err-opcode c = no_command c.args.fields.now c.from.result _ c.from_residual.ensures c.from.ensures c.in_err-opcode.ensures.named
