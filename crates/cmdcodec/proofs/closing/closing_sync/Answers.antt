use Rattle.std.proofs.Common.{rules, ap, ◌∙◌}
use Rattle.cmdcodec.specs.declared.command.Command.{Command}
use Rattle.cmdcodec.specs.Opcodes.{is_sync}
use Rattle.cmdcodec.specs.Words.{encoding}
use Rattle.cmdcodec.proofs.ClosingLemmas.{opcode_is, address_is}
use Rattle.cmdcodec.proofs.closing.closing_sync.Goals as goal

pub returns-clause-value : goal.returns-clause-value
returns-clause-value c = search rules

pub returns-clause-opcode : goal.returns-clause-opcode
returns-clause-opcode c = ap (λ (command : Command). is_sync (encoding command)) (returns-clause-value c) ∙ opcode_is c.args.sender c.args.number

pub returns-clause-address : goal.returns-clause-address
returns-clause-address c = ap (λ (command : Command). (encoding command).hi) (returns-clause-value c) ∙ address_is c.args.sender c.args.number
