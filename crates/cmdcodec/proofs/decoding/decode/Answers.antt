use Rattle.std.proofs.Common.{Ok, sym, ap, ◌∙◌, subst}
use Rattle.cmdcodec.specs.declared.command.Command.{Command}
use Rattle.cmdcodec.specs.Spelling.{Spells}
use Rattle.cmdcodec.proofs.SpellingLemmas.{found, only, decoded, unknown}
use Rattle.cmdcodec.proofs.decoding.decode.Goals as goal

pub returns-in_default-clause-only : goal.returns-in_default-clause-only
returns-in_default-clause-only c = λ command spells. sym (unknown c.args.raw (sym c.opcode.ensures.named ∙ c.in_default.is)) ∙ only c.args.raw command spells

pub returns-in-None-clause-found : goal.returns-in-None-clause-found
returns-in-None-clause-found c =
    let legal = sym c.first_ill.ensures ∙ c.in-None.is in
    let spells = found c.args.raw c.in-Some.opcode c.in-Some.ensures.number legal in
    (subst (λ (command : Command). Spells c.args.raw command) (sym c.command_with.ensures) spells, legal)

pub returns-in-None-clause-only : goal.returns-in-None-clause-only
returns-in-None-clause-only c = λ command spells.
    let named = sym c.opcode.ensures.named ∙ c.in-Some.is in
    let legal = sym c.first_ill.ensures ∙ c.in-None.is in
    ap Ok c.command_with.ensures ∙ sym (decoded c.args.raw c.in-Some.opcode named legal) ∙ only c.args.raw command spells
