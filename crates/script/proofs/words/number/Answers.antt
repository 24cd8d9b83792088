use Rattle.std.proofs.Common.{ap, sym, ◌∙◌}
use Rattle.std.proofs.lemmas.List.{take_rest}
use Rattle.script.specs.Words.{number_in}
use Rattle.script.proofs.NumberLemmas.{number_of-hex, number_of-decimal}
use Rattle.script.proofs.words.number.Goals as goal

pub returns-then-is_hex : goal.returns-then-is_hex
returns-then-is_hex c =
    let is_hex = sym c.is_hex.ensures.test ∙ c.if-is_hex.true in
    c.hex_number.ensures ∙ ap (number_in 16 16) (take_rest c.args.word.now 2) ∙ sym (number_of-hex c.args.word.now is_hex)

pub returns-else-is_hex : goal.returns-else-is_hex
returns-else-is_hex c =
    let is_not_hex = sym c.is_hex.ensures.test ∙ c.if-is_hex.false in
    c.number_in.ensures ∙ sym (number_of-decimal c.args.word.now is_not_hex)
