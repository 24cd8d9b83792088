use Rattle.std.proofs.Common.{◌≡◌, ◌+◌, ◌-◌, ◌∷◌, [], length, take, drop, ap, sym, ◌∙◌, arith, length-take}
use Rattle.std.proofs.lemmas.List.{nil_from_length, take_rest}
use Rattle.script.specs.Lines.{lines_of}
use Rattle.script.proofs.LineLemmas.{lines_of-nothing}
use Rattle.image.proofs.DumpLemmas.{last_line, lines_to_end}
use Rattle.image.proofs.dump.next_line.Goals as goal

pub returns-in-Some-clause-lines : goal.returns-in-Some-clause-lines
returns-in-Some-clause-lines c =
    let text = c.args.text.now in
    lines_to_end text c.in-Some.end c.in-Some.ensures ∙ ap (λ t. take c.in-Some.end text ∷ lines_of t) (sym (take_rest text (c.in-Some.end + 1)))

pub returns-in-None-clause-lines : goal.returns-in-None-clause-lines
returns-in-None-clause-lines c =
    let text = c.args.text.now in
    let left = take (length text - length text) (drop (length text) text) in
    let nothing : left ≡ [] = nil_from_length left (omega (arith, length-take (length text - length text) (drop (length text) text))) in
    last_line text c.in-None.ensures c.requires ∙ ap (λ t. text ∷ t) (sym (ap lines_of nothing ∙ lines_of-nothing))
