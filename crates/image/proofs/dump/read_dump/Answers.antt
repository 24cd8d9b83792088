use Rattle.std.proofs.Common.{◌≡◌, ◌+◌, length, ap, sym, ◌∙◌, subst, arith}
use Rattle.std.proofs.lemmas.Bool.Decides.{nat_tests}
use Rattle.std.proofs.lemmas.List.{nil_from_length}
use Rattle.script.specs.Lines.{lines_of}
use Rattle.image.specs.Dumps.{IsFault, behind, image_from}
use Rattle.image.proofs.DumpLemmas.{fault_behind, first_line, no_more_lines}
use Rattle.image.proofs.dump.read_dump.Goals as goal

pub returns-in-Err-clause-error : goal.returns-in-Err-clause-error
returns-in-Err-clause-error c =
    let items = c.lines.image.items in
    let line = c.next_line.result.0.now in
    let after = lines_of c.next_line.result.1.now in
    let path = c.lines.invariant.image ∙ ap (λ ls. behind items (image_from c.lines.number c.lines.last ls)) c.next_line.ensures.lines
    ∙ ap (behind items) (first_line c.lines.number c.lines.last line after) in
    subst (IsFault c.in-Err.e) (sym path) (fault_behind c.in-Err.e items _ (c.in-Err.ensures (λ at. image_from (c.lines.number + 1) at after)))

pub lines-preserved : goal.lines-preserved
lines-preserved c =
    let items = c.lines.image.items in
    let line = c.next_line.result.0.now in
    let after = lines_of c.next_line.result.1.now in
    let path = c.lines.invariant.image ∙ ap (λ ls. behind items (image_from c.lines.number c.lines.last ls)) c.next_line.ensures.lines
    ∙ ap (behind items) (first_line c.lines.number c.lines.last line after) in
    record {
      image = path ∙ c.in-Ok.ensures (λ at. image_from (c.lines.number + 1) at after);
      counted = omega (arith, c.lines.invariant.counted, c.next_line.ensures.shorter);
    }

pub returns-clause-image : goal.returns-clause-image
returns-clause-image c =
    let empty : length c.lines.rest.now ≡ 0 = grind (arith, nat_tests) in
    c.lines.invariant.image ∙ ap (λ t. behind c.lines.image.items (image_from c.lines.number c.lines.last (lines_of t))) (nil_from_length _ empty)
    ∙ no_more_lines c.lines.image.items c.lines.number c.lines.last
