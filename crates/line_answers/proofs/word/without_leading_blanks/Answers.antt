use Rattle.std.proofs.Common.{◌≡◌, ◌<◌, length, drop, arith, ap, sym, ◌∙◌, length-drop}
use Rattle.std.specs.List.{between}
use Rattle.std.proofs.lemmas.Bool.Decides.{nat_tests}
use Rattle.std.proofs.lemmas.List.{take_rest}
use Rattle.line_answers.proofs.WordLemmas.{words_of-after_blank}
use Rattle.line_answers.proofs.word.without_leading_blanks.Goals as goal

pub blanks-preserved : goal.blanks-preserved
blanks-preserved c =
    let rest = c.blanks.rest.now in
    let some : 0 < length rest = grind (arith, nat_tests) in
    let one_less : length (between 1 (length rest) rest) ≡ length (drop 1 rest) = ap length (take_rest rest 1) in
    record {
      words = words_of-after_blank rest some (sym c.is_blank.ensures ∙ c.if-is_blank.true) ∙ c.blanks.invariant.words;
      short = omega (arith, length-drop 1 rest, one_less, c.blanks.invariant.short);
    }
