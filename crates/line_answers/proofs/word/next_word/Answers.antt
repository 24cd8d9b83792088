use Rattle.std.proofs.Common.{◌≡◌, ◌<◌, length, arith, ◌∙◌, sym, ap}
use Rattle.std.proofs.lemmas.Bool.Decides.{nat_tests}
use Rattle.std.proofs.lemmas.List.{nil_from_length}
use Rattle.line_answers.specs.LineWords.{words_of}
use Rattle.line_answers.proofs.WordLemmas.{words_of-first, words_of-nothing}
use Rattle.line_answers.proofs.word.next_word.Goals as goal

pub returns-then-is_empty-clause-words : goal.returns-then-is_empty-clause-words
returns-then-is_empty-clause-words c =
    let empty : length c.without_leading_blanks-text.result.now ≡ 0 = grind (arith, nat_tests) in
    sym c.without_leading_blanks-text.ensures.words ∙ ap words_of (nil_from_length _ empty) ∙ words_of-nothing

pub returns-clause-words : goal.returns-clause-words
returns-clause-words c =
    let text = c.without_leading_blanks-text.result.now in
    let skipped = c.without_leading_blanks-text.ensures in
    let found = c.word_length-end.ensures in
    let some : 0 < length text = grind (arith, nat_tests) in
    sym skipped.words ∙ words_of-first text c.word_length-end.result some (skipped.first some) found.none found.within found.end
