use Rattle.std.proofs.Common.{◌≡◌, ◌<◌, length, arith, ◌∙◌, sym, ap}
use Rattle.std.proofs.lemmas.Bool.Decides.{nat_tests}
use Rattle.std.proofs.lemmas.List.{nil_from_length}
use Rattle.script.specs.Words.{words_of}
use Rattle.script.proofs.WordLemmas.{words_of-first, words_of-nothing}
use Rattle.script.proofs.words.next_word.Goals as goal

pub returns-then-is_empty : goal.returns-then-is_empty
returns-then-is_empty c =
    let spaces_gone = c.without_leading_spaces-text.ensures.words in
    let empty : length c.without_leading_spaces-text.result.now ≡ 0 = grind (arith, nat_tests) in
    sym spaces_gone ∙ ap words_of (nil_from_length _ empty) ∙ words_of-nothing

pub returns : goal.returns
returns c =
    let text = c.without_leading_spaces-text.result.now in
    let skipped = c.without_leading_spaces-text.ensures in
    let some : 0 < length text = grind (arith, nat_tests) in
    sym skipped.words ∙ words_of-first text c.memchr.result _ some skipped.first c.memchr.ensures c.unwrap_or-end.ensures
