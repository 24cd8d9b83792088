use Rattle.std.proofs.Common.{◌≡◌, ◌≤◌, length}
use Rattle.line_answers.specs.LineWords.{words_of}
use Rattle.line_answers.proofs.word.without_leading_blanks.Given as goal

abbrev pub invariant-blanks : goal.invariant-blanks
invariant-blanks l = record {
  words : words_of l.rest ≡ words_of l.text;
  short : length l.rest ≤ length l.text;
}

abbrev pub decreases-blanks : goal.decreases-blanks
decreases-blanks l = length l.rest
