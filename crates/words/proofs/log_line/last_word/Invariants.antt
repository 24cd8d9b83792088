use Rattle.std.proofs.Common.{◌≡◌, [], length}
use Rattle.line_answers.specs.LineWords.{words_of}
use Rattle.words.specs.LogLines.{last_or}
use Rattle.words.proofs.log_line.last_word.Given as goal

abbrev pub invariant-words : goal.invariant-words
invariant-words l = last_or l.last (words_of l.left) ≡ last_or [] (words_of l.text)

abbrev pub decreases-words : goal.decreases-words
decreases-words l = length l.left
