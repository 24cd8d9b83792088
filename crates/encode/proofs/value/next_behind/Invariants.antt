use Rattle.std.proofs.Common.{◌≡◌, length}
use Rattle.line_answers.specs.LineWords.{words_of}
use Rattle.encode.specs.Values.{behind}
use Rattle.encode.proofs.value.next_behind.Given as goal

abbrev pub invariant-words : goal.invariant-words
invariant-words l = behind l.key (words_of l.text) ≡ behind l.key (words_of l.left)

abbrev pub decreases-words : goal.decreases-words
decreases-words l = length l.left
