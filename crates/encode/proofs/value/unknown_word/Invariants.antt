use Rattle.std.proofs.Common.{◌≡◌, length}
use Rattle.line_answers.specs.LineWords.{words_of}
use Rattle.encode.specs.Values.{unknown_word}
use Rattle.encode.proofs.value.unknown_word.Given as goal

abbrev pub invariant-words : goal.invariant-words
invariant-words l = unknown_word l.fields (words_of l.text) ≡ unknown_word l.fields (words_of l.left)

abbrev pub decreases-words : goal.decreases-words
decreases-words l = length l.left
