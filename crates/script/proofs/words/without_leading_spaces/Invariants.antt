use Rattle.std.proofs.Common.{◌≡◌, length}
use Rattle.script.specs.Words.{words_of}
use Rattle.script.proofs.words.without_leading_spaces.Given as goal

abbrev pub invariant-spaces : goal.invariant-spaces
invariant-spaces l = words_of l.rest ≡ words_of l.text

abbrev pub decreases-spaces : goal.decreases-spaces
decreases-spaces l = length l.rest
