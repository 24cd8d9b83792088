use Rattle.std.proofs.Common.{◌<◌, length, arith, ◌∙◌}
use Rattle.std.proofs.lemmas.Bool.Decides.{nat_tests}
use Rattle.script.proofs.WordLemmas.{words_of-after_space}
use Rattle.script.proofs.words.without_leading_spaces.Goals as goal

pub spaces-preserved : goal.spaces-preserved
spaces-preserved c =
    let some : 0 < length c.spaces.rest.now = grind (arith, nat_tests) in
    words_of-after_space c.spaces.rest.now some (omega arith) ∙ c.spaces.invariant
