use Rattle.caches.proofs.LawLemmas.{once}
use Rattle.caches.proofs.laws.held_speaks_of_each_tag_once.Goals as goal

pub returns : goal.returns
returns c = once
