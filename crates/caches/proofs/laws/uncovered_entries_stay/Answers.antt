use Rattle.caches.proofs.LawLemmas.{stay}
use Rattle.caches.proofs.laws.uncovered_entries_stay.Goals as goal

pub returns : goal.returns
returns c = stay
