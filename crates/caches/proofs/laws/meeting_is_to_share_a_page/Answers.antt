use Rattle.caches.proofs.LawLemmas.{share}
use Rattle.caches.proofs.laws.meeting_is_to_share_a_page.Goals as goal

pub returns : goal.returns
returns c = share
