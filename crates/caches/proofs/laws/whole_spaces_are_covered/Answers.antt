use Rattle.caches.proofs.LawLemmas.{all_streams, all_pages, all_machines}
use Rattle.caches.proofs.laws.whole_spaces_are_covered.Goals as goal

pub returns : goal.returns
returns c = record { streams = all_streams; endpoint = all_pages; machines = all_machines }
