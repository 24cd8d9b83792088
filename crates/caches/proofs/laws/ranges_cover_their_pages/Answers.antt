use Rattle.caches.proofs.RangeLaw.{cover_pages}
use Rattle.caches.proofs.laws.ranges_cover_their_pages.Goals as goal

pub returns : goal.returns
returns c = cover_pages c.runs_are_of_whole_granules.ensures
