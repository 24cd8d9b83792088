use Rattle.std.proofs.Common.{◌∙◌}
use Rattle.caches.proofs.Viewed.{contained}
use Rattle.caches.proofs.entry_map.is_among.Goals as goal

pub returns-then-not-is_empty : goal.returns-then-not-is_empty
returns-then-not-is_empty c = c.contains.ensures.value ∙ contained c.args.ranks.now c.args.rank
