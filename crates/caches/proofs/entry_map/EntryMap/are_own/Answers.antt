use Rattle.std.proofs.Common.{◌∙◌, ap}
use Rattle.std.specs.FinMap as finite
use Rattle.caches.specs.Held.{Entries}
use Rattle.caches.proofs.EntryMaps.{held_kept}
use Rattle.caches.proofs.entry_map.EntryMap.are_own.Goals as goal

pub returns : goal.returns
returns c = λ t e is. (held_kept c.self.inside.map.ordered c.self.inside.removed.items c.self.invariant.keeping t e (ap (λ (x : Entries). finite.get x t) c.self.view_is ∙ is)).own
