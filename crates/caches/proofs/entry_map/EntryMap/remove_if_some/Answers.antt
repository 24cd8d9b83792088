use Rattle.std.proofs.Common.{◌∙◌, sym, ap, cond, None}
use Rattle.std.specs.FinMap as finite
use Rattle.std.specs.FinMap.{get-remove}
use Rattle.caches.specs.Held.{Entries}
use Rattle.caches.specs.Keys.{tag_of}
use Rattle.caches.specs.OneStreams.{is_of}
use Rattle.caches.specs.TagOrder.{tag_cmp_total}
use Rattle.caches.proofs.entry_map.EntryMap.remove_if_some.Goals as goal

pub returns-in-Some : goal.returns-in-Some
returns-in-Some c = λ t. ap (λ (m : Entries). finite.get m t) c.remove.ensures ∙ get-remove tag_cmp_total c.args.self.now (tag_of c.in-Some.rank) t
    ∙ ap (λ rank. cond (is_of rank t) None (finite.get c.args.self.now t)) (sym c.in-Some.is)
