use Rattle.std.proofs.Common.{rules}
use Rattle.std.proofs.lemmas.List.Sorted.{answers_always}
use Rattle.caches.specs.TagOrder.{numbers}
use Rattle.caches.specs.declared.tag.Entry.{Entry}
use Rattle.caches.proofs.entry_map.sort_by_tag.Goals as goal

pub returns-clause-sorted : goal.returns-clause-sorted
returns-clause-sorted c = c.sort_unstable_by_key.ensures.sorted (λ (e : Entry). numbers e.tag) (answers_always _ _ _ (λ f a r q k. search rules))
