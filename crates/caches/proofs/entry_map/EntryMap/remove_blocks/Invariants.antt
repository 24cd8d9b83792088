use Rattle.caches.proofs.OnePages.{AreGone}
use Rattle.caches.proofs.entry_map.EntryMap.remove_blocks.Given as goal

abbrev pub invariant-loop-span : goal.invariant-loop-span
invariant-loop-span l = AreGone l.holder l.page l.fn.self l.self l.span
