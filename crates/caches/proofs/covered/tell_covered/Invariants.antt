use Rattle.std.proofs.Common.{◌+◌, ◌≤◌, length, All}
use Rattle.std.specs.BTreeMap.{values, btree_map_len}
use Rattle.caches.specs.declared.tag.Entry.{Entry}
use Rattle.caches.specs.Blocks.{IsBlock}
use Rattle.caches.proofs.Shuffled.{is_told}
use Rattle.caches.proofs.Telling.{IsTelling}
use Rattle.caches.proofs.covered.tell_covered.Given as goal

abbrev pub invariant-loop-held : goal.invariant-loop-held
invariant-loop-held l = record {
  telling : IsTelling (is_told l.command l.removed) (values l.map) l.fn.room l.held-iterator l.room l.count;
  well_formed : All (λ (e : Entry). IsBlock e.tag) l.held-iterator;
  few : l.count + length l.held-iterator ≤ btree_map_len l.map;
}
