use Rattle.std.proofs.Common.{◌∙◌, sym, ap}
use Rattle.std.specs.FinMap as finite
use Rattle.std.specs.FinMap.{len-empty}
use Rattle.caches.specs.declared.tag.Entry.{Entry}
use Rattle.caches.specs.TagOrder.{tag_cmp}
use Rattle.caches.specs.Unlisted.{unlisted}
use Rattle.caches.proofs.EntryMaps.{empty_keeping, empty_spanned, empty_main}
use Rattle.caches.proofs.Viewed.{unlisted_empty}
use Rattle.caches.proofs.entry_map.EntryMap.clear.Goals as goal

pub returns-clause-after : goal.returns-clause-after
returns-clause-after c = ap (unlisted c.clear-2.new.self.ordered) c.clear.ensures ∙ unlisted_empty c.clear-2.new.self.ordered c.clear-2.ensures

pub returns-clause-len : goal.returns-clause-len
returns-clause-len c = ap finite.len (returns-clause-after c) ∙ len-empty tag_cmp Entry

pub invariant_of-self : goal.invariant_of-self
invariant_of-self c = record {
  counted = sym (returns-clause-len c);
  keeping = empty_keeping c.clear-2.new.self.ordered c.clear-2.ensures;
  spanned = empty_spanned c.clear-2.new.self.ordered c.clear-2.ensures c.none-self-inside.result;
  main = λ _. empty_main _ (returns-clause-after c);
}
