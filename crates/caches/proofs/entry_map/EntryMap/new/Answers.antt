use Rattle.std.proofs.Common.{◌∙◌, sym, ap}
use Rattle.std.specs.FinMap as finite
use Rattle.std.specs.FinMap.{len-empty}
use Rattle.caches.specs.declared.tag.Entry.{Entry}
use Rattle.caches.specs.TagOrder.{tag_cmp}
use Rattle.caches.specs.Unlisted.{unlisted}
use Rattle.caches.proofs.EntryMaps.{empty_keeping, empty_spanned, empty_main}
use Rattle.caches.proofs.Viewed.{unlisted_empty}
use Rattle.caches.proofs.entry_map.EntryMap.new.Goals as goal

pub returns : goal.returns
returns c = ap (unlisted c.new.result.ordered) c.new-2.ensures ∙ unlisted_empty c.new.result.ordered c.new.ensures

pub invariant_of-result : goal.invariant_of-result
invariant_of-result c = record {
  counted = sym (ap finite.len (returns c) ∙ len-empty tag_cmp Entry);
  keeping = empty_keeping c.new.result.ordered c.new.ensures;
  spanned = empty_spanned c.new.result.ordered c.new.ensures c.none.result;
  main = λ _. empty_main _ (returns c);
}
