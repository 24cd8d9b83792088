use Rattle.std.proofs.Common.{◌≡◌, ◌∙◌, sym, ap, subst}
use Rattle.std.specs.FinMap as finite
use Rattle.caches.specs.Covers.{covers}
use Rattle.caches.specs.Held.{Entries, without_covered}
use Rattle.caches.specs.OneStreams.{HaveNoSubstreams}
use Rattle.caches.specs.Unlisted.{unlisted}
use Rattle.caches.proofs.EntryMaps.{part_keeping, part_spanned, part_without, unlisted_whole, without_main}
use Rattle.caches.proofs.Viewed.{unlisted_without}
use Rattle.caches.proofs.entry_map.EntryMap.sweep.Goals as goal

pub invariant_of-self : goal.invariant_of-self
invariant_of-self c =
    let command = c.args.command.now in
    let m = c.self.inside.map.ordered in
    let n = c.remove_all_covered.new.map.ordered in
    let part = part_without (covers command) m n c.remove_all_covered.ensures.after in
    let gone = c.recount-self-inside.ensures.same ∙ unlisted_without (covers command) m n c.self.inside.removed.items c.remove_all_covered.ensures.after in
    record {
      counted = c.recount-self-inside.ensures.len;
      keeping = part_keeping m n part c.self.invariant.keeping;
      spanned = part_spanned m n part c.self.inside.spans c.self.invariant.spanned;
      main = λ none. subst HaveNoSubstreams (sym gone) (without_main (covers command) (unlisted m c.self.inside.removed.items) (c.self.invariant.main none));
    }

pub invariant_of-self-else-len-before : goal.invariant_of-self-else-len-before
invariant_of-self-else-len-before c =
    let command = c.args.command.now in
    let m = c.self.inside.map.ordered in
    let n = c.remove_all_covered.new.map.ordered in
    let ks = c.self.inside.removed.items in
    let part = part_without (covers command) m n c.remove_all_covered.ensures.after in
    let whole : unlisted n ks ≡ unlisted m ks = unlisted_whole (covers command) m n ks c.remove_all_covered.ensures.after c.len-before.ensures.ordered c.len.ensures.ordered (sym c.len.ensures.len ∙ c.if-len-before.false ∙ c.len-before.ensures.len) in
    record {
      counted = c.self.invariant.counted ∙ sym (ap (λ (x : Entries). finite.len x) whole);
      keeping = part_keeping m n part c.self.invariant.keeping;
      spanned = part_spanned m n part c.self.inside.spans c.self.invariant.spanned;
      main = λ none. subst HaveNoSubstreams (sym whole) (c.self.invariant.main none);
    }

pub returns-then-len-before : goal.returns-then-len-before
returns-then-len-before c =
    let command = c.args.command.now in
    c.recount-self-inside.ensures.same ∙ unlisted_without (covers command) c.self.inside.map.ordered c.remove_all_covered.new.map.ordered c.self.inside.removed.items c.remove_all_covered.ensures.after ∙ ap (without_covered command) c.self.view_is

pub returns-else-len-before : goal.returns-else-len-before
returns-else-len-before c =
    let command = c.args.command.now in
    unlisted_without (covers command) c.self.inside.map.ordered c.remove_all_covered.new.map.ordered c.self.inside.removed.items c.remove_all_covered.ensures.after ∙ ap (without_covered command) c.self.view_is
