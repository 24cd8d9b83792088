use Rattle.std.proofs.Common.{◌∙◌, sym, ap, subst}
use Rattle.caches.specs.Held.{holds_passing, without_evicted}
use Rattle.caches.specs.OneStreams.{HaveNoSubstreams}
use Rattle.caches.specs.Unlisted.{unlisted}
use Rattle.caches.proofs.EntryMaps.{part_keeping, part_spanned, without_main}
use Rattle.caches.proofs.EntryTests.{part_rid, unlisted_rid}
use Rattle.caches.proofs.entry_map.EntryMap.remove_passing.Goals as goal

pub invariant_of-self : goal.invariant_of-self
invariant_of-self g c =
    let p = g.T.EntryTest.evicted c.args.test.now in
    let m = c.self.inside.map.ordered in
    let n = c.remove_passing.new.map.ordered in
    let part = part_rid p m n c.remove_passing.ensures in
    let held = unlisted m c.self.inside.removed.items in
    let gone = c.recount-self-inside.ensures.same ∙ unlisted_rid p m n c.remove_passing.ensures c.self.inside.removed.items in
    record {
      counted = c.recount-self-inside.ensures.len;
      keeping = part_keeping m n part c.self.invariant.keeping;
      spanned = part_spanned m n part c.self.inside.spans c.self.invariant.spanned;
      main = λ none. subst HaveNoSubstreams (sym gone) (without_main (holds_passing p held) held (c.self.invariant.main none));
    }

pub returns : goal.returns
returns g c =
    let p = g.T.EntryTest.evicted c.args.test.now in
    c.recount-self-inside.ensures.same ∙ unlisted_rid p c.self.inside.map.ordered c.remove_passing.new.map.ordered c.remove_passing.ensures c.self.inside.removed.items ∙ ap (without_evicted p) c.self.view_is
