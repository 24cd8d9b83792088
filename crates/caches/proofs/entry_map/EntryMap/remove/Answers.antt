use Rattle.std.proofs.Common.{◌≡◌, ◌∙◌, not, sym, ap, subst, arith, None}
use Rattle.std.specs.FinMap as finite
use Rattle.std.proofs.lemmas.Bool.{and_left, and_right}
use Rattle.caches.specs.Held.{Entries}
use Rattle.caches.specs.Keys.{tag_of}
use Rattle.caches.specs.OneStreams.{HaveNoSubstreams}
use Rattle.caches.specs.Unlisted.{is_listed, unlisted}
use Rattle.caches.proofs.EntryMaps.{part_keeping, part_spanned, removed_main}
use Rattle.caches.proofs.Viewed.{note_removed, unlisted_lacks, unchanged_remove}
use Rattle.caches.proofs.entry_map.EntryMap.remove.Goals as goal
use Rattle.caches.proofs.entry_map.EntryMap.remove.Goals.{else-holds-via-then-holds+else-not-is_among, else-holds-via-else-holds}

pub overflow_sub-self : goal.overflow_sub-self
overflow_sub-self c =
    let noted = note_removed c.self.inside.map.ordered c.make_room.new.map.ordered c.self.inside.removed.items c.make_room.new.removed.items c.push.new.self.items c.args.rank (sym c.holds.ensures ∙ c.if-holds.true)
    (ap (λ xs. is_listed xs (tag_of c.args.rank)) (sym c.deref.ensures.0) ∙ sym c.is_among.ensures ∙ c.if-not-is_among.true) c.make_room.ensures.same c.push.ensures.items in
    omega (arith, c.self.invariant.counted, noted.0)

pub invariant_of-self : goal.invariant_of-self
invariant_of-self c =
    let noted = note_removed c.self.inside.map.ordered c.make_room.new.map.ordered c.self.inside.removed.items c.make_room.new.removed.items c.push.new.self.items c.args.rank (sym c.holds.ensures ∙ c.if-holds.true)
    (ap (λ xs. is_listed xs (tag_of c.args.rank)) (sym c.deref.ensures.0) ∙ sym c.is_among.ensures ∙ c.if-not-is_among.true) c.make_room.ensures.same c.push.ensures.items in
    record {
      counted = omega (arith, c.self.invariant.counted, noted.1);
      keeping = part_keeping c.self.inside.map.ordered c.make_room.new.map.ordered c.make_room.ensures.pruned c.self.invariant.keeping;
      spanned = part_spanned c.self.inside.map.ordered c.make_room.new.map.ordered c.make_room.ensures.pruned c.self.inside.spans c.self.invariant.spanned;
      main = λ none. subst HaveNoSubstreams (sym noted.2) (removed_main (unlisted c.self.inside.map.ordered c.self.inside.removed.items) (tag_of c.args.rank) (c.self.invariant.main none));
    }

pub returns-then-not-is_among : goal.returns-then-not-is_among
returns-then-not-is_among c =
    let noted = note_removed c.self.inside.map.ordered c.make_room.new.map.ordered c.self.inside.removed.items c.make_room.new.removed.items c.push.new.self.items c.args.rank (sym c.holds.ensures ∙ c.if-holds.true)
    (ap (λ xs. is_listed xs (tag_of c.args.rank)) (sym c.deref.ensures.0) ∙ sym c.is_among.ensures ∙ c.if-not-is_among.true) c.make_room.ensures.same c.push.ensures.items in
    noted.2 ∙ ap (λ (m : Entries). finite.remove m (tag_of c.args.rank)) c.self.view_is

pub returns-else-holds : goal.returns-else-holds
returns-else-holds c =
    let m = c.self.inside.map.ordered in
    let ks = c.self.inside.removed.items in
    let t = tag_of c.args.rank in
    let none : finite.get c.args.self.now t ≡ None = ap (λ (x : Entries). finite.get x t) (sym c.self.view_is) ∙ unlisted_lacks m ks c.args.rank (elim c.else-holds.branch [
      | else-holds-via-then-holds+else-not-is_among w ↦ and_right _ _ (ap (λ xs. not (is_listed xs t)) (sym w.deref.ensures.0) ∙ ap not (sym w.is_among.ensures ∙ w.if-not-is_among.false))
      | else-holds-via-else-holds w ↦ and_left _ _ (sym c.holds.ensures ∙ w.if-holds.false)
    ]) in
    unchanged_remove c.args.self.now t none
