use Rattle.std.proofs.Common.{◌≡◌, ◌∙◌, true, false, sym, ap, arith}
use Rattle.std.specs.FinMap as finite
use Rattle.std.specs.Int.{bit_at}
use Rattle.std.proofs.lemmas.Bool.{eq-eqb}
use Rattle.caches.specs.Held.{Entries}
use Rattle.caches.specs.Keys.{tag_of}
use Rattle.caches.proofs.EntryMaps.{held_spanned}
use Rattle.caches.proofs.OnePages.{gone_more, gone_unused, all_gone}
use Rattle.caches.proofs.Pruned.{none_unless}
use Rattle.caches.proofs.entry_map.EntryMap.remove_blocks.Goals as goal
use Rattle.caches.proofs.entry_map.EntryMap.remove_blocks.Goals.{then-has, else-has}

pub loop-span-preserved : goal.loop-span-preserved
loop-span-preserved c =
    let m = c.loop-span.self in
    let inside = c.self-in-loop-span.inside in
    λ t. elim c.if-has.branch [
      | then-has w ↦ ap (λ (x : Entries). finite.get x t) w.self-is ∙ gone_more c.args.holder c.args.page c.args.self.now m w.remove.new.self c.loop-span.span c.loop-span.invariant (w.remove.ensures ∙ ap (λ k. finite.remove m (tag_of k)) w.block_at.ensures) t
      | else-has w ↦ ap (λ (x : Entries). finite.get x t) w.self-is ∙ gone_unused c.args.holder c.args.page c.args.self.now m m c.loop-span.span c.loop-span.invariant (λ u same. none_unless (finite.get m u) (λ e is.
          let used = held_spanned inside.spans inside.map.ordered inside.removed.items c.self-in-loop-span.invariant.spanned u e (ap (λ (x : Entries). finite.get x u) c.self-in-loop-span.view_is ∙ is) in
          let no : false ≡ true = sym w.if-has.false ∙ c.has.ensures ∙ eq-eqb _ _ (ap (bit_at inside.spans.used) (sym same) ∙ used.1) in cc)) t
    ]

pub returns : goal.returns
returns c = all_gone c.args.holder c.args.page c.args.self.now c.loop-span.self c.loop-span.self c.loop-span.span c.loop-span.invariant (λ t e is.
    let used = held_spanned c.self.inside.spans c.self.inside.map.ordered c.self.inside.removed.items c.self.invariant.spanned t e (ap (λ (x : Entries). finite.get x t) c.self.view_is ∙ is) in
    let below = c.end-span-end.ensures.above _ used in
    omega (arith, below, c.loop-span-test.false))
