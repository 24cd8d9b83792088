use Rattle.std.proofs.Common.{◌∙◌, sym, ap, arith}
use Rattle.std.specs.FinMap as finite
use Rattle.std.specs.Int.{bit_at}
use Rattle.std.proofs.lemmas.Nat.Bits.{bit_at_and, bit_at-lt}
use Rattle.caches.specs.Held.{Entries}
use Rattle.caches.proofs.EntryMaps.{held_spanned}
use Rattle.caches.proofs.Pruned.{none_unless}
use Rattle.caches.proofs.entry_map.EntryMap.spans_among.Goals as goal

pub returns-clause-asked : goal.returns-clause-asked
returns-clause-asked c = λ n has.
    let both = ap (λ m. bit_at m n) c.among.ensures.value ∙ bit_at_and c.args.spans c.self.inside.spans.used n in
    let set = has.1 in
    (has.0, omega (arith, both, set, bit_at-lt c.args.spans n))

pub returns-clause-others : goal.returns-clause-others
returns-clause-others c = λ n asked gone t same. none_unless (finite.get c.args.self.now t) (λ e is.
    let used = held_spanned c.self.inside.spans c.self.inside.map.ordered c.self.inside.removed.items c.self.invariant.spanned t e (ap (λ (x : Entries). finite.get x t) c.self.view_is ∙ is) in
    let set = ap (bit_at c.self.inside.spans.used) (sym same) ∙ used.1 in
    let both = ap (λ m. bit_at m n) c.among.ensures.value ∙ bit_at_and c.args.spans c.self.inside.spans.used n in
    absurd (gone (asked.0, omega (arith, both, set, asked.1))))
