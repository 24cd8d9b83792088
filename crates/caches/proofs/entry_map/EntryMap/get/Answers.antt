use Rattle.std.proofs.Common.{◌≡◌, ◌∙◌, true, false, sym, ap, cond, None}
use Rattle.std.specs.BTreeMap as tree
use Rattle.std.specs.FinMap as finite
use Rattle.caches.specs.Held.{Entries}
use Rattle.caches.specs.Keys.{key_of, tag_of}
use Rattle.caches.specs.Unlisted.{is_listed}
use Rattle.caches.proofs.EntryMaps.{held_kept}
use Rattle.caches.proofs.KeyOrder.{key_cmp}
use Rattle.caches.proofs.Viewed.{get_unlisted, own_tag, tag_back}
use Rattle.caches.proofs.entry_map.EntryMap.get.Goals as goal

pub returns-then-is_among-clause-value : goal.returns-then-is_among-clause-value
returns-then-is_among-clause-value c =
    let m = c.self.inside.map.ordered in
    let ks = c.self.inside.removed.items in
    let t = c.args.tag.now in
    let listed : is_listed ks t ≡ true = ap (λ xs. is_listed xs t) (sym c.deref.ensures.0) ∙ ap (is_listed c.deref.result.now) (sym (ap tag_of c.of.ensures.key ∙ tag_back t)) ∙ sym c.is_among.ensures ∙ c.if-is_among.true in
    sym (ap (λ (x : Entries). finite.get x t) (sym c.self.view_is) ∙ get_unlisted m ks t ∙ ap (λ b. cond b None (tree.get key_cmp m (key_of t))) listed)

pub returns-clause-value : goal.returns-clause-value
returns-clause-value c =
    let m = c.self.inside.map.ordered in
    let ks = c.self.inside.removed.items in
    let t = c.args.tag.now in
    let unlisted : is_listed ks t ≡ false = ap (λ xs. is_listed xs t) (sym c.deref.ensures.0) ∙ ap (is_listed c.deref.result.now) (sym (ap tag_of c.of.ensures.key ∙ tag_back t)) ∙ sym c.is_among.ensures ∙ c.if-is_among.false in
    c.get.ensures ∙ sym (ap (λ (x : Entries). finite.get x t) (sym c.self.view_is) ∙ get_unlisted m ks t ∙ ap (λ b. cond b None (tree.get key_cmp m (key_of t))) unlisted)

pub returns-clause-own : goal.returns-clause-own
returns-clause-own c =
    let m = c.self.inside.map.ordered in
    let ks = c.self.inside.removed.items in
    own_tag c.get.result c.args.tag.now (λ e found. (held_kept m ks c.self.invariant.keeping c.args.tag.now e
    (ap (λ (x : Entries). finite.get x c.args.tag.now) c.self.view_is ∙ sym (returns-clause-value c) ∙ found)).own)
