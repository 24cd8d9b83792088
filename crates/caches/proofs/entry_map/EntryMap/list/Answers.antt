use Rattle.std.proofs.Common.{rules, map-id, ◌≡◌, ◌∙◌, not, sym, ap, subst, IfOk, All, Some}
use Rattle.std.specs.Prelude.{map}
use Rattle.std.specs.FinMap as finite
use Rattle.std.specs.List.{filter}
use Rattle.std.specs.List.Sorted.{IsPermutation}
use Rattle.std.proofs.lemmas.Iterator.{items_from_collect, YieldsList-from_map}
use Rattle.std.proofs.lemmas.Iterator.Consumers.{YieldsList-from_rest, YieldsList-at}
use Rattle.caches.specs.declared.tag.Entry.{Entry}
use Rattle.caches.specs.EntryMaps.{unremoved}
use Rattle.caches.specs.Held.{Entries}
use Rattle.caches.specs.Unlisted.{is_listed}
use Rattle.caches.proofs.InOrder.{unlisted_in_order, unlisted_own, values_own}
use Rattle.caches.proofs.entry_map.EntryMap.list.Goals as goal

pub returns-in-Ok : goal.returns-in-Ok
returns-in-Ok c =
    let m = c.self.inside.map.ordered in
    let ks = c.self.inside.removed.items in
    let copied : c.in-Ok.list.items ≡ map (λ e. e.1) m.entries =
    subst (λ r. IfOk r (λ v. v.items ≡ map (λ (e : Entry). e) (map (λ e. e.1) m.entries))) c.in-Ok.is
    (items_from_collect c.collect.result c.collect.ensures.ran (YieldsList-from_map _ (λ (e : Entry). e) (YieldsList-at c.map.ensures.source (YieldsList-from_rest _ c.values.ensures.rest)) c.map.ensures.closure (λ x r q k. search rules)))
    ∙ map-id _ in
    let stay : c.drop_listed.new.list.items ≡ filter (λ (e : Entry). not (is_listed ks e.tag)) (map (λ e. e.1) m.entries) =
    c.drop_listed.ensures ∙ ap (λ rs. filter (λ (e : Entry). not (is_listed rs e.tag)) c.in-Ok.list.items) c.deref.ensures.0 ∙ ap (filter (λ (e : Entry). not (is_listed ks e.tag))) copied in
    let ok : c.sort_by_tag.new.list.items ≡ finite.values c.args.self.now =
    sym (unlisted_in_order m ks c.sort_by_tag.new.list.items c.values.ensures.ordered (λ q e there. (c.self.invariant.keeping q e there).own)
    (subst (λ es. IsPermutation es c.sort_by_tag.new.list.items) stay c.sort_by_tag.ensures.permutation) c.sort_by_tag.ensures.sorted)
    ∙ ap finite.values c.self.view_is in
    record {
      ok = ok;
      own = subst (All (λ (e : Entry). finite.get c.args.self.now e.tag ≡ Some e)) (sym ok)
          (subst (λ (m : Entries). All (λ (e : Entry). finite.get m e.tag ≡ Some e) (finite.values m)) c.self.view_is (values_own (unremoved c.self.inside) (unlisted_own m ks (λ q e there. (c.self.invariant.keeping q e there).own))));
      err = tt;
    }
