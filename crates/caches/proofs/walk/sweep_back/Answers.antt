use Rattle.std.proofs.Common.{◌≡◌, ◌<◌, Bool, true, false, ◌⊎◌, inl, inr, cond, None, refl, ◌∙◌, ap, subst, arith, is_lt, is_le}
use Rattle.std.specs.declared.cmp.Ordering.TheVariants.{Less, Equal, Greater}
use Rattle.std.specs.Ordering.{is_eq}
use Rattle.std.specs.BTreeMap.{BTreeMap, get, is_at}
use Rattle.caches.specs.declared.key.Key.{Key}
use Rattle.caches.specs.declared.tag.Entry.{Entry}
use Rattle.caches.specs.Keys.{covers_key, least, page_of}
use Rattle.caches.specs.Sweep.{IsPruned}
use Rattle.caches.specs.Walks.{IsLastKey}
use Rattle.caches.proofs.KeyOrder.{key_cmp, key_exact, at_or_after, before_page, le_itself, less_at_most, not_after, stands_before}
use Rattle.caches.proofs.Pruned.{keeping_pruned, none_pruned, pruned_trans}
use Rattle.caches.proofs.Rest.{at_is}
use Rattle.caches.proofs.Sweeping.{le_of_less, lt_is}
use Rattle.caches.proofs.walk.sweep_back.Goals as goal

-- Nothing that passes is left from this key on up to the end.
abbrev IsClean : (Key → Bool) → Key → BTreeMap Key Entry → Key → Type 0
IsClean p end m from = (q : Key) → p q ≡ true → key_cmp q end ≡ Less → is_le (key_cmp from q) ≡ true → get key_cmp m q ≡ None

-- A key is before the bound, or what is from the bound on speaks of it.
by_bound : (q bound : Key) (X : Type 0) → (key_cmp q bound ≡ Less → X) → (is_le (key_cmp bound q) ≡ true → X) → X
by_bound q bound X before from =
    elim (is_lt (key_cmp q bound)) as (λ b. is_lt (key_cmp q bound) ≡ b → X) [
      | true ↦ λ e. before (lt_is _ e)
      | false ↦ λ e. from (at_or_after q bound e)
    ] refl

module _ (p : Key → Bool) (m n : BTreeMap Key Entry) (bound k : Key) (is : IsLastKey key_cmp p m bound k) (after : (q : Key) → get key_cmp n q ≡ cond (is_at (key_cmp k) q) None (get key_cmp m q)) where
  without_last : IsPruned key_cmp p m n
  without_last q = elim (is_at (key_cmp k) q) as (λ b. is_at (key_cmp k) q ≡ b → get key_cmp n q ≡ cond b None (get key_cmp m q) → (get key_cmp n q ≡ get key_cmp m q) ⊎ ((p q ≡ true) × (get key_cmp n q ≡ None))) [
    | true ↦ λ at gone. inr (subst (λ x. p x ≡ true) (key_exact k q (at_is _ at)) is.passes, gone)
    | false ↦ λ at same. inl same
  ] refl (after q)

  clean_from : (end : Key) → IsClean p end m bound → IsClean p end n k
  clean_from end clean q passes before from =
      elim (key_cmp k q) as (λ r. key_cmp k q ≡ r → is_le r ≡ true → get key_cmp n q ≡ None) [
        | Less ↦ λ e _. none_pruned key_cmp p m n without_last q (by_bound q bound (get key_cmp m q ≡ None) (λ less. is.last q e less passes) (clean q passes before))
        | Equal ↦ λ e _. after q ∙ ap (λ r. cond (is_eq r) None (get key_cmp m q)) e
        | Greater ↦ λ e l. cc
      ] refl from

pub last_covered-requires-clause-keeping : goal.last_covered-requires-clause-keeping
last_covered-requires-clause-keeping c = keeping_pruned (covers_key c.args.command.now) c.args.map.now.ordered c.loop-key.map.ordered c.loop-key.invariant.pruned c.requires.keeping

pub loop-key-preserved : goal.loop-key-preserved
loop-key-preserved c =
    let p = covers_key c.args.command.now in
    let m = c.loop-key.map.ordered in
    let n = c.remove.new.self.ordered in
    let k = c.in-Covered.key in
    let end = least c.args.owner c.args.end 0 in
    record {
      pruned = pruned_trans key_cmp p c.args.map.now.ordered m n c.loop-key.invariant.pruned (without_last p m n c.loop-key.upper k c.in-Covered.ensures c.remove.ensures.updates.0);
      clean = clean_from p m n c.loop-key.upper k c.in-Covered.ensures c.remove.ensures.updates.0 end c.loop-key.invariant.clean;
      own = (c.requires.reach k c.in-Covered.ensures.passes).0;
      within = le_of_less _ (less_at_most k c.loop-key.upper end c.in-Covered.ensures.before c.loop-key.invariant.within);
    }

pub returns-in-NoneFrom-clause-clean : goal.returns-in-NoneFrom-clause-clean
returns-in-NoneFrom-clause-clean c = λ q passes before from.
    by_bound q c.loop-key.upper (get key_cmp c.loop-key.map.ordered q ≡ None)
    (λ less. c.in-NoneFrom.ensures.none q passes less from)
    (c.loop-key.invariant.clean q passes (before_page c.args.owner c.args.end q (c.requires.reach q passes).0 before))

pub returns-in-NoneFrom-clause-under : goal.returns-in-NoneFrom-clause-under
returns-in-NoneFrom-clause-under c = λ some.
    elim c.in-NoneFrom.ensures.begins as (λ _. c.in-NoneFrom.page < c.args.end) [
      | inl none ↦ omega (arith, none)
      | inr begins ↦
          let end = least c.args.owner c.args.end 0 in
          let less = less_at_most begins.0 c.loop-key.upper end begins.3 c.loop-key.invariant.within in
          let at : page_of begins.0 < c.args.end = (stands_before c.args.owner c.args.end begins.0 begins.0 begins.1 (le_itself begins.0) (not_after begins.0 end less)).2 in
          omega (arith, begins.2)
    ]
