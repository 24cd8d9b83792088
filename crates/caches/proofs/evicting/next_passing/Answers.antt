use Rattle.std.proofs.Common.{◌≡◌, ◌∙◌, Bool, false, sym, ap, subst, List, ◌∷◌}
use Rattle.std.proofs.lemmas.List.Elements.{All-head}
use Rattle.std.specs.Option.{option_map_or}
use Rattle.std.specs.BTreeMap.{BTreeMap}
use Rattle.std.specs.BTreeMap.Range.{IsEntryInRange}
use Rattle.std.specs.declared.ops.Bound.{Bound}
use Rattle.std.specs.declared.ops.Bound.TheVariants.{Unbounded}
use Rattle.caches.specs.declared.key.Key.{Key}
use Rattle.caches.specs.declared.tag.Entry.{Entry}
use Rattle.caches.specs.Sweep.{has_passing}
use Rattle.caches.proofs.KeyOrder.{key_cmp, key_total, key_exact}
use Rattle.caches.proofs.Rest.{IsRest, rest_start, rest_more, rest_found, rest_none}
use Rattle.caches.proofs.evicting.next_passing.Goals as goal

module _ (p : Entry → Bool) (m : BTreeMap Key Entry) (from : Bound Key) (k : Key) (e : Entry) (t all : List (Key × Entry)) (is : all ≡ (k, e) ∷ t) (rest : IsRest key_cmp (has_passing key_cmp p m) m from Unbounded all) where
  here : IsRest key_cmp (has_passing key_cmp p m) m from Unbounded ((k, e) ∷ t)
  here = subst (IsRest key_cmp (has_passing key_cmp p m) m from Unbounded) is rest

  by_key : has_passing key_cmp p m k ≡ p e
  by_key = ap (λ o. option_map_or p o false) (All-head (IsEntryInRange key_cmp from Unbounded m) (k, e) t here.among).1

pub loop-key-init : goal.loop-key-init
loop-key-init g c = rest_start key_cmp (has_passing key_cmp (g.T.EntryTest.evicted c.args.test.now) c.args.map.now) c.args.map.now c.args.from Unbounded key_total key_exact c.range-entries.result (c.range-entries.ensures.between tt) c.range-entries.ensures.ordered (c.range-entries.ensures.in_range tt).0

pub loop-key-preserved : goal.loop-key-preserved
loop-key-preserved g c =
    let p = g.T.EntryTest.evicted c.args.test.now in
    rest_more key_cmp (has_passing key_cmp p c.args.map.now) c.args.map.now c.args.from Unbounded key_total key_exact (c.in-Some.key.now, c.in-Some.entry.now) c.next.new.self
    (here p c.args.map.now c.args.from c.in-Some.key.now c.in-Some.entry.now c.next.new.self c.loop-key.entries c.in-Some.ensures.steps c.loop-key.invariant)
    (by_key p c.args.map.now c.args.from c.in-Some.key.now c.in-Some.entry.now c.next.new.self c.loop-key.entries c.in-Some.ensures.steps c.loop-key.invariant ∙ ap p (sym c.get.ensures) ∙ sym c.evicts.ensures ∙ c.if-evicts.false)

pub returns-then-evicts : goal.returns-then-evicts
returns-then-evicts g c =
    let p = g.T.EntryTest.evicted c.args.test.now in
    rest_found key_cmp (has_passing key_cmp p c.args.map.now) c.args.map.now c.args.from Unbounded key_total key_exact (c.in-Some.key.now, c.in-Some.entry.now) c.next.new.self
    (here p c.args.map.now c.args.from c.in-Some.key.now c.in-Some.entry.now c.next.new.self c.loop-key.entries c.in-Some.ensures.steps c.loop-key.invariant)
    (by_key p c.args.map.now c.args.from c.in-Some.key.now c.in-Some.entry.now c.next.new.self c.loop-key.entries c.in-Some.ensures.steps c.loop-key.invariant ∙ ap p (sym c.get.ensures) ∙ sym c.evicts.ensures ∙ c.if-evicts.true)

pub returns : goal.returns
returns g c =
    let p = g.T.EntryTest.evicted c.args.test.now in
    rest_none key_cmp (has_passing key_cmp p c.args.map.now) c.args.map.now c.args.from Unbounded key_total key_exact
    (subst (IsRest key_cmp (has_passing key_cmp p c.args.map.now) c.args.map.now c.args.from Unbounded) c.in_default.ensures.steps.0 c.loop-key.invariant)
