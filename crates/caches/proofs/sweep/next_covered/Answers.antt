use Rattle.std.proofs.Common.{◌≡◌, ◌∙◌, sym, ap, subst, is_ge, List, [], ◌∷◌}
use Rattle.std.proofs.lemmas.List.Elements.{All-head}
use Rattle.std.specs.BTreeMap.{BTreeMap}
use Rattle.std.specs.BTreeMap.Range.{IsEntryInRange}
use Rattle.std.specs.declared.ops.Bound.{Bound}
use Rattle.std.specs.declared.ops.Bound.TheVariants.{Included, Unbounded}
use Rattle.cmdcodec.specs.declared.command.Command.{Command}
use Rattle.caches.specs.declared.key.Key.{Key}
use Rattle.caches.specs.declared.tag.Entry.{Entry}
use Rattle.caches.specs.Blocks.{IsBlock}
use Rattle.caches.specs.Covers.{covers}
use Rattle.caches.specs.Keys.{covers_key, tag_of, IsKept}
use Rattle.caches.specs.Sweep.{IsKeeping}
use Rattle.caches.proofs.KeyOrder.{key_cmp, key_total, key_exact}
use Rattle.caches.proofs.Rest.{IsRest, IsPast, rest_start, rest_more, rest_next, rest_past, rest_last}
use Rattle.caches.proofs.sweep.next_covered.Goals as goal
use Rattle.caches.proofs.sweep.next_covered.Goals.{in-Some-next, in-None}

module _ (command : Command) (m : BTreeMap Key Entry) (from end : Bound Key) (keeping : IsKeeping key_cmp m) (k : Key) (e : Entry) (t all : List (Key × Entry)) (is : all ≡ (k, e) ∷ t) (rest : IsRest key_cmp (covers_key command) m from end all) where
  here : IsRest key_cmp (covers_key command) m from end ((k, e) ∷ t)
  here = subst (IsRest key_cmp (covers_key command) m from end) is rest

  kept : IsKept (tag_of k) e
  kept = keeping k e (All-head (IsEntryInRange key_cmp from end m) (k, e) t here.among).1

  is_covered : covers_key command k ≡ covers command e.tag
  is_covered = sym (ap (covers command) kept.own)

pub loop-key-init : goal.loop-key-init
loop-key-init c = rest_start key_cmp (covers_key c.args.command.now) c.args.map.now (Included c.args.from) Unbounded key_total key_exact c.range-entries.result (c.range-entries.ensures.between tt) c.range-entries.ensures.ordered (c.range-entries.ensures.in_range tt).0

pub covers-requires : goal.covers-requires
covers-requires c =
    let k = kept c.args.command.now c.args.map.now (Included c.args.from) Unbounded c.requires.keeping c.in-Some.key.now c.in-Some.entry.now c.next.new.self c.loop-key.entries c.in-Some.ensures.steps c.loop-key.invariant in
    subst (λ (e : Entry). IsBlock e.tag) (sym c.get.ensures) (subst IsBlock (sym k.own) k.well_formed)

pub loop-key-preserved : goal.loop-key-preserved
loop-key-preserved c =
    rest_more key_cmp (covers_key c.args.command.now) c.args.map.now (Included c.args.from) Unbounded key_total key_exact (c.in-Some.key.now, c.in-Some.entry.now) c.next.new.self
    (here c.args.command.now c.args.map.now (Included c.args.from) Unbounded c.requires.keeping c.in-Some.key.now c.in-Some.entry.now c.next.new.self c.loop-key.entries c.in-Some.ensures.steps c.loop-key.invariant)
    (is_covered c.args.command.now c.args.map.now (Included c.args.from) Unbounded c.requires.keeping c.in-Some.key.now c.in-Some.entry.now c.next.new.self c.loop-key.entries c.in-Some.ensures.steps c.loop-key.invariant ∙ ap (λ (e : Entry). covers c.args.command.now e.tag) (sym c.get.ensures) ∙ sym c.covers.ensures ∙ c.if-covers.false)

pub returns-then-is_ge-clause-next : goal.returns-then-is_ge-clause-next
returns-then-is_ge-clause-next c =
    rest_past key_cmp (covers_key c.args.command.now) c.args.map.now (Included c.args.from) key_total key_exact c.args.end ((c.in-Some.key.now, c.in-Some.entry.now) ∷ c.next.new.self)
    (here c.args.command.now c.args.map.now (Included c.args.from) Unbounded c.requires.keeping c.in-Some.key.now c.in-Some.entry.now c.next.new.self c.loop-key.entries c.in-Some.ensures.steps c.loop-key.invariant)
    (sym (ap is_ge c.cmp.ensures) ∙ sym c.is_ge.ensures ∙ c.if-is_ge.true)

pub returns-then-covers-clause-next : goal.returns-then-covers-clause-next
returns-then-covers-clause-next c =
    rest_next key_cmp (covers_key c.args.command.now) c.args.map.now (Included c.args.from) key_total key_exact c.args.end (c.in-Some.key.now, c.in-Some.entry.now) c.next.new.self
    (here c.args.command.now c.args.map.now (Included c.args.from) Unbounded c.requires.keeping c.in-Some.key.now c.in-Some.entry.now c.next.new.self c.loop-key.entries c.in-Some.ensures.steps c.loop-key.invariant)
    (sym (ap is_ge c.cmp.ensures) ∙ sym c.is_ge.ensures ∙ c.if-is_ge.false)
    (is_covered c.args.command.now c.args.map.now (Included c.args.from) Unbounded c.requires.keeping c.in-Some.key.now c.in-Some.entry.now c.next.new.self c.loop-key.entries c.in-Some.ensures.steps c.loop-key.invariant ∙ ap (λ (e : Entry). covers c.args.command.now e.tag) (sym c.get.ensures) ∙ sym c.covers.ensures ∙ c.if-covers.true)

pub returns-then-covers-clause-last : goal.returns-then-covers-clause-last
returns-then-covers-clause-last c = λ last.
    rest_last key_cmp (covers_key c.args.command.now) c.args.map.now (Included c.args.from) key_total key_exact c.args.end (c.in-Some.key.now, c.in-Some.entry.now) c.next.new.self
    (here c.args.command.now c.args.map.now (Included c.args.from) Unbounded c.requires.keeping c.in-Some.key.now c.in-Some.entry.now c.next.new.self c.loop-key.entries c.in-Some.ensures.steps c.loop-key.invariant)
    (elim c.match-next-2.branch [
      | in-Some-next w ↦ subst (IsPast key_cmp (covers_key c.args.command.now) c.args.map.now (Included c.args.from) key_total key_exact c.args.end) (sym w.in-Some-next.ensures.steps) (sym (ap is_ge w.cmp-in-Some-next.ensures) ∙ sym w.is_ge-is_last.ensures ∙ sym w.is_last-is ∙ last)
      | in-None w ↦ subst (IsPast key_cmp (covers_key c.args.command.now) c.args.map.now (Included c.args.from) key_total key_exact c.args.end) (sym w.in-None.ensures.steps.0) tt
    ])

pub returns-clause-next : goal.returns-clause-next
returns-clause-next c =
    rest_past key_cmp (covers_key c.args.command.now) c.args.map.now (Included c.args.from) key_total key_exact c.args.end []
    (subst (IsRest key_cmp (covers_key c.args.command.now) c.args.map.now (Included c.args.from) Unbounded) c.in_default.ensures.steps.0 c.loop-key.invariant)
    tt
