-- The counts of the commands taken, and the entries, through a step.
use Rattle.std.proofs.Common.{◌≡◌, ◌+◌, ℕ, Bool, true, false, cond, not, List, [], ◌∷◌, ◌++◌, map, Option, Some, None, sym, ap, subst, ◌∙◌, refl, arith}
use Rattle.std.proofs.lemmas.List.{append_assoc, append-nil}
use Rattle.std.specs.FinMap as finite
use Rattle.std.specs.FinMap.{get-retain_keys}
use Rattle.cmdcodec.specs.declared.raw.Raw.{Raw}
use Rattle.cmdcodec.specs.declared.command.Command.{Command}
use Rattle.cmdcodec.specs.declared.ill.Ill.{Ill}
use Rattle.cmdcodec.specs.Opcodes.{is_sync}
use Rattle.ringcore.specs.declared.world.event.Outcome.{Outcome}
use Rattle.ringcore.specs.declared.world.event.Outcome.TheVariants.{Applied, Replaced}
use Rattle.ringcore.specs.world.World.{Taken}
use Rattle.ring.specs.consumer.Completing.{with_outcome}
use Rattle.caches.specs.declared.tag.Entry.{Entry}
use Rattle.caches.specs.Covers.{covers}
use Rattle.caches.specs.TagOrder.{tag_cmp_exact}
use Rattle.engine.specs.Counting.{CountsValue, syncs_with, counted_applied, counted_replaced, how_many, is_applied, AreCountsOf}
use Rattle.engine.specs.Units.{UnitValue, IsApplied, IsReplaced, IsStoppedAt, AreApplied, OnlyRemoves}

abbrev pub as_applied : List Raw → List Taken
as_applied raws = map (with_outcome Applied) raws

-- ---- counts

-- For every list that has the old counts, the list with these appended has the new ones.
abbrev pub StaysCounted : UnitValue → UnitValue → List Taken → Type 0
StaysCounted old new more = (list : List Taken) → AreCountsOf list old.counts → AreCountsOf (list ++ more) new.counts

how_many_append : (is_so : Taken → Bool) (xs ys : List Taken) → how_many is_so (xs ++ ys) ≡ how_many is_so xs + how_many is_so ys
how_many_append is_so [] ys = omega arith
how_many_append is_so (x ∷ xs) ys = let more = how_many_append is_so xs ys in omega (arith, more)

one_more : (is_so : Taken → Bool) (list : List Taken) (t : Taken) → how_many is_so (list ++ t ∷ []) ≡ how_many is_so list + cond (is_so t) 1 0
one_more is_so list t = let more = how_many_append is_so list (t ∷ []) in omega (arith, more)

syncs_more : (raw : Raw) (n : ℕ) → syncs_with raw n ≡ n + cond (is_sync raw) 1 0
syncs_more raw n = by_opcode (is_sync raw)
  where
    by_opcode : (b : Bool) → cond b (n + 1) n ≡ n + cond b 1 0
    by_opcode true = refl
    by_opcode false = omega arith

applied_counts : (list : List Taken) (raw : Raw) (removed : ℕ) (c : CountsValue) → AreCountsOf list c
    → AreCountsOf (list ++ with_outcome Applied raw ∷ []) (counted_applied raw removed c)
applied_counts list raw removed c are = record {
  applied = let a = are.applied in let more = one_more (λ t. is_applied t.outcome) list (with_outcome Applied raw) in omega (arith, a, more);
  replaced = let r = are.replaced in let more = one_more (λ t. not (is_applied t.outcome)) list (with_outcome Applied raw) in omega (arith, r, more);
  syncs =
      let s = are.syncs in
      let more = one_more (λ t. is_sync t.raw) list (with_outcome Applied raw) in
      let one = syncs_more raw c.syncs in
      omega (arith, s, more, one);
}

replaced_counts : (list : List Taken) (raw : Raw) (c : CountsValue) → AreCountsOf list c
    → AreCountsOf (list ++ with_outcome Replaced raw ∷ []) (counted_replaced raw c)
replaced_counts list raw c are = record {
  applied = let a = are.applied in let more = one_more (λ t. is_applied t.outcome) list (with_outcome Replaced raw) in omega (arith, a, more);
  replaced = let r = are.replaced in let more = one_more (λ t. not (is_applied t.outcome)) list (with_outcome Replaced raw) in omega (arith, r, more);
  syncs =
      let s = are.syncs in
      let more = one_more (λ t. is_sync t.raw) list (with_outcome Replaced raw) in
      let one = syncs_more raw c.syncs in
      omega (arith, s, more, one);
}

pub applied_counted : (raw : Raw) (command : Command) (removed : ℕ) (old new : UnitValue) → IsApplied raw command removed old new
    → StaysCounted old new (with_outcome Applied raw ∷ [])
applied_counted raw command removed old new is list are =
    subst (AreCountsOf (list ++ with_outcome Applied raw ∷ [])) (sym is.counts) (applied_counts list raw removed old.counts are)

pub replaced_counted : (raw : Raw) (ill : Ill) (old new : UnitValue) → IsReplaced raw ill old new → StaysCounted old new (with_outcome Replaced raw ∷ [])
replaced_counted raw ill old new is list are =
    subst (λ (u : UnitValue). AreCountsOf (list ++ with_outcome Replaced raw ∷ []) u.counts) (sym is.new_is) (replaced_counts list raw old.counts are)

pub same_words : (old new : UnitValue) (outcome : Outcome) (raw other : Raw) → raw ≡ other → StaysCounted old new (with_outcome outcome raw ∷ [])
    → StaysCounted old new (with_outcome outcome other ∷ [])
same_words old new outcome raw other same keeps = subst (λ (r : Raw). StaysCounted old new (with_outcome outcome r ∷ [])) same keeps

pub run_counted : (raws : List Raw) (removed : ℕ) (old new : UnitValue) → AreApplied raws removed old new → StaysCounted old new (as_applied raws)
run_counted [] removed old new is list are =
    subst (λ (l : List Taken). AreCountsOf l new.counts) (sym (append-nil list)) (subst (λ (u : UnitValue). AreCountsOf list u.counts) (sym is.1) are)
run_counted (raw ∷ raws) removed old new (between, command, first, rest, one, more, sum) list are =
    subst (λ (l : List Taken). AreCountsOf l new.counts) (append_assoc list (with_outcome Applied raw ∷ []) (as_applied raws))
    (run_counted raws rest between new more (list ++ with_outcome Applied raw ∷ []) (applied_counted raw command first old between one list are))

-- ---- entries

pub same_removes : (old new : UnitValue) → new ≡ old → OnlyRemoves old new
same_removes old new is = subst (OnlyRemoves old) (sym is) (record { held = λ tag entry at. at; counted = refl })

pub applied_removes : (raw : Raw) (command : Command) (removed : ℕ) (old new : UnitValue) → IsApplied raw command removed old new → OnlyRemoves old new
applied_removes raw command removed old new is = record {
  held = λ tag entry at.
      kept_at (covers command tag) (finite.get old.caches.entries tag) entry
      (sym (get-retain_keys old.caches.entries (λ t. not (covers command t)) tag (λ x e. ap (λ y. not (covers command y)) (sym (tag_cmp_exact tag x e))))
      ∙ (sym (ap (λ entries. finite.get entries tag) is.entries) ∙ at));
  counted =
      let more : new.counts.removed ≡ old.counts.removed + removed = ap (λ (c : CountsValue). c.removed) is.counts in
      let gone = is.removed_are in
      omega (arith, more, gone);
}
  where
    kept_at : (b : Bool) (was : Option Entry) (entry : Entry) → cond (not b) was None ≡ Some entry → was ≡ Some entry
    kept_at true was entry e = absurd (cc)
    kept_at false was entry e = e

pub run_removes : (raws : List Raw) (removed : ℕ) (old new : UnitValue) → AreApplied raws removed old new → OnlyRemoves old new
run_removes [] removed old new is = same_removes old new is.1
run_removes (raw ∷ raws) removed old new (between, command, first, rest, one, more, sum) =
    let before = applied_removes raw command first old between one in
    let behind = run_removes raws rest between new more in
    record {
      held = λ tag entry at. before.held tag entry (behind.held tag entry at);
      counted = let b = before.counted in let c = behind.counted in omega (arith, b, c);
    }

pub stopped_removes : (raw : Raw) (ill : Ill) (old new : UnitValue) → IsStoppedAt raw ill old new → OnlyRemoves old new
stopped_removes raw ill old new is = subst (OnlyRemoves old) (sym is.new_is) (record { held = λ tag entry at. at; counted = refl })

pub replaced_removes : (raw : Raw) (ill : Ill) (old new : UnitValue) → IsReplaced raw ill old new → OnlyRemoves old new
replaced_removes raw ill old new is = subst (OnlyRemoves old) (sym is.new_is) (record { held = λ tag entry at. at; counted = refl })
