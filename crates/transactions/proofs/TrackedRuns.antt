-- What commands leave that are applied one after another to a tracked unit.
use Rattle.std.proofs.Common.{◌≡◌, ◌+◌, ◌≤◌, ℕ, zero, suc, List, [], ◌∷◌, ◌++◌, None, Some, inl, inr, refl, sym, ap, subst, ◌∙◌, arith, append_assoc}
use Rattle.std.proofs.lemmas.List.{map-append}
use Rattle.std.specs.Prelude.{slice_get, take}
use Rattle.cmdcodec.specs.declared.raw.Raw.{Raw}
use Rattle.cmdcodec.specs.declared.command.Command.{Command}
use Rattle.ringcore.specs.declared.world.event.Outcome.TheVariants.{Applied as AsApplied}
use Rattle.ringcore.specs.world.World.{Taken}
use Rattle.ring.specs.consumer.Completing.{with_outcome}
use Rattle.engine.specs.declared.verdict.Verdict.TheVariants.{Applied}
use Rattle.engine.specs.Units.{AreApplied}
use Rattle.engine.proofs.Counted.{as_applied}
use Rattle.engine.proofs.Running.{take_one_more}
use Rattle.transactions.specs.Tracking.{TrackedValue, IsTracked, StaysTracked}
use Rattle.transactions.specs.TrackedVerdicts.{HasJudgedTracked}
use Rattle.transactions.specs.TrackedRuns.{AreAppliedTracked, EndsRun}

-- They were applied to its unit.
pub to_its_unit : (raws : List Raw) (removed : ℕ) (old new : TrackedValue) → AreAppliedTracked raws removed old new → AreApplied raws removed old.unit new.unit
to_its_unit [] removed old new is = (is.0, ap (λ (t : TrackedValue). t.unit) is.1)
to_its_unit (raw ∷ raws) removed old new (between, command, first, rest, one, more, sum) =
    (between.unit, command, first, rest, one.judged, to_its_unit raws rest between new more, sum)

-- One more is applied after them.
one_more : (raws : List Raw) (removed : ℕ) (old between new : TrackedValue) → AreAppliedTracked raws removed old between
    → (raw : Raw) (command : Command) (more : ℕ) → HasJudgedTracked raw between new (Applied command more) → AreAppliedTracked (raws ++ raw ∷ []) (removed + more) old new
one_more [] removed old between new is raw command more last =
    let start : between ≡ old = is.1 in
    let none = is.0 in
    let sum : removed + more ≡ more + 0 = omega (arith, none) in
    (new, command, more, 0, subst (λ (t : TrackedValue). HasJudgedTracked raw t new (Applied command more)) start last, (refl, refl), sum)
one_more (r ∷ raws) removed old between new (u, c, first, rest, one, others, sum) raw command more last =
    (u, c, first, rest + more, one, one_more raws rest u between new others raw command more last, (let s = sum in let e : removed + more ≡ first + (rest + more) = omega (arith, s) in e))

-- If none was applied, nothing changed.
pub none_applied : (raws : List Raw) (n removed : ℕ) (old new : TrackedValue) → AreAppliedTracked (take n raws) removed old new → n ≤ 0 → new ≡ old
none_applied raws zero removed old new is none = is.1
none_applied raws (suc n) removed old new is none = absurd (omega (arith, none))

-- ---- the command at the next place of a run

module _ (raws : List Raw) (place : ℕ) (raw : Raw) (at : slice_get raws place ≡ Some raw) (old between new : TrackedValue) where
  pub next_applied : (removed : ℕ) (command : Command) (more : ℕ) → AreAppliedTracked (take place raws) removed old between → HasJudgedTracked raw between new (Applied command more)
      → AreAppliedTracked (take (place + 1) raws) (removed + more) old new
  next_applied removed command more before one =
      subst (λ (xs : List Raw). AreAppliedTracked xs (removed + more) old new) (sym (take_one_more raws place raw at)) (one_more (take place raws) removed old between new before raw command more one)

  pub next_tracked : StaysTracked old between (as_applied (take place raws)) → StaysTracked between new (with_outcome AsApplied raw ∷ []) → StaysTracked old new (as_applied (take (place + 1) raws))
  next_tracked before one list is =
      subst (λ (more : List Taken). IsTracked new (list ++ more)) (sym (ap as_applied (take_one_more raws place raw at) ∙ map-append (with_outcome AsApplied) (take place raws) (raw ∷ [])))
      (subst (IsTracked new) (append_assoc list (as_applied (take place raws)) (with_outcome AsApplied raw ∷ [])) (one (list ++ as_applied (take place raws)) (before list is)))

-- ---- the first command of a run, where none was applied

-- A command ahead of which a run ends isn't applied.
pub ends_or_applies : (raw : Raw) (old new : TrackedValue) (command : Command) (removed : ℕ) → EndsRun old raw → HasJudgedTracked raw old new (Applied command removed) → ⊥
ends_or_applies raw old new command removed (inl ill) is = let none : None ≡ Some ill.0 = sym is.judged.legal.legal ∙ ill.1 in absurd (cc)
ends_or_applies raw old new command removed (inr waits) is =
    let none = is.none_waited_for waits.0 in
    let some = waits.1 in absurd (omega (arith, none, some))

pub first_at : {A : Type 0} (xs : List A) (n : ℕ) (x : A) → n ≤ 0 → slice_get xs 0 ≡ Some x → slice_get xs n ≡ Some x
first_at xs zero x none at = at
first_at xs (suc n) x none at = absurd (omega (arith, none))
