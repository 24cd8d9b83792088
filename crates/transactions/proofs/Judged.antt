-- A unit stays tracked by a verdict.
use Rattle.std.proofs.Common.{◌≡◌, ◌+◌, ◌<◌, ℕ, Bool, true, false, cond, List, [], ◌∷◌, ◌++◌, length, length-append, None, Some, refl, sym, ap, subst, ◌∙◌, arith, append-nil}
use Rattle.circular_buffer.specs.Buffer.{keep_last}
use Rattle.cmdcodec.specs.declared.raw.Raw.{Raw}
use Rattle.cmdcodec.specs.declared.command.Command.{Command}
use Rattle.ringcore.specs.declared.world.event.Outcome.TheVariants.{Applied as AsApplied, Replaced as AsReplaced}
use Rattle.ringcore.specs.world.World.{Taken}
use Rattle.engine.specs.declared.verdict.Verdict.{Verdict}
use Rattle.engine.specs.declared.verdict.Verdict.TheVariants.{Applied, Stopped, Replaced}
use Rattle.engine.specs.Counting.{taken}
use Rattle.engine.specs.Units.{UnitValue, HasJudged, took}
use Rattle.transactions.specs.declared.recent_invalidations.Invalidation.{Invalidation}
use Rattle.transactions.specs.Coverage.{is_invalidation}
use Rattle.transactions.specs.Since.{last_invalidations, recent_after}
use Rattle.cmdcodec.specs.Opcodes.{is_sync}
use Rattle.cmdcodec.specs.Legality.{first_ill}
use Rattle.transactions.specs.Outstanding.{Slots, covered_by, TellCovered, NoneIsOverdue, HasCoveredOutstanding}
use Rattle.engine.specs.Settled.{IsSettled}
use Rattle.transactions.specs.Tracking.{TrackedValue, TrackingValue, tracked_with, IsTracked, StaysTracked}
use Rattle.transactions.specs.TrackedVerdicts.{IsLegalSync, HasToWait, waited_for}
use Rattle.transactions.specs.Between.{IsWaitAnswer, TakesTracked}
use Rattle.transactions.proofs.Covering.{are_covered, none_overdue, replaced_covered, replaced_overdue, waits_for, has_to_wait}
use Rattle.transactions.proofs.Sinces.{last_more}
use Rattle.transactions.proofs.Spelled.{applied_kind}

one_more : (a b n m : ℕ) → a ≡ b + 1 → b ≡ n → m ≡ n + 1 → a ≡ m
one_more a b n m x y z = omega (arith, x, y, z)

count_applied : (a b : ℕ) → a + 1 + b ≡ a + b + 1
count_applied a b = omega arith

count_replaced : (a b : ℕ) → a + (b + 1) ≡ a + b + 1
count_replaced a b = omega arith

-- How many were taken, and what is kept.
pub many_now : (raw : Raw) (old new : UnitValue) (v : Verdict) → HasJudged raw old new v → (list : List Taken) → taken old.counts ≡ length list → taken new.counts ≡ length (list ++ took raw v)
many_now raw old new (Applied command removed) is list many =
    one_more (taken new.counts) (taken old.counts) (length list) (length (list ++ took raw (Applied command removed)))
    (ap taken is.counts ∙ count_applied old.counts.applied old.counts.replaced) many (length-append list (took raw (Applied command removed)))
many_now raw old new (Stopped ill) is list many =
    ap (λ (u : UnitValue). taken u.counts) is.new_is ∙ many ∙ ap (λ (l : List Taken). length l) (sym (append-nil list))
many_now raw old new (Replaced ill) is list many =
    one_more (taken new.counts) (taken old.counts) (length list) (length (list ++ took raw (Replaced ill)))
    (ap (λ (u : UnitValue). taken u.counts) is.new_is ∙ count_replaced old.counts.applied old.counts.replaced) many (length-append list (took raw (Replaced ill)))

pub recorded_now : (raw : Raw) (old new : UnitValue) (v : Verdict) → HasJudged raw old new v → (list : List Taken) → taken old.counts ≡ length list
    → (kept : List Invalidation) → kept ≡ last_invalidations list → recent_after (taken old.counts) raw v kept ≡ last_invalidations (list ++ took raw v)
recorded_now raw old new (Applied command removed) is list many kept same =
    by_kind (is_invalidation command)
    ∙ sym (ap (λ b. cond b (keep_last 65 (last_invalidations list ++ record { place = length list; raw = raw } ∷ [])) (last_invalidations list)) (applied_kind raw command is.legal.spelled))
    ∙ sym (last_more list (record { raw = raw; outcome = AsApplied }))
  where
    by_kind : (b : Bool) → cond b (keep_last 65 (kept ++ record { place = taken old.counts; raw = raw } ∷ [])) kept
        ≡ cond b (keep_last 65 (last_invalidations list ++ record { place = length list; raw = raw } ∷ [])) (last_invalidations list)
    by_kind true = λ k. keep_last 65 (same k ++ record { place = many k; raw = raw } ∷ [])
    by_kind false = same
recorded_now raw old new (Stopped ill) is list many kept same = same ∙ ap last_invalidations (sym (append-nil list))
recorded_now raw old new (Replaced ill) is list many kept same = same ∙ sym (last_more list (record { raw = raw; outcome = AsReplaced }))

pub covered_now : (raw : Raw) (old new : UnitValue) (v : Verdict) → HasJudged raw old new v → (list : List Taken) (slots : Slots) → TellCovered slots list → TellCovered (covered_by v slots) (list ++ took raw v)
covered_now raw old new (Applied command removed) is list slots covered = are_covered list raw command is.legal.spelled is.legal.alone slots covered
covered_now raw old new (Stopped ill) is list slots covered = subst (TellCovered slots) (sym (append-nil list)) covered
covered_now raw old new (Replaced ill) is list slots covered = replaced_covered list raw slots covered

pub on_time_now : (raw : Raw) (old new : UnitValue) (v : Verdict) → HasJudged raw old new v → (list : List Taken) (slots : Slots) → TellCovered slots list → NoneIsOverdue slots list
    → (is_sync raw ≡ true → first_ill raw ≡ None → ¬ HasCoveredOutstanding slots list) → NoneIsOverdue (covered_by v slots) (list ++ took raw v)
on_time_now raw old new (Applied command removed) is list slots covered on_time waited =
    none_overdue list raw command is.legal.spelled is.legal.alone slots covered on_time (λ sync. waited sync is.legal.legal)
on_time_now raw old new (Stopped ill) is list slots covered on_time waited = subst (NoneIsOverdue slots) (sym (append-nil list)) on_time
on_time_now raw old new (Replaced ill) is list slots covered on_time waited = replaced_overdue list raw slots on_time

-- ---- waiting

some_count : (n m : ℕ) → n ≡ m → 0 < n → 0 < m
some_count n m is some = omega (arith, is, some)

none_count : (n : ℕ) → n ≡ 0 → 0 < n → ⊥
none_count n is some = omega (arith, is, some)

module _ (raw : Raw) (old : TrackedValue) where
  pub waits_for_some : (n : ℕ) → IsWaitAnswer raw old.outstanding (Some n) → (n ≡ waited_for old) × HasToWait old raw
  waits_for_some n must = (must.2, ((must.0, must.1), some_count _ _ must.2 must.3))

  pub must_wait : (n : ℕ) → IsWaitAnswer raw old.outstanding (Some n) → (list : List Taken) → IsTracked old list → IsLegalSync raw × HasCoveredOutstanding old.outstanding list
  must_wait n must list is = ((must.0, must.1), waits_for old.outstanding list is.covered (some_count _ _ must.2 must.3))

  pub need_not_wait : IsWaitAnswer raw old.outstanding None → (list : List Taken) → IsTracked old list → IsLegalSync raw × HasCoveredOutstanding old.outstanding list → ⊥
  need_not_wait free list is all = none_count _ (free all.0.0 all.0.1) (has_to_wait old.outstanding list is.covered all.1)

  -- What is asked of a command that is taken holds of one that needn't wait.
  pub needs_no_wait : (new : TrackedValue) (more : List Taken) → IsWaitAnswer raw old.outstanding None → TakesTracked raw old new more → StaysTracked old new more
  needs_no_wait new more free takes list is = takes list is (λ sync legal covered. need_not_wait free list is ((sync, legal), covered))

-- What is known before and after a verdict: the unit is tracked for what that takes.
pub judged_tracked : (raw : Raw) (old new : UnitValue) (v : Verdict) → HasJudged raw old new v → (before after : TrackingValue) (list : List Taken)
    → taken old.counts ≡ length list → before.recent ≡ last_invalidations list → TellCovered before.outstanding list → NoneIsOverdue before.outstanding list
    → (is_sync raw ≡ true → first_ill raw ≡ None → ¬ HasCoveredOutstanding before.outstanding list)
    → after.recent ≡ recent_after (taken old.counts) raw v before.recent → after.outstanding ≡ covered_by v before.outstanding
    → IsSettled new.caches.entries (list ++ took raw v) → IsTracked (tracked_with new after) (list ++ took raw v)
judged_tracked raw old new v judged before after list many recorded covered on_time waited recent_is outstanding_is settled = record {
  many = many_now raw old new v judged list many;
  settled = settled;
  recorded = recent_is ∙ recorded_now raw old new v judged list many before.recent recorded;
  covered = subst (λ (s : Slots). TellCovered s (list ++ took raw v)) (sym outstanding_is) (covered_now raw old new v judged list before.outstanding covered);
  on_time = subst (λ (s : Slots). NoneIsOverdue s (list ++ took raw v)) (sym outstanding_is) (on_time_now raw old new v judged list before.outstanding covered on_time waited);
}

-- Where nothing was applied, nothing is kept and nothing covered.
pub same_recent : (place : ℕ) (raw : Raw) (v : Verdict) (kept : List Invalidation) → ((command : Command) (removed : ℕ) → v ≡ Applied command removed → ⊥) → kept ≡ recent_after place raw v kept
same_recent place raw (Applied command removed) kept none = absurd (none command removed refl)
same_recent place raw (Stopped ill) kept none = refl
same_recent place raw (Replaced ill) kept none = refl

pub same_slots : (v : Verdict) (slots : Slots) → ((command : Command) (removed : ℕ) → v ≡ Applied command removed → ⊥) → slots ≡ covered_by v slots
same_slots (Applied command removed) slots none = absurd (none command removed refl)
same_slots (Stopped ill) slots none = refl
same_slots (Replaced ill) slots none = refl
