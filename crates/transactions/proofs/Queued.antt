-- A tracked unit of a queue stays tracked by a judgement.
use Rattle.std.proofs.Common.{◌≡◌, ◌+◌, ◌≤◌, ℕ, Bool, true, cond, List, [], ◌++◌, length, length-append, append_assoc, false, None, refl, sym, ap, subst, ◌∙◌, arith, ⊎_elim, inl, inr, ◌⊎◌}
use Rattle.cmdcodec.specs.declared.raw.Raw.{Raw}
use Rattle.cmdcodec.specs.declared.command.Command.{Command}
use Rattle.cmdcodec.specs.Opcodes.{is_sync}
use Rattle.cmdcodec.specs.Legality.{first_ill}
use Rattle.ringcore.specs.declared.world.event.Outcome.TheVariants.{Replaced as AsReplaced}
use Rattle.ringcore.specs.world.World.{Taken}
use Rattle.engine.specs.declared.verdict.Verdict.TheVariants.{Applied, Stopped, Replaced}
use Rattle.engine.specs.declared.verdict.Judgement.{Judgement}
use Rattle.engine.specs.declared.verdict.Judgement.TheVariants as judgement
use Rattle.engine.specs.declared.queue_unit.QueueUnit.{QueueUnit}
use Rattle.engine.specs.declared.queue_unit.StopRemedy.{StopRemedy}
use Rattle.std.specs.Option.{is_some}
use Rattle.engine.specs.Counting.{taken}
use Rattle.engine.specs.Settled.{IsSettled}
use Rattle.engine.specs.Units.{UnitValue, IsApplied, HasJudgedWords, HasReplacedAwaited, StaysSettled, took_words, took_awaited}
use Rattle.engine.specs.QueueUnits.{HasJudgedAgain, HasJudgedOthers, HasJudgedNext, acknowledged_with}
use Rattle.engine.proofs.Rewritten.{one_more}
use Rattle.transactions.specs.declared.walk.WalkNumbers.{WalkNumbers}
use Rattle.transactions.specs.Since.{last_invalidations, recent_with}
use Rattle.transactions.specs.Outstanding.{Slots, TellCovered, NoneIsOverdue, HasCoveredOutstanding}
use Rattle.transactions.specs.Tracking.{TrackingValue, tracked_with, IsTracked, StaysTracked}
use Rattle.transactions.specs.Between.{HasNoted, HasTakenQueue, TakesTracked}
use Rattle.transactions.specs.TrackedQueueUnits.{TrackedQueueValue, tracked_in, CoversBy, TookNext}
use Rattle.transactions.proofs.Covering.{since_last, replaced_covered, replaced_overdue, no_concern, unit_tracked}
use Rattle.transactions.proofs.Judged.{judged_tracked}
use Rattle.transactions.proofs.Sinces.{last_more}

abbrev pub tracking_in : TrackedQueueValue → TrackingValue
tracking_in q = record { recent = q.recent; outstanding = q.outstanding; next_number = q.next_number }

-- What was noted of a judgement, after which the unit is so.
abbrev pub IsNotedBy : Raw → Judgement → UnitValue → TrackingValue → TrackingValue → Type 0
IsNotedBy raw (judgement.Applied removed) unit before after = (place : ℕ) × (place + 1 ≡ taken unit.counts) × HasNoted place raw before after
IsNotedBy raw (judgement.Stopped ill) unit before after = after ≡ before
IsNotedBy raw (judgement.Replaced ill) unit before after = after ≡ before

pub none_noted : (raw : Raw) (j : Judgement) (unit : UnitValue) (t : TrackingValue) → ((removed : ℕ) → j ≡ judgement.Applied removed → ⊥) → IsNotedBy raw j unit t t
none_noted raw (judgement.Applied removed) unit t none = absurd (none removed refl)
none_noted raw (judgement.Stopped ill) unit t none = refl
none_noted raw (judgement.Replaced ill) unit t none = refl

count_applied : (a b : ℕ) → a + 1 + b ≡ a + b + 1
count_applied a b = omega arith

-- One command more was counted.
pub applied_counts : (raw : Raw) (command : Command) (removed : ℕ) (old new : UnitValue) → IsApplied raw command removed old new → taken new.counts ≡ taken old.counts + 1
applied_counts raw command removed old new is = ap taken is.counts ∙ count_applied old.counts.applied old.counts.replaced

same_place : (place new old : ℕ) → place + 1 ≡ new → new ≡ old + 1 → place ≡ old
same_place place new old next more = omega (arith, next, more)

words_tracked : (raw : Raw) (old new : UnitValue) (j : Judgement) → HasJudgedWords raw old new j → (before after : TrackingValue) (list : List Taken)
    → taken old.counts ≡ length list → before.recent ≡ last_invalidations list → TellCovered before.outstanding list → NoneIsOverdue before.outstanding list
    → (is_sync raw ≡ true → first_ill raw ≡ None → ¬ HasCoveredOutstanding before.outstanding list)
    → IsNotedBy raw j new before after → IsSettled new.caches.entries (list ++ took_words raw j) → IsTracked (tracked_with new after) (list ++ took_words raw j)
words_tracked raw old new (judgement.Applied removed) (command, applied) before after list many recorded covered on_time waited (place, next, noted) settled =
    let is = noted command applied.legal.spelled in
    let here = same_place place (taken new.counts) (taken old.counts) next (applied_counts raw command removed old new applied) in
    judged_tracked raw old new (Applied command removed) applied before after list many recorded covered on_time waited
    (is.recent ∙ ap (λ n. recent_with n raw command before.recent) here) is.outstanding settled
words_tracked raw old new (judgement.Stopped ill) is before after list many recorded covered on_time waited same settled =
    judged_tracked raw old new (Stopped ill) is before after list many recorded covered on_time waited
    (ap (λ (t : TrackingValue). t.recent) same) (ap (λ (t : TrackingValue). t.outstanding) same) settled
words_tracked raw old new (judgement.Replaced ill) is before after list many recorded covered on_time waited same settled =
    judged_tracked raw old new (Replaced ill) is before after list many recorded covered on_time waited
    (ap (λ (t : TrackingValue). t.recent) same) (ap (λ (t : TrackingValue). t.outstanding) same) settled

-- ---- behind words that were taken without effect

module _ (list : List Taken) (awaited : Raw) where
  abbrev instead : Taken
  instead = record { raw = awaited; outcome = AsReplaced }

  waited_earlier : (slots : Slots) → HasCoveredOutstanding slots (list ++ took_awaited awaited) → HasCoveredOutstanding slots list
  waited_earlier slots h = record {
    slot = h.slot;
    outstanding = h.outstanding;
    at = h.at;
    concerned = ⊎_elim (λ old. old) (λ now. absurd (no_concern list awaited h.outstanding.used now)) (since_last list instead h.outstanding.born h.outstanding.used h.concerned);
  }

  counted_awaited : (old between : UnitValue) → HasReplacedAwaited awaited old between → taken old.counts ≡ length list → taken between.counts ≡ length (list ++ took_awaited awaited)
  counted_awaited old between replaced many =
      one_more awaited old between replaced ∙ ap (λ (n : ℕ). n + 1) many ∙ sym (length-append list (took_awaited awaited))

module _ (raw : Raw) (old new : UnitValue) (j : Judgement) (before after : TrackingValue) (noted : IsNotedBy raw j new before after) where
  abbrev Takes : List Taken → Type 0
  Takes more = TakesTracked raw (tracked_with old before) (tracked_with new after) more

  again_tracked : HasJudgedAgain raw old new j → Takes (took_words raw j)
  again_tracked again list is waited =
      words_tracked raw old new j again.judged before after list is.many is.recorded is.covered is.on_time waited noted (again.settled list (sym is.many) is.settled)

  others_tracked : (others : HasJudgedOthers raw old new j) → Takes (took_awaited others.awaited ++ took_words raw j)
  others_tracked others list is waited =
      let awaited = others.awaited in
      let first = took_awaited awaited in
      let more = took_words raw j in
      subst (IsTracked (tracked_with new after)) (append_assoc list first more)
      (words_tracked raw others.between new j others.judged before after (list ++ first)
      (counted_awaited list awaited old others.between others.replaced is.many)
      (is.recorded ∙ sym (last_more list (instead list awaited)))
      (replaced_covered list awaited before.outstanding is.covered)
      (replaced_overdue list awaited before.outstanding is.on_time)
      (λ sync legal covered. waited sync legal (waited_earlier list awaited before.outstanding covered))
      noted
      (subst (IsSettled new.caches.entries) (sym (append_assoc list first more)) (others.settled list (sym is.many) is.settled)))

  took_next : (rereads : Type 0) → HasJudgedAgain raw old new j ⊎ (rereads × HasJudgedOthers raw old new j)
      → (more : List Taken) × TookNext raw old j more × Takes more
  took_next rereads (inl again) = (took_words raw j, inl (again.comes, refl), again_tracked again)
  took_next rereads (inr (may, others)) =
      (took_awaited others.awaited ++ took_words raw j, inr (others.others, (others.awaited, others.replaced.next_is, refl)), others_tracked others)

covers_by : (raw : Raw) (unit : UnitValue) (j : Judgement) (before after : TrackingValue) → IsNotedBy raw j unit before after → CoversBy raw j before.outstanding after.outstanding
covers_by raw unit (judgement.Applied removed) before after (place, next, noted) = λ command spelled. (noted command spelled).outstanding
covers_by raw unit (judgement.Stopped ill) before after same = ap (λ (t : TrackingValue). t.outstanding) same
covers_by raw unit (judgement.Replaced ill) before after same = ap (λ (t : TrackingValue). t.outstanding) same

same_number : (raw : Raw) (old new : UnitValue) (j : Judgement) → HasJudgedWords raw old new j → (before after : TrackingValue) → IsNotedBy raw j new before after → after.next_number ≡ before.next_number
same_number raw old new (judgement.Applied removed) (command, applied) before after (place, next, noted) = (noted command applied.legal.spelled).next_number
same_number raw old new (judgement.Stopped ill) is before after same = ap (λ (t : TrackingValue). t.next_number) same
same_number raw old new (judgement.Replaced ill) is before after same = ap (λ (t : TrackingValue). t.next_number) same

number_kept : (raw : Raw) (old new : UnitValue) (j : Judgement) (before after : TrackingValue) → IsNotedBy raw j new before after
    → (rereads : Type 0) → HasJudgedAgain raw old new j ⊎ (rereads × HasJudgedOthers raw old new j) → after.next_number ≡ before.next_number
number_kept raw old new j before after noted rereads (inl again) = same_number raw old new j again.judged before after noted
number_kept raw old new j before after noted rereads (inr (may, others)) = same_number raw others.between new j others.judged before after noted

pub taken_queue : (raw : Raw) (old new : TrackedQueueValue) (j : Judgement) → HasJudgedNext raw old.queue new.queue j
    → IsNotedBy raw j new.queue.unit (tracking_in old) (tracking_in new) → new.walks ≡ old.walks → HasTakenQueue raw old new j
taken_queue raw old new j judged noted walks = record {
  judged = judged;
  covers = covers_by raw new.queue.unit j (tracking_in old) (tracking_in new) noted;
  next_number = number_kept raw old.queue.unit new.queue.unit j (tracking_in old) (tracking_in new) noted _ judged.judged;
  walks = walks;
  takes = took_next raw old.queue.unit new.queue.unit j (tracking_in old) (tracking_in new) noted _ judged.judged;
}

-- At least one was taken, if they were applied.
some_counted : (n m : ℕ) → n ≡ m + 1 → 1 ≤ n
some_counted n m is = omega (arith, is)

pub some_taken : (raw : Raw) (old new : QueueUnit) (removed : ℕ) → HasJudgedNext raw old new (judgement.Applied removed) → 1 ≤ taken new.unit.counts
some_taken raw old new removed is = by_words is.judged
  where
    by_words : {rereads : Type 0} → HasJudgedAgain raw old.unit new.unit (judgement.Applied removed) ⊎ (rereads × HasJudgedOthers raw old.unit new.unit (judgement.Applied removed)) → 1 ≤ taken new.unit.counts
    by_words (inl again) = some_counted _ _ (applied_counts raw again.judged.0 removed old.unit new.unit again.judged.1)
    by_words (inr (may, others)) = some_counted _ _ (applied_counts raw others.judged.0 removed others.between new.unit others.judged.1)

-- ---- the unit alone was called

pub acknowledged_counts : (remedy : StopRemedy) (q : QueueUnit) → taken (acknowledged_with remedy q).unit.counts ≡ taken q.unit.counts
acknowledged_counts remedy q = either (is_some q.found) _ _ refl refl
  where
    either : (b : Bool) (x y : QueueUnit) → taken x.unit.counts ≡ taken q.unit.counts → taken y.unit.counts ≡ taken q.unit.counts → taken (cond b x y).unit.counts ≡ taken q.unit.counts
    either true x y first second = first
    either false x y first second = second

pub queue_tracked : (q : TrackedQueueValue) (queue : QueueUnit) (tracking : TrackingValue) (walks : WalkNumbers) (unit : UnitValue)
    → record { queue = queue; recent = tracking.recent; outstanding = tracking.outstanding; next_number = tracking.next_number; walks = walks } ≡ q
    → taken unit.counts ≡ taken queue.unit.counts → StaysSettled queue.unit unit [] → StaysTracked (tracked_in q) (tracked_with unit tracking) []
queue_tracked q queue tracking walks unit is same settles =
    subst (λ (v : TrackedQueueValue). StaysTracked (tracked_in v) (tracked_with unit tracking) []) is (λ list tracked. unit_tracked (tracked_with queue.unit tracking) unit list tracked same settles)
