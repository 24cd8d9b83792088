-- A unit that took nothing stays settled and tracked.
use Rattle.std.proofs.Common.{◌≡◌, ℕ, Bool, true, false, cond, List, [], length, append-nil, refl, sym, ap, subst, Result, Ok, Err, Option}
use Rattle.std.specs.Prelude.{⊤}
use Rattle.std.specs.Result.{OnOk, OnErr}
use Rattle.std.specs.Option.{is_some}
use Rattle.ringcore.specs.world.World.{Taken}
use Rattle.caches.specs.Held.{holds_passing, is_older}
use Rattle.caches.specs.declared.tag.Tag.{Tag}
use Rattle.caches.specs.declared.tag.Entry.{Entry}
use Rattle.caches.specs.declared.fault.CacheFault.{CacheFault}
use Rattle.engine.specs.Counting.{taken}
use Rattle.engine.specs.Settled.{IsSettled}
use Rattle.engine.specs.Units.{UnitValue, StaysSettled, HasLost, HasLostOlder}
use Rattle.engine.specs.declared.queue_unit.QueueUnit.{QueueUnit}
use Rattle.engine.specs.declared.queue_unit.StopRemedy.{StopRemedy}
use Rattle.engine.specs.declared.remedy.AckFault.{AckFault}
use Rattle.engine.specs.QueueUnits.{acknowledged_with}
use Rattle.engine.proofs.Settlings.{settled_fill, settled_evict, settled_without}
use Rattle.transactions.specs.Tracking.{IsTracked, StaysTracked}
use Rattle.transactions.specs.TrackedQueueUnits.{TrackedQueueValue, tracked_in, with_queue, with_its_unit, with_filled_queue, with_evicted_queue}
use Rattle.smmuq_c.specs.Calls.{TakesNone}

-- All that was settled for as many commands as were taken is settled for the same.
settles : (old new : UnitValue) → ((list : List Taken) → length list ≡ taken old.counts → IsSettled old.caches.entries list → IsSettled new.caches.entries list) → StaysSettled old new []
settles old new keeps list many settled = subst (λ (l : List Taken). IsSettled new.caches.entries l) (sym (append-nil list)) (keeps list many settled)

pub stays : (unit : UnitValue) → StaysSettled unit unit []
stays unit = settles unit unit (λ list many settled. settled)

pub takes_none : (q : TrackedQueueValue) → TakesNone q q
takes_none q = record {
  settled = stays q.queue.unit;
  tracked = λ list tracked. subst (λ (l : List Taken). IsTracked (tracked_in q) l) (sym (append-nil list)) tracked;
}

-- ---- a fill

module _ (tag : Tag) (value : ℕ) (old new : TrackedQueueValue) where
  pub filled_rest : (r : Result (Option Entry) CacheFault) → OnOk r (new ≡ with_filled_queue tag value old) → OnErr r (new ≡ old) → new ≡ with_its_unit new.queue.unit old
  filled_rest (Ok was) ok err = subst (λ (q : TrackedQueueValue). q ≡ with_its_unit q.queue.unit old) (sym ok) refl
  filled_rest (Err fault) ok err = subst (λ (q : TrackedQueueValue). q ≡ with_its_unit q.queue.unit old) (sym err) refl

  pub filled_ok : (r : Result (Option Entry) CacheFault) → OnOk r (new ≡ with_filled_queue tag value old) → OnOk r (new.queue.unit ≡ (with_filled_queue tag value old).queue.unit)
  filled_ok (Ok was) ok = ap (λ (q : TrackedQueueValue). q.queue.unit) ok
  filled_ok (Err fault) ok = ok

  pub filled_err : (r : Result (Option Entry) CacheFault) → OnErr r (new ≡ old) → OnErr r (new.queue.unit ≡ old.queue.unit)
  filled_err (Ok was) err = err
  filled_err (Err fault) err = ap (λ (q : TrackedQueueValue). q.queue.unit) err

  filled_settled : (r : Result (Option Entry) CacheFault) → OnOk r (new ≡ with_filled_queue tag value old) → OnErr r (new ≡ old) → StaysSettled old.queue.unit new.queue.unit []
  filled_settled (Ok was) ok err =
      subst (λ (q : TrackedQueueValue). StaysSettled old.queue.unit q.queue.unit []) (sym ok)
      (settles old.queue.unit (with_filled_queue tag value old).queue.unit (λ list many settled. settled_fill old.queue.unit.caches.entries list (record { tag = tag; value = value; born = taken old.queue.unit.counts }) (sym many) settled))
  filled_settled (Err fault) ok err = subst (λ (q : TrackedQueueValue). StaysSettled old.queue.unit q.queue.unit []) (sym err) (stays old.queue.unit)

  pub filled_none : (r : Result (Option Entry) CacheFault) → OnOk r (new ≡ with_filled_queue tag value old) → OnErr r (new ≡ old) → StaysTracked (tracked_in old) (tracked_in new) [] → TakesNone old new
  filled_none r ok err tracked = record { settled = filled_settled r ok err; tracked = tracked }

-- ---- evictions

pub evicted_none : (tag : Tag) (old new : TrackedQueueValue) → new ≡ with_evicted_queue tag old → StaysTracked (tracked_in old) (tracked_in new) [] → TakesNone old new
evicted_none tag old new is tracked = record {
  settled = subst (λ (q : TrackedQueueValue). StaysSettled old.queue.unit q.queue.unit []) (sym is)
      (settles old.queue.unit (with_evicted_queue tag old).queue.unit (λ list many settled. settled_evict old.queue.unit.caches.entries list tag settled));
  tracked = tracked;
}

pub lost_none : (passes : Tag → Bool) (count : ℕ) (old new : TrackedQueueValue) → HasLost passes count old.queue.unit new.queue.unit
    → StaysTracked (tracked_in old) (tracked_in new) [] → TakesNone old new
lost_none passes count old new lost tracked = record {
  settled = settles old.queue.unit new.queue.unit (λ list many settled. subst (λ (u : UnitValue). IsSettled u.caches.entries list) (sym lost.new_is)
      (settled_without old.queue.unit.caches.entries list passes settled));
  tracked = tracked;
}

pub lost_older_none : (born count : ℕ) (old new : TrackedQueueValue) → HasLostOlder born count old.queue.unit new.queue.unit
    → StaysTracked (tracked_in old) (tracked_in new) [] → TakesNone old new
lost_older_none born count old new lost tracked = record {
  settled = settles old.queue.unit new.queue.unit (λ list many settled. subst (λ (u : UnitValue). IsSettled u.caches.entries list) (sym lost.new_is)
      (settled_without old.queue.unit.caches.entries list (holds_passing (is_older born) old.queue.unit.caches.entries) settled));
  tracked = tracked;
}

-- ---- an acknowledgement

acknowledged_settled : (remedy : StopRemedy) (q : QueueUnit) → StaysSettled q.unit (acknowledged_with remedy q).unit []
acknowledged_settled remedy q = either (is_some q.found) _ _ (stays q.unit) (stays q.unit)
  where
    either : (b : Bool) (x y : QueueUnit) → StaysSettled q.unit x.unit [] → StaysSettled q.unit y.unit [] → StaysSettled q.unit (cond b x y).unit []
    either true x y first second = first
    either false x y first second = second

module _ (remedy : StopRemedy) (old new : TrackedQueueValue) where
  pub acknowledged_rest : (r : Result ⊤ AckFault) → OnOk r (new ≡ with_queue (acknowledged_with remedy old.queue) old) → OnErr r (new ≡ old) → new ≡ with_queue new.queue old
  acknowledged_rest (Ok done) ok err = subst (λ (q : TrackedQueueValue). q ≡ with_queue q.queue old) (sym ok) refl
  acknowledged_rest (Err fault) ok err = subst (λ (q : TrackedQueueValue). q ≡ with_queue q.queue old) (sym err) refl

  pub acknowledged_ok : (r : Result ⊤ AckFault) → OnOk r (new ≡ with_queue (acknowledged_with remedy old.queue) old) → OnOk r (new.queue ≡ acknowledged_with remedy old.queue)
  acknowledged_ok (Ok done) ok = ap (λ (q : TrackedQueueValue). q.queue) ok
  acknowledged_ok (Err fault) ok = ok

  pub acknowledged_err : (r : Result ⊤ AckFault) → OnErr r (new ≡ old) → OnErr r (new.queue ≡ old.queue)
  acknowledged_err (Ok done) err = err
  acknowledged_err (Err fault) err = ap (λ (q : TrackedQueueValue). q.queue) err

  settled_by : (r : Result ⊤ AckFault) → OnOk r (new ≡ with_queue (acknowledged_with remedy old.queue) old) → OnErr r (new ≡ old) → StaysSettled old.queue.unit new.queue.unit []
  settled_by (Ok done) ok err = subst (λ (q : TrackedQueueValue). StaysSettled old.queue.unit q.queue.unit []) (sym ok) (acknowledged_settled remedy old.queue)
  settled_by (Err fault) ok err = subst (λ (q : TrackedQueueValue). StaysSettled old.queue.unit q.queue.unit []) (sym err) (stays old.queue.unit)

  pub acknowledged_none : (r : Result ⊤ AckFault) → OnOk r (new ≡ with_queue (acknowledged_with remedy old.queue) old) → OnErr r (new ≡ old)
      → StaysTracked (tracked_in old) (tracked_in new) [] → TakesNone old new
  acknowledged_none r ok err tracked = record { settled = settled_by r ok err; tracked = tracked }
