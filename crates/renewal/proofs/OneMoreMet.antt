-- One more sender has met the engine.
use Rattle.std.proofs.Common.{◌≡◌, ◌<◌, ◌+◌, ℕ, zero, suc, List, [], ◌∷◌, ◌++◌, Some, refl, sym, ap, ◌∙◌, subst, below_more, arith, cond, true, false}
use Rattle.std.proofs.lemmas.List.{append_assoc}
use Rattle.std.specs.Prelude.{slice_get, slice_set}
use Rattle.ringcore.specs.declared.world.event.Who.{Who}
use Rattle.ringcore.specs.declared.world.event.Who.TheVariants.{Consumer, Sender}
use Rattle.ringcore.specs.world.Trails.{Run, Trail, same, trail_of}
use Rattle.ring.specs.Rings.{RingValue}
use Rattle.ring.specs.table.Rule.{WentOn}
use Rattle.ringcore.specs.declared.world.event.Event.{Event}
use Rattle.ring.specs.table.Histories.{IsHistory, GrewBy}
use Rattle.ring.specs.sender.Senders.{SenderValue}
use Rattle.ring.specs.Finishing.{AreAll}
use Rattle.engine.specs.Engines.{EngineValue}
use Rattle.renewal.specs.Queues.{HasInIt, unknowing_sender, unknowing_consumer}
use Rattle.renewal.specs.Meetings.{IsOfSize, FirstHaveMet}
use Rattle.renewal.proofs.Twins.{set_same, has_twin}

get_set_here : (xs : List SenderValue) (i : ℕ) (s t : SenderValue) → slice_get xs i ≡ Some s → slice_get (slice_set xs i t) i ≡ Some t
get_set_here [] i s t at = absurd (cc)
get_set_here (x ∷ xs) zero s t at = refl
get_set_here (x ∷ xs) (suc i) s t at = get_set_here xs i s t at

get_set_other : (xs : List SenderValue) (i k : ℕ) (t : SenderValue) → k < i → slice_get (slice_set xs i t) k ≡ slice_get xs k
get_set_other [] i k t apart = refl
get_set_other (x ∷ xs) zero k t apart = absurd (omega arith)
get_set_other (x ∷ xs) (suc i) zero t apart = refl
get_set_other (x ∷ xs) (suc i) (suc k) t apart = get_set_other xs i k t (omega arith)

some_same : (a b : SenderValue) → Some a ≡ Some b → a ≡ b
some_same a b e = cc

pub trail-append : (who : Who) (xs ys : Run) → trail_of who (xs ++ ys) ≡ trail_of who xs ++ trail_of who ys
trail-append who [] ys = refl
trail-append who (x ∷ xs) ys =
    let more = trail-append who xs ys in
    elim (same who x.0) as (λ b. cond b (x.1 ∷ trail_of who (xs ++ ys)) (trail_of who (xs ++ ys)) ≡ cond b (x.1 ∷ trail_of who xs) (trail_of who xs) ++ trail_of who ys) [
      | true ↦ ap (λ (l : Trail). x.1 ∷ l) more
      | false ↦ more
    ]

-- What went on twice went on.
pub went_on_again : (who : Who) (first second third : Run) → WentOn who first second → WentOn who second third → WentOn who first third
went_on_again who first second third one two = record {
  newer = two.newer ++ one.newer;
  run_is = two.run_is ∙ ap (λ (r : Run). two.newer ++ r) one.run_is ∙ sym (append_assoc two.newer one.newer first);
  of_others = trail-append who two.newer one.newer ∙ (λ k. two.of_others k ++ one.of_others k);
}

pub still_in : (who other : Who) (trail : Trail) (older run : Run) → WentOn other older run → HasInIt who trail older → HasInIt who trail run
still_in who other trail older run on had = record {
  newer = on.newer ++ had.newer;
  older = had.older;
  run_is = on.run_is ∙ ap (λ (r : Run). on.newer ++ r) had.run_is ∙ sym (append_assoc on.newer had.newer had.older);
  trail_is = had.trail_is;
}

-- a sender's number and ring, by its twin among all
pub its_place : (ring : RingValue) (all senders : List SenderValue) (old now : EngineValue) (i : ℕ) (s : SenderValue) → AreAll ring all → FirstHaveMet i ring all senders old now → slice_get senders i ≡ Some s → (s.ring ≡ ring) × (s.number ≡ i)
its_place ring all senders old now i s are was at =
    let t = has_twin senders all was.senders_are i s at in
    let its = are.each i t.twin t.there in
    (ap (λ (u : SenderValue). u.ring) t.same ∙ its.0, ap (λ (u : SenderValue). u.number) t.same ∙ its.1)

module _ (ring : RingValue) (all senders : List SenderValue) (old now new : EngineValue) (i : ℕ) (s t : SenderValue) (are : AreAll ring all)
    (was : FirstHaveMet i ring all senders old now) (at : slice_get senders i ≡ Some s) (unit : new.unit ≡ now.unit)
    (consumer : unknowing_consumer new.consumer ≡ unknowing_consumer now.consumer) (sender : unknowing_sender t ≡ unknowing_sender s)
    (is : IsHistory s.ring.made_with (Sender s.number) s.trail new.consumer.history) (on : WentOn Consumer now.consumer.history new.consumer.history) where
  its : (s.ring ≡ ring) × (s.number ≡ i)
  its = its_place ring all senders old now i s are was at

  own : HasInIt (Sender i) t.trail new.consumer.history
  own = record {
    newer = [];
    older = new.consumer.history;
    run_is = refl;
    trail_is = ap (λ (n : ℕ). trail_of (Sender n) new.consumer.history) (sym its.1) ∙ is.stands.trail_is ∙ sym (ap (λ (u : SenderValue). u.trail) sender);
  }

  pub one_more_met : FirstHaveMet (i + 1) ring all (slice_set senders i t) old new
  one_more_met = record {
    senders_are = set_same senders i s t at sender ∙ was.senders_are;
    unit_is = unit ∙ was.unit_is;
    consumer_is = consumer ∙ was.consumer_is;
    went_on = went_on_again Consumer old.consumer.history now.consumer.history new.consumer.history was.went_on on;
    known = λ k u below there. below_more (λ k. (u : SenderValue) → slice_get (slice_set senders i t) k ≡ Some u → HasInIt (Sender k) u.trail new.consumer.history) i
        (λ k before u there. still_in (Sender k) Consumer u.trail now.consumer.history new.consumer.history on (was.known k u before (sym (get_set_other senders i k t before) ∙ there)))
        (λ u there. subst (λ (v : SenderValue). HasInIt (Sender i) v.trail new.consumer.history) (some_same t u (sym (get_set_here senders i s t at) ∙ there)) own)
        k below u there;
    size_is = λ some. subst IsOfSize its.0 (record { geometry_is = is.stands.after.geometry_is; limits = is.stands.limits });
  }

-- A step at the end of the run leaves it in.
pub still_behind : (who other : Who) (e : Event) (trail : Trail) (older run : Run) → GrewBy other e older run → HasInIt who trail older → HasInIt who trail run
still_behind who other e trail older run grew had =
    let before = still_in who other trail older grew.before grew.went_on had in
    record {
      newer = (other, e) ∷ before.newer;
      older = before.older;
      run_is = grew.run_is ∙ ap (λ (r : Run). (other, e) ∷ r) before.run_is;
      trail_is = before.trail_is;
    }
