-- What an acknowledgement of a forwarder does.
use Rattle.std.proofs.Common.{◌≡◌, ℕ, zero, suc, ◌+◌, ◌-◌, ◌^◌, Bool, true, false, List, ◌∷◌, length, Some, None, inl, inr, refl, ap, sym, subst, ◌∙◌, arith}
use Rattle.std.specs.Prelude.{slice_get, Contains, min, ◌⊎◌}
use Rattle.cmdcodec.specs.declared.raw.Raw.{Raw}
use Rattle.cmdcodec.specs.Opcodes.{is_sync}
use Rattle.circular_buffer.specs.Buffer.{Buffer}
use Rattle.qindex.specs.Positions.{size}
use Rattle.ring.specs.consumer.Deferring.{DeferringValue}
use Rattle.hardware_queue.specs.declared.flight.InFlight.{InFlight}
use Rattle.hardware_queue.specs.declared.command_error.CommandError.{CommandError}
use Rattle.hardware_queue.specs.declared.command_error.CommandError.TheVariants.{Illegal, Abort, AtcInvSync, Reserved}
use Rattle.hardware_queue.specs.declared.forwarded.Stopped.{Stopped}
use Rattle.hardware_queue.specs.declared.remedy.Remedy.{Remedy}
use Rattle.hardware_queue.specs.declared.remedy.Remedy.TheVariants.{Retry, Replace}
use Rattle.hardware_queue.specs.declared.state.QueueState.{QueueState}
use Rattle.hardware_queue.specs.declared.state.QueueState.TheVariants as state
use Rattle.hardware_queue.specs.Queues.{QueueValue}
use Rattle.hardware_queue.specs.Owners.{HasAcknowledged, IsAcknowledged, IsStoppedState}
use Rattle.hardware_queue.specs.Kept.{IsInFlight, IsForwarder}
use Rattle.hardware_queue.specs.Forwarders.{refusal_at, refusal_to_replace, lost_by, IsStoppedAt}

no_sync : (error : CommandError) (sync : Bool) → refusal_to_replace error sync ≡ None → sync ≡ false
no_sync Illegal true e = absurd (cc)
no_sync Illegal false e = refl
no_sync Abort sync e = absurd (cc)
no_sync AtcInvSync sync e = absurd (cc)
no_sync (Reserved number) sync e = absurd (cc)

pub first_or_rest : (x y : ℕ) (xs : List ℕ) → Contains (x ∷ xs) y → (x ≡ y) ⊎ Contains xs y
first_or_rest x y xs (zero, inside, is) = inl (cc)
first_or_rest x y xs (suc k, inside, is) = inr (k, omega (arith, inside), is)

one_error : (a b : CommandError) → state.Stopped a ≡ state.Stopped b → a ≡ b
one_error a b same = cc

never_stopped : (now : QueueState) → now ≡ state.Running → ¬ IsStoppedState now
never_stopped now running (error, is) = absurd (cc)

still : {D : Type 0} (q r : QueueValue) (found now : QueueState) (c : DeferringValue D) (kept : Buffer InFlight) → IsInFlight q found c kept → r.shown ≡ q.shown → r.consumed ≡ q.consumed
    → r.geometry ≡ q.geometry → now ≡ state.Running → IsInFlight r now c kept
still q r found now c kept is shown consumed geometry running = record {
  shown = shown ∙ is.shown;
  consumed = consumed ∙ is.consumed;
  kept_are = is.kept_are;
  capacity = is.capacity ∙ ap size (sym geometry);
  stopped = λ at. absurd (never_stopped now running at);
}

pub forwarder_after : {D : Type 0} (remedy : Remedy) (stopped : Stopped) (q r : QueueValue) (found now : QueueState) (c : DeferringValue D) (kept : Buffer InFlight) (lost n : ℕ) → IsForwarder q found c kept lost → HasAcknowledged remedy stopped.error q r
    → slice_get q.shown q.consumed ≡ Some stopped.command → refusal_at remedy stopped ≡ None → now ≡ state.Running → n ≡ min (lost + lost_by remedy) (2 ^ 64 - 1) → IsForwarder r now c kept n
forwarder_after Retry stopped q r found now c kept lost n is a command fits running count =
    let shown : r.shown ≡ q.shown = ap (λ (x : QueueValue). x.shown) a.new_is in
    let unlost : r.lost ≡ q.lost = ap (λ (x : QueueValue). x.lost) a.new_is in
    let long : length r.lost ≡ length q.lost = ap (λ (l : List ℕ). length l) unlost in
    let so_far = is.lost_are in
    record {
      in_flight = still q r found now c kept is.in_flight shown (ap (λ (x : QueueValue). x.consumed) a.new_is) (ap (λ (x : QueueValue). x.geometry) a.new_is) running;
      syncs = λ position there.
          let at = is.syncs position (subst (λ (l : List ℕ). Contains l position) unlost there) in
          record { raw = at.raw; shown = ap (λ (l : List Raw). slice_get l position) shown ∙ at.shown; other = at.other };
      lost_are = omega (arith, long, so_far, count);
    }
forwarder_after Replace stopped q r found now c kept lost n is a command fits running count =
    let shown : r.shown ≡ q.shown = ap (λ (x : QueueValue). x.shown) a.new_is in
    let more : r.lost ≡ q.consumed ∷ q.lost = ap (λ (x : QueueValue). x.lost) a.new_is in
    let long : length r.lost ≡ suc (length q.lost) = ap (λ (l : List ℕ). length l) more in
    let so_far = is.lost_are in
    record {
      in_flight = still q r found now c kept is.in_flight shown (ap (λ (x : QueueValue). x.consumed) a.new_is) (ap (λ (x : QueueValue). x.geometry) a.new_is) running;
      syncs = λ position there.
          elim (first_or_rest q.consumed position q.lost (subst (λ (l : List ℕ). Contains l position) more there)) [
            | inl here ↦ record {
              raw = stopped.command;
              shown = ap (λ (l : List Raw). slice_get l position) shown ∙ ap (λ (p : ℕ). slice_get q.shown p) (sym here) ∙ command;
              other = no_sync stopped.error (is_sync stopped.command) fits;
            }
            | inr before ↦
                let at = is.syncs position before in
                record { raw = at.raw; shown = ap (λ (l : List Raw). slice_get l position) shown ∙ at.shown; other = at.other }
          ];
      lost_are = omega (arith, long, so_far, count);
    }

pub forwarder_after_stop : {D : Type 0} (remedy : Remedy) (stopped : Stopped) (q r : QueueValue) (found now : QueueState) (c : DeferringValue D) (kept : Buffer InFlight) (lost n : ℕ) → IsForwarder q found c kept lost → IsStoppedAt q found stopped
    → IsAcknowledged remedy found q r → refusal_at remedy stopped ≡ None → now ≡ state.Running → n ≡ min (lost + lost_by remedy) (2 ^ 64 - 1) → IsForwarder r now c kept n
forwarder_after_stop remedy stopped q r found now c kept lost n is at done fits running count =
    let same : done.0 ≡ stopped.error = one_error done.0 stopped.error (sym done.1 ∙ at.state_is) in
    forwarder_after remedy stopped q r found now c kept lost n is (subst (λ (e : CommandError). HasAcknowledged remedy e q r) same done.2) at.command fits running count
