-- A forwarder whose queue was restarted.
use Rattle.std.proofs.Common.{◌≡◌, ℕ, List, ap, sym, subst}
use Rattle.circular_buffer.specs.Buffer.{Buffer}
use Rattle.cmdcodec.specs.declared.raw.Raw.{Raw}
use Rattle.ring.specs.consumer.Deferring.{DeferringValue}
use Rattle.hardware_queue.specs.declared.command_error.CommandError.{CommandError}
use Rattle.hardware_queue.specs.declared.flight.InFlight.{InFlight}
use Rattle.hardware_queue.specs.declared.state.QueueState.{QueueState}
use Rattle.hardware_queue.specs.declared.state.QueueState.TheVariants.{Running, Stopped}
use Rattle.hardware_queue.specs.Fates.{FatesValue, IsKnown}
use Rattle.hardware_queue.specs.Kept.{IsForwarder}
use Rattle.hardware_queue.specs.Queues.{QueueValue, HasRestarted}

runs : (error : CommandError) → Running ≡ Stopped error → ⊥
runs error is = cc

-- It keeps what it kept: what was shown, what of that is consumed, and what was written over are as before.
pub restarted_still : {D : Type 0} (q r : QueueValue) (word : ℕ) (before after : QueueState) (c : DeferringValue D) (kept : Buffer InFlight) (lost : ℕ) → HasRestarted q r word → after ≡ Running
    → IsForwarder q before c kept lost → IsForwarder r after c kept lost
restarted_still {D} q r word before after c kept lost restarted same is =
    subst (λ (x : QueueState). IsForwarder r x c kept lost) (sym same)
    (subst (λ (x : QueueValue). IsForwarder x Running c kept lost) (sym restarted.new_is) (record {
      in_flight = record {
        shown = is.in_flight.shown;
        consumed = is.in_flight.consumed;
        kept_are = is.in_flight.kept_are;
        capacity = is.in_flight.capacity;
        stopped = λ never. absurd (runs never.0 never.1);
      };
      syncs = λ p lost. let o = is.syncs p lost in record { raw = o.raw; shown = o.shown; other = o.other };
      lost_are = is.lost_are;
    }))

pub known_still : (q r : QueueValue) (word : ℕ) (settled : List Raw) (senders : ℕ) (f : FatesValue) → HasRestarted q r word → IsKnown q.lost settled senders f → IsKnown r.lost settled senders f
known_still q r word settled senders f restarted is =
    subst (λ (l : List ℕ). IsKnown l settled senders f) (sym (ap (λ (x : QueueValue). x.lost) restarted.new_is)) is
