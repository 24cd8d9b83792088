-- How many commands a restarted queue is told to read again.
use Rattle.std.proofs.Common.{◌≡◌, ℕ, List, [], ◌∷◌, None, refl}
use Rattle.cmdcodec.specs.declared.raw.Raw.{Raw}
use Rattle.hardware_queue.specs.Queues.{QueueValue, plain_sync}
use Rattle.hardware_queue.specs.Supplying.{again_after}

-- a queue of two slots that was told to read so many again, and was shown these, of which so many are consumed
abbrev queue : ℕ → List Raw → ℕ → QueueValue
queue again shown consumed = record {
  geometry = 1;
  memory = plain_sync ∷ plain_sync ∷ [];
  shown = shown;
  consumed = consumed;
  stopped = None;
  gerrorn = 4;
  lost = [];
  repeated = [];
  read = [];
  supplied = record { words = record { gerror = 0; cons = 0 }; gerrorn = 0; before = []; again = again };
}

pub what_is_in_flight_is_read_again : again_after (queue 0 (plain_sync ∷ plain_sync ∷ []) 0) ≡ 2
what_is_in_flight_is_read_again = refl

pub what_is_consumed_is_not_read_again : again_after (queue 0 (plain_sync ∷ plain_sync ∷ []) 1) ≡ 1
what_is_consumed_is_not_read_again = refl

pub a_second_restart_adds_to_the_first : again_after (queue 3 (plain_sync ∷ []) 0) ≡ 4
a_second_restart_adds_to_the_first = refl

pub the_count_has_32_bits : again_after (queue 4294967295 (plain_sync ∷ []) 0) ≡ 0
the_count_has_32_bits = refl
