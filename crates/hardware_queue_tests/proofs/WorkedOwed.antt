-- What the hardware gets for what was taken and reserved, and what an end says of that.
use Rattle.std.proofs.Common.{◌≡◌, ℕ, ◌/◌, ◌%◌, ◌^◌, ◌<◌, true, List, [], ◌∷◌, ◌++◌, Some, None, refl, sym, ap, ◌∙◌, arith}
use Rattle.std.specs.Prelude.{slice_get}
use Rattle.cmdcodec.specs.declared.raw.Raw.{Raw}
use Rattle.cmdcodec.specs.Opcodes.{is_sync, opcode_named}
use Rattle.ringcore.specs.declared.world.event.Event.TheVariants.{Won, Ask}
use Rattle.ringcore.specs.declared.world.event.Outcome.TheVariants.{Applied, Replaced}
use Rattle.ringcore.specs.declared.world.event.Who.TheVariants.{Sender}
use Rattle.ringcore.specs.world.Trails.{Trail, Run}
use Rattle.ringcore.specs.world.World.{Taken}
use Rattle.ring.specs.Rings.{RingValue}
use Rattle.ring.specs.sender.Senders.{SenderValue}
use Rattle.ring.specs.Finishing.{SummaryValue}
use Rattle.hardware_queue.specs.Queues.{QueueValue, plain_sync}
use Rattle.hardware_queue.specs.Flights.{passed_on, passed_for, owed}
use Rattle.hardware_queue.specs.Steps.{ForwarderValue}
use Rattle.hardware_queue.specs.Forwarders.{WasToldAllTruly, IsForwarderEnd}

-- CMD_CFGI_STE of stream 5 with Leaf 1
abbrev cfgi_ste : Raw
cfgi_ste = record { lo = 0x0000000500000003; hi = 1 }

-- CMD_SYNC that writes 7 to an address
abbrev closing : Raw
closing = record { lo = 0x0000000700001046; hi = 0x4000000c }

-- no command
abbrev illegal : Raw
illegal = record { lo = 0xff; hi = 0 }

-- a queue of two slots that was shown nothing
abbrev idle : QueueValue
idle = record {
  geometry = 1;
  memory = plain_sync ∷ plain_sync ∷ [];
  shown = [];
  consumed = 0;
  stopped = None;
  gerrorn = 0;
  lost = [];
  repeated = [];
  read = [];
  supplied = record { words = record { gerror = 0; cons = 0 }; gerrorn = 0; before = []; again = 0 };
}

-- ---- a CMD_SYNC

pub the_plain_sync_is_a_sync : is_sync plain_sync ≡ true
the_plain_sync_is_a_sync = refl

-- CS, bits 13:12, is SIG_NONE.
pub the_plain_sync_asks_for_no_signal : plain_sync.lo / 2 ^ 12 % 2 ^ 2 ≡ 0
the_plain_sync_asks_for_no_signal = refl

pub the_plain_sync_has_no_address : plain_sync.hi ≡ 0
the_plain_sync_has_no_address = refl

-- ---- what the hardware gets

abbrev applied : Raw → Taken
applied raw = record { raw = raw; outcome = Applied }

abbrev replaced : Raw → Taken
replaced raw = record { raw = raw; outcome = Replaced }

pub all_but_what_was_replaced_is_passed_on :
    passed_on (applied cfgi_ste ∷ replaced illegal ∷ applied closing ∷ []) ≡ cfgi_ste ∷ plain_sync ∷ []
all_but_what_was_replaced_is_passed_on = refl

pub for_none_it_gets_none : passed_on [] ≡ []
for_none_it_gets_none = refl

pub it_gets_the_legal_ones_in_order :
    passed_for (cfgi_ste ∷ illegal ∷ closing ∷ []) ≡ cfgi_ste ∷ plain_sync ∷ []
unfolding opcode_named
it_gets_the_legal_ones_in_order = refl

-- Sender 0 reserved an illegal command and CMD_CFGI_STE, and sender 1 another CMD_CFGI_STE behind them.
abbrev two_batches : Run
two_batches = (Sender 1, Won (cfgi_ste ∷ []) None) ∷ (Sender 0, Won (illegal ∷ cfgi_ste ∷ []) None) ∷ []

pub it_is_owed_all_batches : owed two_batches ≡ cfgi_ste ∷ cfgi_ste ∷ []
unfolding opcode_named
it_is_owed_all_batches = refl

-- ---- what senders were told

-- The hardware has passed nothing, so nothing was told truly: neither last nor before that.
pub nothing_was_told_of_an_idle_queue :
    (HasEffect : ℕ → Type 0) (run : Run) (older : Trail)
    → ¬ WasToldAllTruly HasEffect idle run 0 (Ask 1 ∷ older)
nothing_was_told_of_an_idle_queue HasEffect run older told =
    let carried = (told [] older 1 refl).carried_out 1 (omega arith) (omega arith) in
    let passed : _ < 0 = carried.passed in absurd (omega (arith, passed))

pub nothing_was_told_before_of_an_idle_queue :
    (HasEffect : ℕ → Type 0) (run : Run) (older : Trail)
    → ¬ WasToldAllTruly HasEffect idle run 0 (Ask 0 ∷ Ask 1 ∷ older)
nothing_was_told_before_of_an_idle_queue HasEffect run older told =
    let carried = (told (Ask 0 ∷ []) older 1 refl).carried_out 1 (omega arith) (omega arith) in
    let passed : _ < 0 = carried.passed in absurd (omega (arith, passed))

-- ---- an end

nothing_begins : (raws rest : List Raw) → [] ≡ raws ++ rest → raws ≡ []
nothing_begins [] rest is = refl
nothing_begins (raw ∷ raws) rest is = absurd (cc)

-- Nothing was reserved, so the hardware was shown nothing.
pub what_nobody_reserved_is_not_shown :
    {Q : Type 0} (queue : Q → QueueValue) (has_effect : Q → ℕ → Type 0) (ring : RingValue) (senders : List SenderValue)
    (forwarder : ForwarderValue Q) (summary : SummaryValue)
    (end : IsForwarderEnd queue has_effect ring senders forwarder summary)
    → end.end_is.end_is.run ≡ [] → (queue forwarder.owner.queue).shown ≡ []
what_nobody_reserved_is_not_shown queue has_effect ring senders forwarder summary end none =
    nothing_begins _ end.order.0 (sym (ap (λ (run : Run). owed run) none) ∙ end.order.1)

-- Whatever the second sender was told was true.
pub each_sender_was_told_truly :
    {Q : Type 0} (queue : Q → QueueValue) (has_effect : Q → ℕ → Type 0) (ring : RingValue) (senders : List SenderValue)
    (forwarder : ForwarderValue Q) (summary : SummaryValue)
    (end : IsForwarderEnd queue has_effect ring senders forwarder summary) (s : SenderValue)
    → slice_get senders 1 ≡ Some s
    → WasToldAllTruly (has_effect forwarder.owner.queue) (queue forwarder.owner.queue) end.end_is.end_is.run 1 s.trail
each_sender_was_told_truly queue has_effect ring senders forwarder summary end s at = end.told 1 s at
