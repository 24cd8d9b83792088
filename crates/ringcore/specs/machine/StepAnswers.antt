-- The event of an accepted step, and its answer.
use Rattle.std.specs.Prelude.{ℕ, zero, suc, ◌+◌, ◌*◌, ◌/◌, ◌^◌, Bool, false, ◌==◌, ◌&&◌, List, map, take, drop, Option, Some, None, slice_get, if◌then◌else◌}
use Rattle.cmdcodec.specs.declared.raw.Raw.{Raw}
use Rattle.qindex.specs.declared.control.Control.{Control}
use Rattle.qindex.specs.Positions.{place, index_of}
use Rattle.qindex.specs.ControlWord.{packed}
use Rattle.ringcore.specs.Limits.{flags_a_word}
use Rattle.ringcore.specs.declared.world.event.Who.{Who}
use Rattle.ringcore.specs.declared.world.event.Who.TheVariants.{Consumer, Sender}
use Rattle.ringcore.specs.declared.world.event.Half.{Half}
use Rattle.ringcore.specs.declared.world.event.Half.TheVariants.{Lo, Hi}
use Rattle.ringcore.specs.declared.world.event.Event.{Event}
use Rattle.ringcore.specs.declared.world.event.Event.TheVariants as event
use Rattle.ringcore.specs.declared.machine.step.Step.{Step}
use Rattle.ringcore.specs.declared.machine.step.Step.TheVariants.{Look, Reserve, Write, Flip, Test, Read, Advance, Close, Acknowledge, Ask}
use Rattle.ringcore.specs.declared.machine.step.Seen.{Seen}
use Rattle.ringcore.specs.declared.machine.step.Seen.TheVariants.{Word, Reserved, Lost, Written, Flipped, Ready, Half as HalfWord, Acknowledged, Done}
use Rattle.ringcore.specs.world.Trails.{Trail, Run, trail_of, looked, numbers_given}
use Rattle.ringcore.specs.world.World.{Item, World, tail, head, after, world, control, half_of}
use Rattle.ringcore.specs.memory.Flags.{polarity}
use Rattle.ringcore.specs.world.Allowed.{Ring}
use Rattle.ringcore.specs.machine.Open.{own_offset}
use Rattle.ringcore.specs.machine.Faults.{tested_offset}

-- 0 if there is none
abbrev pub offset_or_0 : Option ℕ → ℕ
offset_or_0 None = 0
offset_or_0 (Some offset) = offset

abbrev pub half_of_number : ℕ → Half
half_of_number half = if half == 0 then Lo else Hi

-- ---- reserve

-- whether the control word is still the one that was looked at
abbrev pub is_same_word : Option Control → Control → Bool
is_same_word None found = false
is_same_word (Some before) found = packed before == packed found

abbrev pub next_number : Trail → Bool → Option ℕ
next_number mine closes = if closes then Some (suc (numbers_given mine)) else None

-- ---- test

-- how many positions in a row pass the test, at most limit
abbrev pub in_a_row : (ℕ → Bool) → ℕ → ℕ
in_a_row f zero = 0
in_a_row f (suc limit) = if f 0 then suc (in_a_row (λ k. f (suc k)) limit) else 0

-- how many from the head on are flipped, as far as their flags are in one word
abbrev pub ready_count : Ring → World → ℕ → ℕ
ready_count ring w limit =
    in_a_row (λ k. w.flipped (head w + k) && place ring.geometry (head w + k) / flags_a_word == place ring.geometry (head w) / flags_a_word) limit

-- ---- read and advance

abbrev pub half_in : Half → Option Item → ℕ
half_in half None = 0
half_in half (Some item) = half_of half item.raw

abbrev pub half_at : World → ℕ → Half → ℕ
half_at w offset half = half_in half (slice_get w.reserved (head w + offset))

-- the commands that are taken next
abbrev pub next_commands : World → ℕ → List Raw
next_commands w count = map (λ (item : Item). item.raw) (take count (drop (head w) w.reserved))

-- ---- all of them

abbrev pub seat_of : Option ℕ → Who
seat_of None = Consumer
seat_of (Some s) = Sender s

-- the event of a step without a fault
abbrev pub event_of : Ring → Run → Step → Who × Event
event_of ring run (Look who) = (seat_of who, event.Look (control ring.geometry (world run)))
event_of ring run (Reserve s body closes) =
    let mine = trail_of (Sender s) run in let found = control ring.geometry (world run) in
    (Sender s, if is_same_word (looked mine) found then event.Won body.items (next_number mine closes) else event.Lost body.items closes found)
event_of ring run (Write s slot half) = (Sender s, event.Write (offset_or_0 (own_offset ring run s slot)) (half_of_number half))
event_of ring run (Flip s slot count) = (Sender s, event.Flip (offset_or_0 (own_offset ring run s slot)) count)
event_of ring run (Test slot count) = (Consumer, event.Test count (ready_count ring (world run) count))
event_of ring run (Read slot half) =
    let offset = offset_or_0 (tested_offset ring run slot) in
    (Consumer, event.Read offset (half_of_number half) (half_at (world run) offset (half_of_number half)))
event_of ring run (Advance count) = (Consumer, event.Advance (next_commands (world run) count))
event_of ring run (Close s) = (Sender s, event.Close)
event_of ring run (Acknowledge s number) = (Consumer, event.Acknowledge s number)
event_of ring run (Ask s) = (Sender s, event.Ask ((world run).acknowledged s))

-- the new flags of `count` positions from this one on, with that of the first in bit 0
abbrev pub new_flags : ℕ → ℕ → ℕ → ℕ
new_flags geometry position zero = 0
new_flags geometry position (suc count) = new_flags geometry position count + polarity geometry (position + count) * 2 ^ count

-- the answer to an event, by the worlds before and after
abbrev pub seen_of : Ring → World → Who → Event → Seen
seen_of ring w who (event.Look found) = Word found
seen_of ring w who (event.Won body number) = Reserved (index_of ring.geometry (tail w)) number
seen_of ring w who (event.Lost body closes found) = Lost found
seen_of ring w who (event.Write offset half) = Written
seen_of ring w (Sender s) (event.Flip offset count) = Flipped (new_flags ring.geometry (w.start s + offset) count)
seen_of ring w who (event.Test limit found) = Ready found
seen_of ring w who (event.Read offset half word) = HalfWord word
seen_of ring w who (event.Advance raws) = Word (control ring.geometry (after w who (event.Advance raws)))
seen_of ring w who event.Close = Word (control ring.geometry (after w who event.Close))
seen_of ring w who (event.Acknowledge sender number) = Acknowledged
seen_of ring w who (event.Ask found) = Done found
seen_of ring w who e = Written
