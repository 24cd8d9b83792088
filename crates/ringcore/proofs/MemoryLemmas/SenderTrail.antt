-- What a sender's own trail says of its last reservation is true in the world.
use Rattle.std.proofs.Common.{◌≡◌, ℕ, [], ◌∷◌, length, Some, refl, sym, ap, ◌∙◌, arith}
use Rattle.std.proofs.lemmas.Option.{same_Some, slice_get_within}
use Rattle.std.proofs.lemmas.List.{length-map}
use Rattle.std.specs.Prelude.{slice_get}
use Rattle.cmdcodec.specs.declared.raw.Raw.{Raw}
use Rattle.ringcore.specs.declared.world.event.Who.TheVariants.{Sender}
use Rattle.ringcore.specs.declared.world.event.Event.TheVariants.{Look, Won, Lost, Write, Flip, Test, Read, Advance, Close, Acknowledge, Ask}
use Rattle.ringcore.specs.world.Trails.{Trail, trail_of, reserved_length}
use Rattle.ringcore.specs.world.World.{Item, world}
use Rattle.ringcore.specs.world.Laws.{EveryRun}
use Rattle.ringcore.specs.memory.StepLaws.{reserved_commands}
use Rattle.ringcore.specs.memory.SenderLaws.{SendersHaveTheirSlots, ReservationsAreApart}
use Rattle.ringcore.proofs.WorldLemmas.Lists.{get_map}
use Rattle.ringcore.proofs.WorldLemmas.Reading.{raws_of, raws_of_batch}
use Rattle.ringcore.proofs.WorldLemmas.Sound.{sound}
use Rattle.ringcore.proofs.WorldLemmas.Slots.{last_items, length_of_last, sender_of_last, get_there, deep, apart}

-- The commands are those of the items.
raws_of_last : (s : ℕ) (t : Trail) → raws_of (last_items s t) ≡ reserved_commands s t
raws_of_last s [] = refl
raws_of_last s (Look found ∷ es) = raws_of_last s es
raws_of_last s (Won body number ∷ es) = raws_of_batch record { sender = s; number = number; body = body }
raws_of_last s (Lost body closes found ∷ es) = raws_of_last s es
raws_of_last s (Write offset half ∷ es) = raws_of_last s es
raws_of_last s (Flip offset count ∷ es) = raws_of_last s es
raws_of_last s (Test limit found ∷ es) = raws_of_last s es
raws_of_last s (Read offset half word ∷ es) = raws_of_last s es
raws_of_last s (Advance raws ∷ es) = raws_of_last s es
raws_of_last s (Close ∷ es) = raws_of_last s es
raws_of_last s (Acknowledge sender number ∷ es) = raws_of_last s es
raws_of_last s (Ask found ∷ es) = raws_of_last s es

pub length_of_commands : (s : ℕ) (t : Trail) → length (reserved_commands s t) ≡ reserved_length t
length_of_commands s t =
    sym (ap length (raws_of_last s t)) ∙ length-map (last_items s t) (λ (x : Item). x.raw) ∙ length_of_last s t

-- the item of a command of the last reservation
item_of_last : (s : ℕ) (t : Trail) (offset : ℕ) (raw : Raw) → slice_get (reserved_commands s t) offset ≡ Some raw
    → (item : Item) × (slice_get (last_items s t) offset ≡ Some item) × (item.raw ≡ raw)
item_of_last s t offset raw at =
    let inside = slice_get_within (reserved_commands s t) offset raw at in
    let long = length_of_commands s t in
    let wide = length_of_last s t in
    let there = get_there (last_items s t) offset (omega (arith, inside, long, wide)) in
    let its_raw = get_map (λ (x : Item). x.raw) (last_items s t) offset there.0 there.1 in
    (there.0, there.1, same_Some there.0.raw raw (sym its_raw ∙ ap (λ l. slice_get l offset) (raws_of_last s t) ∙ at))

pub have_their_slots : EveryRun SendersHaveTheirSlots
have_their_slots ring run ok s =
    let owns = (deep ring run ok).owns s in record {
      reserved = (sound ring run ok).each_within s;
      commands = λ offset raw at.
          let its = item_of_last s (trail_of (Sender s) run) offset raw at in record {
            item = its.0;
            there = owns.placed offset its.0 its.1;
            sender_is = sender_of_last s (trail_of (Sender s) run) offset its.0 its.1;
            raw_is = its.2;
          };
      written = owns.written_is;
      flipped = owns.flipped_is;
    }

pub are_apart : EveryRun ReservationsAreApart
are_apart ring run ok s other offset further not inside there same =
    let all = (deep ring run ok).owns in
    apart (world run) other s (trail_of (Sender other) run) (trail_of (Sender s) run) (all other) (all s) further offset there inside not same
