-- What open reservations hold.
use Rattle.std.specs.Prelude.{ℕ, zero, suc, ◌+◌, Bool, true, false, not, ◌==◌, ◌||◌, ◌&&◌, Option, Some, None, if◌then◌else◌}
use Rattle.qindex.specs.Positions.{place}
use Rattle.ringcore.specs.declared.world.event.Who.TheVariants.{Sender}
use Rattle.ringcore.specs.world.Trails.{Trail, Run, trail_of, is_among, reserved_length, has_flipped}
use Rattle.ringcore.specs.world.World.{world}
use Rattle.ringcore.specs.world.Allowed.{Ring}

-- whether some number below a limit passes a test, and whether each does
abbrev pub some_below : ℕ → (ℕ → Bool) → Bool
some_below zero f = false
some_below (suc n) f = f n || some_below n f

abbrev pub all_below : ℕ → (ℕ → Bool) → Bool
all_below zero f = true
all_below (suc n) f = f n && all_below n f

-- the least number below a limit that passes a test
abbrev pub first_below : ℕ → (ℕ → Bool) → Option ℕ
first_below zero f = None
first_below (suc n) f = if some_below n f then first_below n f else (if f n then Some n else None)

-- whether it has an open reservation: not all of the last one is flipped
abbrev pub is_open : Trail → Bool
is_open mine = some_below (reserved_length mine) (λ offset. not (has_flipped offset mine))

-- whether a sender's open reservation holds a position
abbrev pub holds : Run → ℕ → ℕ → Bool
holds run s position =
    let mine = trail_of (Sender s) run in is_open mine && is_among ((world run).start s) (reserved_length mine) position

-- whether an open reservation of any sender does
abbrev pub is_held : Ring → Run → ℕ → Bool
is_held ring run position = some_below ring.senders (λ s. holds run s position)

-- the offset of a slot in a sender's open reservation, if it holds the slot
abbrev pub own_offset : Ring → Run → ℕ → ℕ → Option ℕ
own_offset ring run s slot =
    let mine = trail_of (Sender s) run in
    if is_open mine
    then first_below (reserved_length mine) (λ offset. place ring.geometry ((world run).start s + offset) == slot)
    else None

abbrev pub holds_slot : Ring → Run → ℕ → ℕ → Bool
holds_slot ring run slot s =
    let mine = trail_of (Sender s) run in
    is_open mine && some_below (reserved_length mine) (λ offset. place ring.geometry ((world run).start s + offset) == slot)

-- whether an open reservation of any sender holds a slot
abbrev pub slot_is_held : Ring → Run → ℕ → Bool
slot_is_held ring run slot = some_below ring.senders (holds_slot ring run slot)
