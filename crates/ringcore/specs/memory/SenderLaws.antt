-- What a sender's own trail says of its last reservation, after any run.
use Rattle.std.specs.Prelude.{◌≡◌, ◌≢◌, ℕ, ◌+◌, ◌<◌, ◌≤◌, length, Some, slice_get}
use Rattle.cmdcodec.specs.declared.raw.Raw.{Raw}
use Rattle.qindex.specs.Positions.{index_of}
use Rattle.ringcore.specs.declared.world.event.Who.TheVariants.{Sender}
use Rattle.ringcore.specs.declared.world.event.Half.{Half}
use Rattle.ringcore.specs.world.Trails.{Trail, Run, trail_of, reserved_length, has_written, has_flipped, start_index}
use Rattle.ringcore.specs.world.World.{Item, World, tail, world}
use Rattle.ringcore.specs.world.Allowed.{Ring, IsRun}
use Rattle.ringcore.specs.memory.StepLaws.{reserved_commands}

-- It has as many commands as its length says.
abbrev pub LengthsAreOfCommands : Type 0
LengthsAreOfCommands = (s : ℕ) (t : Trail) → length (reserved_commands s t) ≡ reserved_length t

-- It starts at the index that was looked at.
abbrev pub StartsAtItsIndex : Type 0
StartsAtItsIndex =
    (ring : Ring) (run : Run) → IsRun ring run → (s : ℕ)
    → index_of ring.geometry ((world run).start s) ≡ start_index ring.geometry (trail_of (Sender s) run)

-- This command of the sender is at this position.
pub record StandsAs (w : World) (position s : ℕ) (raw : Raw) : Type 0 where
  pub item : Item
  pub there : slice_get w.reserved position ≡ Some item
  pub sender_is : item.sender ≡ s
  pub raw_is : item.raw ≡ raw

-- Its commands are in a row from its start on, and the trail tells which of them are written and flipped.
pub record HasItsSlots (w : World) (s : ℕ) (mine : Trail) : Type 0 where
  pub reserved : w.start s + reserved_length mine ≤ tail w
  pub commands : (offset : ℕ) (raw : Raw) → slice_get (reserved_commands s mine) offset ≡ Some raw → StandsAs w (w.start s + offset) s raw
  pub written : (offset : ℕ) (half : Half) → offset < reserved_length mine → w.written (w.start s + offset) half ≡ has_written offset half mine
  pub flipped : (offset : ℕ) → offset < reserved_length mine → w.flipped (w.start s + offset) ≡ has_flipped offset mine

abbrev pub SendersHaveTheirSlots : Run → Type 0
SendersHaveTheirSlots run = (s : ℕ) → HasItsSlots (world run) s (trail_of (Sender s) run)

-- The last reservations of two senders have no position in common.
abbrev pub ReservationsAreApart : Run → Type 0
ReservationsAreApart run =
    (s other offset further : ℕ) → s ≢ other
    → offset < reserved_length (trail_of (Sender s) run) → further < reserved_length (trail_of (Sender other) run)
    → (world run).start s + offset ≢ (world run).start other + further
