-- What a sender's number tells of the entries of a unit whose queue serves the ring.
use Rattle.std.specs.Prelude.{◌≡◌, ℕ, ◌<◌, ◌≤◌, true, List, length, None, Some, slice_get, take, Contains}
use Rattle.std.specs.FinMap as finite
use Rattle.cmdcodec.specs.declared.raw.Raw.{Raw}
use Rattle.cmdcodec.specs.declared.command.Command.{Command}
use Rattle.cmdcodec.specs.Spelling.{Spells}
use Rattle.cmdcodec.specs.Legality.{first_ill}
use Rattle.ringcore.specs.world.Trails.{Run, Trail}
use Rattle.caches.specs.declared.tag.Tag.{Tag}
use Rattle.caches.specs.declared.tag.Entry.{Entry}
use Rattle.caches.specs.Covers.{covers}
use Rattle.ring.specs.Finishing.{reserved_ahead}
use Rattle.hardware_queue.specs.Flights.{passed_for}
use Rattle.hardware_queue.specs.Forwarders.{WasToldTruly}
use Rattle.unit_queue.specs.Queued.{Queued, HasEffect}

-- the position at which the hardware was shown the command that has this place among these, if it is legal
abbrev pub position_of : List Raw → ℕ → ℕ
position_of first place = length (passed_for (take place first))

-- Each entry that a legal one of these commands covers was filled after the unit took that command, unless that was
-- written over.
abbrev pub NoneIsOlder : Queued → List Raw → Type 0
NoneIsOlder u first =
    (tag : Tag) (entry : Entry) → finite.get u.unit.caches.entries tag ≡ Some entry
    → (place : ℕ) (raw : Raw) (command : Command) → slice_get first place ≡ Some raw → first_ill raw ≡ None → Spells raw command → covers command tag ≡ true
    → ¬ Contains u.queue.lost (position_of first place) → position_of first place < entry.born

-- Whatever number a sender was told, this holds of all that was reserved before the closing sync of each of its batches
-- up to that number.
abbrev pub ToldMeansNoneIsOlder : Queued → Type 0
ToldMeansNoneIsOlder u =
    (run : Run) (s told : ℕ) (older : Trail) (was : WasToldTruly (HasEffect u) u.queue run s told older)
    → (number : ℕ) (some : 1 ≤ number) (most : number ≤ told) → NoneIsOlder u (reserved_ahead (was.was_told.applied number some most))
