-- Waiting has a name: whom a consumer waits for that finds nothing at the head.
use Rattle.std.specs.Prelude.{◌≡◌, ◌≢◌, ℕ, ◌+◌, ◌-◌, ◌<◌, ◌≤◌, false, [], ◌∷◌, ◌++◌, Some, slice_get}
use Rattle.ringcore.specs.declared.world.event.Who.TheVariants.{Consumer, Sender}
use Rattle.ringcore.specs.declared.world.event.Event.TheVariants.{Test}
use Rattle.ringcore.specs.world.Trails.{Run, trail_of, reserved_length, has_flipped, IsSettled}
use Rattle.ringcore.specs.world.World.{Item, tail, head, world, control}
use Rattle.ringcore.specs.world.Allowed.{Ring, IsRun}

-- The command at this position is one of the open reservation of this sender, which hasn't flipped it yet.
pub record IsHeldBy (run : Run) (position s : ℕ) : Type 0 where
  pub item : Item
  pub there : slice_get (world run).reserved position ≡ Some item
  pub sender_is : item.sender ≡ s
  pub from : (world run).start s ≤ position
  pub below : position < (world run).start s + reserved_length (trail_of (Sender s) run)
  pub unflipped : has_flipped (position - (world run).start s) (trail_of (Sender s) run) ≡ false

-- Who holds a position has an open reservation, and only one sender holds it.
abbrev pub HoldersAreOpen : Type 0
HoldersAreOpen = (run : Run) (position s : ℕ) → IsHeldBy run position s → IsSettled (trail_of (Sender s) run) → ⊥

abbrev pub OnlyOneHolds : Type 0
OnlyOneHolds = (run : Run) (position s other : ℕ) → IsHeldBy run position s → IsHeldBy run position other → s ≡ other

-- Each reserved command that isn't flipped is held.
abbrev pub UnflippedAreHeld : Type 0
UnflippedAreHeld =
    (ring : Ring) (run : Run) (position : ℕ)
    → IsRun ring run → position < tail (world run) → (world run).flipped position ≡ false → (s : ℕ) × IsHeldBy run position s

-- If a test found nothing although something is reserved, the head is held.
abbrev pub WaitingHasAName : Type 0
WaitingHasAName =
    (ring : Ring) (run : Run) (limit : ℕ)
    → IsRun ring ((Consumer, Test limit 0) ∷ run) → head (world run) < tail (world run) → (s : ℕ) × IsHeldBy run (head (world run)) s

-- So it is if a look of the consumer found something reserved, others took steps, and its test found nothing.
abbrev pub HeldSinceALook : Type 0
HeldSinceALook =
    (ring : Ring) (limit : ℕ) (newer older : Run)
    → IsRun ring ((Consumer, Test limit 0) ∷ (newer ++ older)) → trail_of Consumer newer ≡ []
    → (control ring.geometry (world older)).prod.number ≢ (control ring.geometry (world older)).cons.number
    → (s : ℕ) × IsHeldBy ((Consumer, Test limit 0) ∷ (newer ++ older)) (head (world (newer ++ older))) s

-- And the holder alone can end it: until it takes a step, it holds the position, and nothing from there on is
-- taken, whatever all others do. So taking is not lock-free.
pub record IsStillHeld (run : Run) (position s : ℕ) : Type 0 where
  pub held : IsHeldBy run position s
  pub untaken : head (world run) ≤ position

abbrev pub OnlyTheHolderEndsIt : Type 0
OnlyTheHolderEndsIt =
    (ring : Ring) (later run : Run) (position s : ℕ)
    → IsRun ring (later ++ run) → trail_of (Sender s) later ≡ [] → IsHeldBy run position s → IsStillHeld (later ++ run) position s

-- No sender has an open reservation.
abbrev pub NoneIsOpen : Run → Type 0
NoneIsOpen run = (s : ℕ) → IsSettled (trail_of (Sender s) run)

-- Then each test finds something, if anything is reserved.
abbrev pub TestsFindSome : Type 0
TestsFindSome =
    (ring : Ring) (run : Run) (limit found : ℕ)
    → IsRun ring ((Consumer, Test limit found) ∷ run) → NoneIsOpen run → head (world run) < tail (world run) → 1 ≤ found
