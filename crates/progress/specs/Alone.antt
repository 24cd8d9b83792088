-- Obstruction-freedom: alone, a sender wins.
use Rattle.std.specs.Prelude.{◌≡◌, ℕ, ◌+◌, ◌<◌, ◌≤◌, ◌⊎◌, Bool, false, List, ◌∷◌, Option}
use Rattle.cmdcodec.specs.declared.raw.Raw.{Raw}
use Rattle.cmdcodec.specs.Bodies.{IsBody}
use Rattle.qindex.specs.declared.control.Control.{Control}
use Rattle.qindex.specs.Positions.{size}
use Rattle.qindex.specs.Indexes.{IsGeometry}
use Rattle.ringcore.specs.declared.world.event.Who.TheVariants.{Sender}
use Rattle.ringcore.specs.declared.world.event.Event.TheVariants.{Look, Won, Lost}
use Rattle.ringcore.specs.world.Trails.{Run, trail_of, batch_length, batches_made, IsSettled}
use Rattle.ringcore.specs.world.World.{tail, head, world, control}
use Rattle.ringcore.specs.world.Allowed.{Ring, IsNextNumber, MayTry, length_with, Allowed, IsRun}

-- An exchange that directly follows its look isn't lost.
abbrev pub AloneNoneIsLost : Type 0
AloneNoneIsLost =
    (ring : Ring) (run : Run) (s : ℕ) (body : List Raw) (closes : Bool) (found seen : Control)
    → IsRun ring ((Sender s, Lost body closes found) ∷ (Sender s, Look seen) ∷ run) → ⊥

-- The ring is open and has room for this batch, which is the sender's next; it has no open reservation.
pub record MayReserve (ring : Ring) (run : Run) (s : ℕ) (body : List Raw) (number : Option ℕ) : Type 0 where
  pub unclosed : (world run).closed ≡ false
  pub settled : IsSettled (trail_of (Sender s) run)
  pub left : batches_made (trail_of (Sender s) run) < ring.max_batches
  pub body_is : IsBody body
  pub next : IsNextNumber (trail_of (Sender s) run) number
  pub room : tail (world run) + batch_length body number ≤ head (world run) + size ring.geometry

-- the two steps of the sender: a look, and an exchange won
abbrev pub reserved_by : Ring → Run → ℕ → List Raw → Option ℕ → Run
reserved_by ring run s body number = (Sender s, Won body number) ∷ (Sender s, Look (control ring.geometry (world run))) ∷ run

-- Then it reserves the batch in two steps.
abbrev pub TwoStepsReserve : Type 0
TwoStepsReserve =
    (ring : Ring) (run : Run) (s : ℕ) (body : List Raw) (number : Option ℕ)
    → IsRun ring run → MayReserve ring run s body number → IsRun ring (reserved_by ring run s body number)

-- A sender that may try needs wait for nothing: in any run its exchange is either won or lost.
abbrev pub EachTryEnds : Type 0
EachTryEnds =
    (ring : Ring) (run : Run) (s : ℕ) (body : List Raw) (closes : Bool) (before : Control)
    → IsGeometry ring.geometry → IsRun ring run → MayTry ring (trail_of (Sender s) run) body (length_with closes body) before
    → ((number : Option ℕ) × (batch_length body number ≡ length_with closes body) × Allowed ring (world run) (trail_of (Sender s) run) (Sender s) (Won body number))
    ⊎ Allowed ring (world run) (trail_of (Sender s) run) (Sender s) (Lost body closes (control ring.geometry (world run)))
