-- Lock-freedom, as a count: each lost exchange is paid for by a change of the control word.
use Rattle.std.specs.Prelude.{◌≡◌, ◌≢◌, ◌↔◌, ◌⊎◌, ℕ, suc, ◌+◌, ◌*◌, ◌≤◌, Bool, true, false, cond, not, List, [], ◌∷◌, ◌++◌, Some, None, ⊤}
use Rattle.cmdcodec.specs.declared.raw.Raw.{Raw}
use Rattle.qindex.specs.declared.control.Control.{Control}
use Rattle.qindex.specs.Indexes.{IsGeometry}
use Rattle.ringcore.specs.declared.world.event.Who.{Who}
use Rattle.ringcore.specs.declared.world.event.Who.TheVariants.{Sender}
use Rattle.ringcore.specs.declared.world.event.Event.{Event}
use Rattle.ringcore.specs.declared.world.event.Event.TheVariants.{Look, Won, Lost, Advance, Close}
use Rattle.ringcore.specs.world.Trails.{Trail, Run, same, trail_of, looked}
use Rattle.ringcore.specs.world.World.{World, tail, head, after, world, control}
use Rattle.ringcore.specs.world.Allowed.{Ring, Allowed, IsRun}
use Rattle.ringcore.specs.world.Laws.{OnlyOf}

-- ---- what changes the control word

-- After the event a look finds something else than before it.
abbrev pub Changes : ℕ → World → Who → Event → Type 0
Changes geometry w who e = control geometry (after w who e) ≢ control geometry w

-- the kinds that do: an exchange won, an advance, and the close of an open ring
abbrev pub is_change : World → Event → Bool
is_change w (Won body number) = true
is_change w (Advance raws) = true
is_change w Close = not w.closed
is_change w e = false

-- These, and no others, change it.
abbrev pub ChangesAreThese : Type 0
ChangesAreThese =
    (ring : Ring) (run : Run) (who : Who) (e : Event)
    → IsGeometry ring.geometry → IsRun ring run → Allowed ring (world run) (trail_of who run) who e
    → Changes ring.geometry (world run) who e ↔ (is_change (world run) e ≡ true)

abbrev pub changes : Run → ℕ
changes [] = 0
changes (x ∷ xs) = cond (is_change (world xs) x.1) (suc (changes xs)) (changes xs)

-- There are at most as many as commands reserved and taken, and one more for the close.
abbrev pub ChangesAreFew : Type 0
ChangesAreFew = (ring : Ring) (run : Run) → IsRun ring run → changes run ≤ tail (world run) + head (world run) + 1

-- ---- what overtakes a sender

-- A change of the control word that isn't an exchange won by this sender. So it is of somebody else, or
-- this sender's own close.
abbrev pub overtakes : ℕ → World → Who → Event → Bool
overtakes s w who (Won body number) = not (same (Sender s) who)
overtakes s w who (Advance raws) = true
overtakes s w who Close = not w.closed
overtakes s w who e = false

abbrev pub OvertakersAreOthers : Type 0
OvertakersAreOthers =
    (ring : Ring) (s : ℕ) (w : World) (mine : Trail) (who : Who) (e : Event)
    → Allowed ring w mine who e → overtakes s w who e ≡ true → (is_change w e ≡ true) × ((same (Sender s) who ≡ false) ⊎ (e ≡ Close))

abbrev pub overtakings : ℕ → Run → ℕ
overtakings s [] = 0
overtakings s (x ∷ xs) = cond (overtakes s (world xs) x.0 x.1) (suc (overtakings s xs)) (overtakings s xs)

-- how many exchanges a sender lost, and how many all lost
abbrev pub losses : ℕ → Run → ℕ
losses s [] = 0
losses s ((who, Lost body closes found) ∷ xs) = cond (same (Sender s) who) (suc (losses s xs)) (losses s xs)
losses s (x ∷ xs) = losses s xs

abbrev pub all_losses : Run → ℕ
all_losses [] = 0
all_losses ((who, Lost body closes found) ∷ xs) = suc (all_losses xs)
all_losses (x ∷ xs) = all_losses xs

-- ---- lock-freedom

-- A sender loses at most as many exchanges as it was overtaken.
abbrev pub LossesArePaidFor : Type 0
LossesArePaidFor = (ring : Ring) (run : Run) → IsRun ring run → (s : ℕ) → losses s run ≤ overtakings s run

-- So it is in every part of a run at whose start the sender has no look that it may still use.
abbrev pub LossesArePaidForInEachPart : Type 0
LossesArePaidForInEachPart =
    (ring : Ring) (later earlier : Run) (s : ℕ)
    → IsRun ring (later ++ earlier) → looked (trail_of (Sender s) earlier) ≡ None
    → losses s (later ++ earlier) + overtakings s earlier ≤ losses s earlier + overtakings s (later ++ earlier)

-- a look, and an exchange won or lost
abbrev pub is_try : Event → Bool
is_try (Look found) = true
is_try (Won body number) = true
is_try (Lost body closes found) = true
is_try e = false

-- None of these events is a look or an exchange of this sender.
abbrev pub MakesNoTry : ℕ → Run → Type 0
MakesNoTry s [] = ⊤
MakesNoTry s (x ∷ xs) = (same (Sender s) x.0 ≡ true → is_try x.1 ≡ false) × MakesNoTry s xs

-- a step that the run took since the older one, and that changed the control word
pub record ChangeSince (geometry : ℕ) (older run : Run) : Type 0 where
  pub later : Run
  pub who : Who
  pub event : Event
  pub earlier : Run
  pub run_is : run ≡ later ++ (who, event) ∷ (earlier ++ older)
  pub changed : Changes geometry (world (earlier ++ older)) who event

-- Since the older run somebody else changed the control word.
abbrev pub WasOvertaken : ℕ → Who → Run → Run → Type 0
WasOvertaken geometry mine older run = (c : ChangeSince geometry older run) × (c.who ≢ mine)

-- Since the older run this sender closed the open ring itself.
abbrev pub ClosedItself : ℕ → ℕ → Run → Run → Type 0
ClosedItself geometry s older run = (c : ChangeSince geometry older run) × (c.who ≡ Sender s) × (c.event ≡ Close)

-- Since its last look the sender has tried nothing, and it was overtaken or closed the ring.
pub record HasStaleLook (ring : Ring) (s : ℕ) (run : Run) : Type 0 where
  pub newer : Run
  pub older : Run
  pub run_is : run ≡ newer ++ older
  pub since : MakesNoTry s newer
  pub seen : Control
  pub looked : looked (trail_of (Sender s) older) ≡ Some seen
  pub changed : WasOvertaken ring.geometry (Sender s) older run ⊎ ClosedItself ring.geometry s older run

-- So it is before each lost exchange.
abbrev pub EachLossHadAStaleLook : Type 0
EachLossHadAStaleLook =
    (ring : Ring) (run : Run) (s : ℕ) (body : List Raw) (closes : Bool) (found : Control)
    → IsGeometry ring.geometry → IsRun ring ((Sender s, Lost body closes found) ∷ run) → HasStaleLook ring s run

-- Between two losses of one sender it is overtaken once more.
abbrev pub LossesAreOvertakenApart : Type 0
LossesAreOvertakenApart =
    (ring : Ring) (between earlier : Run) (s : ℕ) (one two : List Raw) (closes closes_too : Bool) (found found_too : Control)
    → IsRun ring ((Sender s, Lost two closes_too found_too) ∷ (between ++ (Sender s, Lost one closes found) ∷ earlier))
    → suc (overtakings s earlier) ≤ overtakings s (between ++ (Sender s, Lost one closes found) ∷ earlier)

-- All losses together are at most senders times changes.
abbrev pub AllLossesArePaidFor : Type 0
AllLossesArePaidFor = (ring : Ring) (senders : ℕ) (run : Run) → OnlyOf senders run → IsRun ring run → all_losses run ≤ senders * changes run

-- So in a ring whose senders may make so many batches, only so many exchanges are ever lost.
abbrev pub LossesAreBounded : Type 0
LossesAreBounded =
    (ring : Ring) (senders : ℕ) (run : Run)
    → OnlyOf senders run → IsRun ring run → all_losses run ≤ senders * (128 * (senders * ring.max_batches) + 1)
