-- What is known of the caches once the engine and all senders are joined.
use Rattle.std.specs.Prelude.{◌≡◌, ℕ, ◌<◌, ◌≤◌, true, List, ◌∷◌, ◌++◌, None, Some, slice_get}
use Rattle.std.specs.FinMap as finite
use Rattle.cmdcodec.specs.declared.raw.Raw.{Raw}
use Rattle.cmdcodec.specs.declared.command.Command.{Command}
use Rattle.cmdcodec.specs.Spelling.{Spells}
use Rattle.cmdcodec.specs.Legality.{first_ill}
use Rattle.ringcore.specs.declared.world.event.Event.TheVariants.{Ask}
use Rattle.ringcore.specs.world.Trails.{Run, Trail}
use Rattle.ringcore.specs.world.World.{world}
use Rattle.ringcore.specs.world.Delivery.{joined}
use Rattle.ringcore.specs.world.Laws.{IsApplied}
use Rattle.caches.specs.declared.tag.Tag.{Tag}
use Rattle.caches.specs.declared.tag.Entry.{Entry}
use Rattle.caches.specs.Covers.{covers}
use Rattle.caches.specs.Held.{Entries}
use Rattle.ring.specs.Rings.{RingValue}
use Rattle.ring.specs.sender.Senders.{SenderValue}
use Rattle.ring.specs.Finishing.{SummaryValue, IsEnd, WasTold}
use Rattle.engine.specs.Settled.{IsSettled}
use Rattle.engine.specs.Counting.{CountsValue, taken, AreCountsOf}
use Rattle.engine.specs.Engines.{EngineValue}

-- These are the first commands that the ring ever had. No entry that a legal one of them covers was filled
-- before it was taken.
abbrev pub NoneIsOlder : Entries → List Raw → Type 0
NoneIsOlder entries first =
    (tag : Tag) (entry : Entry) → finite.get entries tag ≡ Some entry
    → (place : ℕ) (raw : Raw) (command : Command) → slice_get first place ≡ Some raw → first_ill raw ≡ None → Spells raw command → covers command tag ≡ true
    → place < entry.born

-- what was reserved before the closing sync of a batch that was applied
abbrev pub reserved_ahead : {run : Run} {s number : ℕ} → IsApplied run s number → List Raw
reserved_ahead applied = joined applied.completed.ahead ++ applied.completed.body

-- The sender was told this number. For each of its batches up to that number, the closing sync was applied
-- before, and no entry is older than a command that was reserved before that sync and covers it.
pub record WasToldTruly (run : Run) (entries : Entries) (s told : ℕ) (older : Trail) : Type 0 where
  pub was_told : WasTold run s told older
  pub none_older : (number : ℕ) (some : 1 ≤ number) (most : number ≤ told) → NoneIsOlder entries (reserved_ahead (was_told.applied number some most))

-- This holds for every number that the sender was told, by its trail.
abbrev pub WasToldAllTruly : Run → Entries → ℕ → Trail → Type 0
WasToldAllTruly run entries s trail = (newer older : Trail) (number : ℕ) → trail ≡ newer ++ Ask number ∷ older → WasToldTruly run entries s number older

-- One run has all steps. The entries are settled for what is taken in it, the counts are of that, and
-- whatever a sender was told in it was true.
pub record IsEngineEnd (ring : RingValue) (senders : List SenderValue) (engine : EngineValue) (end : SummaryValue) (counts : CountsValue) (entries : Entries) : Type 0 where
  pub end_is : IsEnd ring senders engine.consumer end
  pub settled : IsSettled entries (world end_is.run).taken
  pub told : (k : ℕ) (s : SenderValue) → slice_get senders k ≡ Some s → (newer older : Trail) (number : ℕ) → s.trail ≡ newer ++ Ask number ∷ older
      → WasToldTruly end_is.run entries k number older
  pub taken_are : end.taken ≡ taken counts
  pub counted : AreCountsOf (world end_is.run).taken counts
