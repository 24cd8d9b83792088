-- What a sender knows that was told.
use Rattle.std.specs.Prelude.{◌≡◌, ◌<◌, ◌≤◌, ℕ, true, List, ◌∷◌, ◌++◌, None, Some, slice_get}
use Rattle.cmdcodec.specs.declared.raw.Raw.{Raw}
use Rattle.cmdcodec.specs.declared.command.Command.{Command}
use Rattle.cmdcodec.specs.Spelling.{Spells}
use Rattle.cmdcodec.specs.Legality.{first_ill}
use Rattle.ringcore.specs.declared.world.event.Event.TheVariants.{Ask}
use Rattle.ringcore.specs.world.Trails.{Run, Trail}
use Rattle.engine.specs.Ends.{WasToldTruly, reserved_ahead}
use Rattle.transactions.specs.declared.outstanding.OutstandingTransaction.{OutstandingTransaction}
use Rattle.transactions.specs.Coverage.{concerns}
use Rattle.transactions.specs.Outstanding.{Slots}
use Rattle.ring.specs.sender.Senders.{SenderValue}
use Rattle.ring.specs.table.Rule.{WentOn}
use Rattle.ring.specs.table.Histories.{IsHistory}
use Rattle.ringcore.specs.declared.world.event.Who.TheVariants.{Consumer, Sender}
use Rattle.transactions.specs.Tracking.{TrackedValue}
use Rattle.transactions.specs.Together.{TrackedConsumer}

-- These are the first commands that the ring ever had. No transaction is outstanding that a legal
-- one of them concerns and that uses what was born before that was taken.
abbrev pub NoOutstandingIsOlder : Slots → List Raw → Type 0
NoOutstandingIsOlder slots first =
    (slot : ℕ) (o : OutstandingTransaction) → slice_get slots slot ≡ Some (Some o)
    → (place : ℕ) (raw : Raw) (command : Command) → slice_get first place ≡ Some raw
    → first_ill raw ≡ None → Spells raw command → concerns command o.used ≡ true
    → place < o.born

-- The sender was told this number, and truly of the entries that are held. For each of its batches
-- up to that number, no transaction is outstanding that uses what is older than a command which
-- was reserved before that batch's closing sync and concerns it.
pub record WasToldFully (run : Run) (t : TrackedValue) (s told : ℕ) (older : Trail) : Type 0 where
  pub truly : WasToldTruly run t.unit.caches.entries s told older
  pub none_outstanding : (number : ℕ) (some : 1 ≤ number) (most : number ≤ told)
      → NoOutstandingIsOlder t.outstanding
      (reserved_ahead (truly.was_told.applied number some most))

-- This holds for every number that the sender was told, by its trail.
abbrev pub WasToldAllFully : Run → TrackedValue → SenderValue → Type 0
WasToldAllFully run t s =
    (newer older : Trail) (number : ℕ)
    → s.trail ≡ newer ++ Ask number ∷ older → WasToldFully run t s.number number older

-- ---- the run that both know after a meeting

-- It has all steps of the sender, or of the consumer.
abbrev pub HasSenderSteps : SenderValue → Run → Type 0
HasSenderSteps s run = IsHistory s.ring.made_with (Sender s.number) s.trail run

abbrev pub HasConsumerSteps : TrackedConsumer → Run → Type 0
HasConsumerSteps consumer run = IsHistory consumer.ring.made_with Consumer consumer.trail run

-- It continues the run that the sender knew before.
abbrev pub SenderWentOn : SenderValue → Run → Type 0
SenderWentOn s run = WentOn (Sender s.number) s.history run
