-- The report of a run, and what is so of each.
use Rattle.std.specs.Prelude.{◌≡◌, ℕ, ◌≤◌, true, List, ◌∷◌, length, Some, slice_get}
use Rattle.std.specs.FinMap as finite
use Rattle.ringcore.specs.declared.world.event.Event.TheVariants.{Ask}
use Rattle.ringcore.specs.world.Trails.{Trail}
use Rattle.ring.specs.Rings.{RingValue}
use Rattle.ring.specs.sender.Senders.{SenderValue}
use Rattle.ring.specs.NewRings.{made_with}
use Rattle.ring.specs.Finishing.{SummaryValue, AreAll}
use Rattle.engine.specs.Counting.{CountsValue}
use Rattle.engine.specs.Engines.{EngineValue}
use Rattle.engine.specs.Ends.{IsEngineEnd}
use Rattle.stress.specs.Plans.{PlanValue}
use Rattle.stress.specs.Workers.{HaveSent}
use Rattle.stress.specs.EngineTurns.{IsStarted, HasGivenUp}
use Rattle.stress.specs.Totals.{all_commands, all_syncs}

-- its plan, the ring's summary and the engine's counts at the end, how many entries are held then, and what each
-- sender's ask found
pub record ReportValue : Type 0 where
  pub plan : PlanValue
  pub summary : SummaryValue
  pub counts : CountsValue
  pub entries : ℕ
  pub done : List ℕ

-- The numbers are the plan's, for every schedule.
pub record IsAsPlanned (plan : PlanValue) (r : ReportValue) : Type 0 where
  pub plan_is : r.plan ≡ plan
  pub commands : r.summary.reserved ≡ all_commands plan
  pub taken : r.summary.taken ≡ all_commands plan
  pub syncs : r.counts.syncs ≡ all_syncs plan
  pub applied : r.counts.applied ≡ all_commands plan
  pub replaced : r.counts.replaced ≡ 0
  pub removed : r.counts.removed ≡ plan.senders
  pub entries : r.entries ≡ 0
  pub closed : r.summary.closed ≡ true
  pub done : length r.done ≡ plan.senders

-- The newest step of each sender is an ask, which found what is told, at most `most`.
pub record HaveAsked (most : ℕ) (senders : List SenderValue) (done : List ℕ) : Type 0 where
  pub each : (k : ℕ) (s : SenderValue) (found : ℕ) → slice_get senders k ≡ Some s → slice_get done k ≡ Some found
      → (found ≤ most) × (older : Trail) × (s.trail ≡ Ask found ∷ older)
  pub many : length done ≡ length senders

-- There was a ring of the plan's numbers with all of its senders, each of which sent the plan's batches, and with an
-- engine that held just the plan's first entries at its start and took all its turns. Their end is what it tells.
pub record IsOfARun (plan : PlanValue) (r : ReportValue) : Type 0 where
  pub ring : RingValue
  pub senders : List SenderValue
  pub engine : EngineValue
  pub made_is : ring.made_with ≡ made_with plan.log2 plan.senders plan.batches
  pub all : AreAll ring senders
  pub sent : HaveSent plan senders
  pub started : IsStarted plan.senders plan.turns ring engine
  pub end : IsEngineEnd ring senders engine r.summary r.counts engine.unit.caches.entries
  pub counts_are : r.counts ≡ engine.unit.counts
  pub entries_are : r.entries ≡ finite.len engine.unit.caches.entries
  pub asked : HaveAsked plan.batches senders r.done

-- There was a ring of the plan's numbers, with an engine that held just the plan's first entries at its start and took
-- all its turns. After them it was given up.
pub record IsUnfinished (plan : PlanValue) : Type 0 where
  pub ring : RingValue
  pub engine : EngineValue
  pub end : EngineValue
  pub made_is : ring.made_with ≡ made_with plan.log2 plan.senders plan.batches
  pub started : IsStarted plan.senders plan.turns ring engine
  pub given_up : HasGivenUp plan engine end
