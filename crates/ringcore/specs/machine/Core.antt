-- What the machine with one owner stands for: a run, as its words and its seats know it.
use Rattle.std.specs.Prelude.{◌≡◌, ℕ, ◌≤◌, Bool, List, [], ◌∷◌, length, Option, Some, None, Result, Ok, Err, slice_get}
use Rattle.cmdcodec.specs.declared.raw.Raw.{Raw}
use Rattle.cmdcodec.specs.Bodies.{most_batches}
use Rattle.qindex.specs.declared.control.Control.{Control}
use Rattle.ringcore.specs.Limits.{most_senders, flags_a_word}
use Rattle.ringcore.specs.declared.world.event.Who.TheVariants.{Sender}
use Rattle.ringcore.specs.declared.machine.step.Step.{Step}
use Rattle.ringcore.specs.declared.machine.step.Step.TheVariants.{Reserve}
use Rattle.ringcore.specs.declared.machine.step.Seen.{Seen}
use Rattle.ringcore.specs.declared.machine.step_fault.StepFault.{StepFault}
use Rattle.ringcore.specs.declared.ring_fault.RingFault.{RingFault}
use Rattle.ringcore.specs.RingFaults.{number_fault}
use Rattle.ringcore.specs.declared.machine.Core.TheInside.{Inside}
use Rattle.ringcore.specs.world.Trails.{Run, trail_of, looked}
use Rattle.ringcore.specs.world.World.{world, control}
use Rattle.ringcore.specs.world.Laws.{OnlyOf}
use Rattle.ringcore.specs.world.Allowed.{Ring}
use Rattle.ringcore.specs.memory.Shadow.{AreAfter}
use Rattle.ringcore.specs.memory.WordStores.{WordsValue}
use Rattle.ringcore.specs.machine.SenderViews.{SenderValue, Knows}
use Rattle.ringcore.specs.machine.ConsumerViews.{ConsumerValue, ConsumerKnows}
use Rattle.ringcore.specs.machine.SyncTallies.{AreTallies}
use Rattle.ringcore.specs.machine.Faults.{fault_of}
use Rattle.ringcore.specs.machine.Played.{played}
use Rattle.ringcore.specs.machine.StepAnswers.{is_same_word, event_of, seen_of}

-- the machine as contracts see it
pub record CoreValue : Type 0 where
  pub words : WordsValue
  pub senders : List SenderValue
  pub consumer : ConsumerValue
  pub tallies : List ℕ

-- the value of a machine, by its fields
abbrev pub core_of : Inside → CoreValue
core_of inside = record { words = inside.words; senders = inside.senders.items; consumer = inside.consumer; tallies = inside.tallies }

-- Each sender may reserve as many batches as there are numbers.
abbrev pub ring_with : ℕ → ℕ → Ring
ring_with geometry senders = record { geometry = geometry; senders = senders; max_batches = most_batches; flags = flags_a_word }

abbrev pub ring_of : CoreValue → Ring
ring_of core = ring_with core.words.geometry core.words.senders

-- After this run each sender knows its view.
abbrev pub AllKnow : Run → List SenderValue → Type 0
AllKnow run views = (s : ℕ) (view : SenderValue) → slice_get views s ≡ Some view → Knows run s view

-- Whenever all senders of a ring know these views, P holds of the ring and the run.
abbrev pub WhereAllKnow : List SenderValue → ℕ → (Ring → Run → Type 0) → Type 0
WhereAllKnow views geometry P =
    (ring : Ring) (run : Run) → ring.geometry ≡ geometry → ring.senders ≡ length views → AllKnow run views → P ring run

-- The machine stands as after this run: its words do, only its seats took steps, and each seat knows what its
-- trail says.
pub record StandsAfter (core : CoreValue) (run : Run) : Type 0 where
  pub words_are : AreAfter (ring_of core) run core.words.words
  pub only : OnlyOf core.words.senders run
  pub senders_know : AllKnow run core.senders
  pub consumer_knows : ConsumerKnows run core.consumer
  pub tallies_are : AreTallies run core.tallies

-- A machine has at most as many senders as a ring may have, a view and a tally for each, and stands as after
-- some run.
pub record IsMachine (core : CoreValue) : Type 0 where
  pub few : core.words.senders ≤ most_senders
  pub views : length core.senders ≡ core.words.senders
  pub counts : length core.tallies ≡ core.words.senders
  pub run : Run
  pub stands : StandsAfter core run

-- P holds after each run that the machine may stand as after.
abbrev pub AfterEachRun : CoreValue → (Run → Type 0) → Type 0
AfterEachRun core P = (run : Run) → StandsAfter core run → P run

-- ---- what a step does to it

-- the step that reserves these commands
abbrev pub reserving : ℕ → List Raw → Bool → Step
reserving s body closes = Reserve s (record { items = body }) closes

-- the answer to a step after a run
abbrev pub answer_to : Ring → Run → Step → Seen
answer_to ring run step = let event = event_of ring run step in seen_of ring (world run) event.0 event.1

-- After a run the step has no fault and this answer, and then the machine stands as after its event.
pub record IsTakenAfter (old new : CoreValue) (step : Step) (seen : Seen) (run : Run) : Type 0 where
  pub no_fault : fault_of (ring_of old) run step ≡ None
  pub answer : seen ≡ answer_to (ring_of old) run step
  pub stands : StandsAfter new (event_of (ring_of old) run step ∷ run)

abbrev pub IsTaken : CoreValue → CoreValue → Step → Seen → Type 0
IsTaken old new step seen = AfterEachRun old (IsTakenAfter old new step seen)

abbrev pub IsRefused : CoreValue → Step → StepFault → Type 0
IsRefused core step fault = AfterEachRun core (λ run. fault_of (ring_of core) run step ≡ Some fault)

-- A step is taken or refused, and a refusal changes nothing.
abbrev pub IsTakenOrRefused : CoreValue → CoreValue → Step → Result Seen StepFault → Type 0
IsTakenOrRefused old new step (Ok seen) = IsTaken old new step seen × (ring_of new ≡ ring_of old)
IsTakenOrRefused old new step (Err fault) = IsRefused old step fault × (new ≡ old)

-- The step has no fault, and P holds.
abbrev pub HasNoFault : CoreValue → Step → (Run → Type 0) → Type 0
HasNoFault core step P = AfterEachRun core (λ run. (fault_of (ring_of core) run step ≡ None) × P run)

-- The control word says this after a run, and `same` says whether it is still what the sender looked at.
abbrev pub FindsControl : CoreValue → Run → ℕ → Control → Bool → Type 0
FindsControl core run s found same =
    (found ≡ control core.words.geometry (world run)) × (is_same_word (looked (trail_of (Sender s) run)) found ≡ same)

-- ---- how it is made, and a list of steps

-- the first of its numbers that is out of range
abbrev pub core_fault : ℕ → ℕ → Option RingFault
core_fault log2 senders = number_fault log2 senders most_batches

-- A new machine, before the first step.
pub record IsNew (core : CoreValue) (log2 senders : ℕ) : Type 0 where
  pub numbers : core_fault log2 senders ≡ None
  pub ring : ring_of core ≡ ring_with log2 senders
  pub stands : StandsAfter core []

-- Steps were played from an empty ring: the machine stands as after them, and `refused` is the one that was
-- refused, if any.
pub record HasPlayed (log2 senders : ℕ) (steps : List Step) (core : CoreValue) (refused : Option (ℕ × StepFault)) : Type 0 where
  pub numbers : core_fault log2 senders ≡ None
  pub ring : ring_of core ≡ ring_with log2 senders
  pub stands : StandsAfter core (played (ring_with log2 senders) steps).run
  pub refused_is : refused ≡ (played (ring_with log2 senders) steps).refused
