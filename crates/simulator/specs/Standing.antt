-- When a simulator stands for a state, and what its calls do.
use Rattle.std.specs.Prelude.{◌≡◌, ℕ, Bool, Option, Some, None}
use Rattle.ring.specs.Runs.{Sender, trail_of}
use Rattle.ringcore.specs.machine.Open.{is_open}
use Rattle.ring.specs.Keepers.{KeeperValue, IdleConsumerValue, IsIdleConsumer, own_consumer}
use Rattle.engine.specs.declared.answer.StepAnswer.{StepAnswer}
use Rattle.engine.specs.Units.{UnitValue}
use Rattle.engine.specs.Engines.{AreTogether}
use Rattle.simulator.specs.queue.{QueueValue}
use Rattle.simulator.specs.State.{State, Answered, unit_of}
use Rattle.simulator.specs.Steps.{stepped}

pub record SimulatorValue : Type 0 where
  pub queue : QueueValue
  pub unit : UnitValue

-- The ring and the run are the keeper's, all else is the unit's.
pub record StandFor (keeper : KeeperValue) (unit : UnitValue) (state : State) : Type 0 where
  pub ring : keeper.ring.made_with ≡ state.ring
  pub run : keeper.run ≡ state.run
  pub unit_is : unit ≡ unit_of state

abbrev pub Stands : SimulatorValue → State → Type 0
Stands simulator state = StandFor simulator.queue.keeper simulator.unit state

-- ---- what always holds

-- what is left of the consumer between two calls: it is there
abbrev pub IsThere : KeeperValue → Option (IdleConsumerValue UnitValue) → Type 0
IsThere keeper None = ⊥
IsThere keeper (Some idle) = IsIdleConsumer keeper idle.head idle.taken

-- The unit has taken what the consumer has, and is settled for it; both stand for some state.
pub record IsSimulator (queue : QueueValue) (consumer : Option (IdleConsumerValue UnitValue)) (unit : UnitValue) : Type 0 where
  pub there : IsThere queue.keeper consumer
  pub together : AreTogether (own_consumer None queue.keeper) unit
  pub state : State
  pub stands : StandFor queue.keeper unit state

-- ---- what calls do

-- Whatever state it stood for, this was answered, and it stands for the state after.
abbrev pub Does : {Answer : Type 0} → SimulatorValue → SimulatorValue → Answer → (State → Answered Answer) → Type 0
Does old new answer then = (state : State) → Stands old state → (answer ≡ (then state).answer) × Stands new (then state).state

-- The same in one of two cases: memory runs out, or it doesn't.
abbrev pub MayDo : {Answer : Type 0} → SimulatorValue → SimulatorValue → Answer → (Bool → State → Answered Answer) → Type 0
MayDo old new answer then = (state : State) → Stands old state → (wanting : Bool) × (answer ≡ (then wanting state).answer) × Stands new (then wanting state).state

-- P holds of any state that it stands for.
abbrev pub Tells : SimulatorValue → (State → Type 0) → Type 0
Tells simulator P = (state : State) → Stands simulator state → P state

-- A sender has an open reservation, or has none.
abbrev pub HasOpen : SimulatorValue → ℕ → Bool → Type 0
HasOpen simulator s whether = is_open (trail_of (Sender s) simulator.queue.keeper.run) ≡ whether

-- Whatever state a keeper and a unit stood for, its step is answered so, and they stand for the state after it.
abbrev pub AreStepped : KeeperValue → UnitValue → KeeperValue → UnitValue → StepAnswer → Type 0
AreStepped keeper unit kept moved answer =
    (state : State) → StandFor keeper unit state → (answer ≡ (stepped state).answer) × StandFor kept moved (stepped state).state
