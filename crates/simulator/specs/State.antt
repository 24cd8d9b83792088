-- The SMMU's queue and caches, by their histories: what happened to each, and what is read off that.
use Rattle.std.specs.Prelude.{ℕ, ◌+◌, ◌-◌, ◌*◌, ◌^◌, not, List, [], ◌∷◌}
use Rattle.std.specs.FinMap as finite
use Rattle.cmdcodec.specs.declared.command.Command.{Command}
use Rattle.cmdcodec.specs.Opcodes.{is_sync}
use Rattle.qindex.specs.Positions.{index_of}
use Rattle.ring.specs.Runs.{Sender, Trail, Run, trail_of, Taken, tail, head, world, Ring}
use Rattle.caches.specs.Held.{Entries, History, Fill, Evict, Take, held, without_covered}
use Rattle.engine.specs.declared.answer.Registers.{Registers}
use Rattle.engine.specs.Stops.{StopValue, unstopped, err_of, word_of}
use Rattle.engine.specs.Counting.{CountsValue, how_many, is_applied}
use Rattle.engine.specs.Units.{UnitValue}
use Rattle.ring.specs.NewRings.{made_with}
use Rattle.simulator.specs.declared.shape.Shape.{Shape}

-- The ring, and how many entries the caches may hold; all that happened to the ring, the newest first, and to the
-- caches; and the state of the stop at an illegal command.
pub record State : Type 0 where
  pub ring : Ring
  pub capacity : ℕ
  pub run : Run
  pub history : History
  pub stop : StopValue

-- before anything happened
abbrev pub made : Shape → State
made shape = record {
  ring = made_with shape.log2 shape.senders shape.max_batches;
  capacity = shape.capacity;
  run = [];
  history = [];
  stop = unstopped;
}

-- the answer to a call, and the state after it
pub record Answered (Answer : Type 0) : Type 0 where
  pub answer : Answer
  pub state : State

-- ---- what is read off it

abbrev pub mine : ℕ → State → Trail
mine s state = trail_of (Sender s) state.run

abbrev pub entries : State → Entries
entries state = held state.history

-- how many commands were taken
abbrev pub taken_so_far : State → ℕ
taken_so_far state = head (world state.run)

-- how many entries a command removes from these
abbrev pub removed_from : Command → Entries → ℕ
removed_from command entries = finite.len entries - finite.len (without_covered command entries)

-- how many a history's commands removed
abbrev pub removed_in : History → ℕ
removed_in [] = 0
removed_in (Fill entry ∷ history) = removed_in history
removed_in (Evict tag ∷ history) = removed_in history
removed_in (Take command ∷ history) = removed_in history + removed_from command (held history)

-- the counts of the commands that were taken
abbrev pub counts_of : List Taken → History → CountsValue
counts_of taken history = record {
  applied = how_many (λ t. is_applied t.outcome) taken;
  replaced = how_many (λ t. not (is_applied t.outcome)) taken;
  syncs = how_many (λ t. is_sync t.raw) taken;
  removed = removed_in history;
}

abbrev pub counted : Run → History → CountsValue
counted run history = counts_of (world run).taken history

-- the unit: its caches, its stop and its counts
abbrev pub unit_of : State → UnitValue
unit_of state = record {
  caches = record { capacity = state.capacity; entries = entries state };
  stop = state.stop;
  counts = counted state.run state.history;
}

-- the queue's registers
abbrev pub registers : State → Registers
registers state =
    let w = world state.run in
    record {
      prod = (index_of state.ring.geometry (tail w)).number;
      cons = (index_of state.ring.geometry (head w)).number + err_of state.stop.mode * 2 ^ 24;
      gerror = word_of state.stop.error;
      gerrorn = word_of state.stop.acknowledged;
    }

abbrev pub registers_told : State → Answered Registers
registers_told state = record { answer = registers state; state = state }
