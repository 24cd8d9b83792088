-- What a step tells: the one event that it added.
use Rattle.std.specs.Prelude.{◌≡◌, ℕ, cond, ◌==◌, List, [], ◌∷◌, ◌++◌}
use Rattle.atomic_table.specs.Table.{Step}
use Rattle.qindex.specs.ControlWord.{IsControlWord, control_in}
use Rattle.ring.specs.Runs.{Who, Event, Look, Won, Lost, Write, Flip, Test, Read, Advance, Close, Acknowledge, Ask, Trail, Run, taken_by, Ring}
use Rattle.ringcore.specs.memory.Flags.{ready_in}
use Rattle.ringcore.specs.machine.StepAnswers.{next_number}
use Rattle.ring.specs.declared.table.rule.Participant.{Participant}
use Rattle.ring.specs.table.Rule.{Holding, participant, WentOn, Stands, ring_of, who_of, trail_of_first, history_of_first}
use Rattle.ring.specs.table.Intents.{Intent, looks, reserves, writes, flips, tests, reads, advances, closes, acknowledges, asks}

-- The event of a step with this intent and this first operand, which found this word.
abbrev pub IsEventOf : Ring → Trail → Intent → ℕ → ℕ → Event → Type 0
IsEventOf ring trail looks operand word e = (e ≡ Look (control_in ring.geometry word)) × IsControlWord ring.geometry word
IsEventOf ring trail (reserves body closing) operand word e =
    e ≡ cond (word == operand) (Won body (next_number trail closing)) (Lost body closing (control_in ring.geometry word))
IsEventOf ring trail (writes offset half) operand word e = e ≡ Write offset half
IsEventOf ring trail (flips offset count) operand word e = e ≡ Flip offset count
IsEventOf ring trail (tests limit) operand word e = e ≡ Test limit (ready_in ring.geometry word (taken_by trail) limit)
IsEventOf ring trail (reads offset half) operand word e = e ≡ Read offset half word
IsEventOf ring trail (advances raws) operand word e = e ≡ Advance raws
IsEventOf ring trail closes operand word e = e ≡ Close
IsEventOf ring trail (acknowledges sender number) operand word e = e ≡ Acknowledge sender number
IsEventOf ring trail asks operand word e = e ≡ Ask word

-- The event is last in the run, which went on from this older one and had this trail before it.
pub record IsNewest (ring : Ring) (who : Who) (trail : Trail) (older run : Run) (e : Event) : Type 0 where
  pub words : List ℕ
  pub new_words : List ℕ
  pub went_on : WentOn who older run
  pub before : Stands ring who trail run words
  pub after : Stands ring who (e ∷ trail) ((who, e) ∷ run) new_words

-- A seat's trail grew by an event, which is last in the run and for which `says` holds with the word that was
-- found.
abbrev pub Added : Ring → Who → Trail → Run → (ℕ → Event → Type 0) → ℕ → Holding → Type 0
Added ring who trail older says word now =
    (e : Event) × (run : Run) × says word e × (now ≡ (participant ring who (e ∷ trail) ((who, e) ∷ run) ∷ [], [])) × IsNewest ring who trail older run e

abbrev pub adds_for : Intent → Step (Unit {0}) → Holding → ℕ → Holding → Type 0
adds_for intent step me word now =
    Added (ring_of me.0) (who_of me.0) (trail_of_first me.0) (history_of_first me.0) (IsEventOf (ring_of me.0) (trail_of_first me.0) intent step.first) word now

-- ---- a seat is cut in two

abbrev pub without_first : List Participant → List Participant
without_first [] = []
without_first (p ∷ ps) = ps

abbrev pub first_alone : List Participant → List Participant
first_alone [] = []
first_alone (p ∷ ps) = p ∷ []

-- and two are joined
abbrev pub both_of : List Participant → List Participant → List Participant
both_of mine theirs = theirs ++ mine
