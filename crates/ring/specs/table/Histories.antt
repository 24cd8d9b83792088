-- What a participant knows of the run: the run up to its newest step.
use Rattle.std.specs.Prelude.{◌≡◌, ℕ, ◌≤◌, List, [], ◌∷◌, ◌++◌, ⊤}
use Rattle.ring.specs.Runs.{Who, Event, Trail, Run, trail_of, World, head, tail, control, Ring, IsApplied}
use Rattle.ring.specs.table.Rule.{WentOn, Stands}

-- The trail is that of this run, after which the words stood by the rule.
pub record IsHistory (ring : Ring) (who : Who) (trail : Trail) (run : Run) : Type 0 where
  pub words : List ℕ
  pub stands : Stands ring who trail run words

-- The run grew by this event, which is its last and this participant's only one since the older run.
pub record GrewBy (who : Who) (e : Event) (older run : Run) : Type 0 where
  pub before : Run
  pub went_on : WentOn who older before
  pub run_is : run ≡ (who, e) ∷ before

-- This part of a run is empty, or its last step is this participant's.
abbrev pub EndsWith : Who → Run → Type 0
EndsWith who [] = ⊤
EndsWith who (x ∷ xs) = x.0 ≡ who

-- The run went on from an older one. The participant's trail grew by exactly its events since then, and the
-- newest of them is last: if it took no step, the run is the older one.
pub record Grew (who : Who) (old_trail trail : Trail) (older run : Run) : Type 0 where
  pub newer : Run
  pub run_is : run ≡ newer ++ older
  pub trail_is : trail ≡ trail_of who newer ++ old_trail
  pub last : EndsWith who newer

-- What grew twice grew by both.
abbrev pub GrowthAddsUp : Type 0
GrowthAddsUp =
    (who : Who) (first second third : Trail) (early later last : Run)
    → Grew who first second early later → Grew who second third later last → Grew who first third early last

-- What grew by one event has that event last, and no other of this participant since the older run.
abbrev pub OneStepIsLast : Type 0
OneStepIsLast =
    (who : Who) (e : Event) (trail : Trail) (older run : Run) → Grew who trail (e ∷ trail) older run → GrewBy who e older run

-- And what grew by none stayed.
abbrev pub NoStepIsNone : Type 0
NoStepIsNone = (who : Who) (trail : Trail) (older run : Run) → Grew who trail trail older run → run ≡ older

-- In this run all of a sender's numbers up to this one are done: each such closing sync, and all that was
-- reserved before it, was taken and applied.
abbrev pub AreApplied : Run → ℕ → ℕ → Type 0
AreApplied run s told = (number : ℕ) → 1 ≤ number → number ≤ told → IsApplied run s number

-- If prod and cons are equal, all that is reserved is taken.
abbrev pub EndsTellAll : ℕ → World → Type 0
EndsTellAll geometry w = (control geometry w).prod.number ≡ (control geometry w).cons.number → head w ≡ tail w
