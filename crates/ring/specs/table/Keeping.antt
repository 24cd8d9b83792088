-- A seat of several participants who know the same run: one of them gets its own seat, and comes back.
use Rattle.std.specs.Prelude.{◌≡◌, ℕ, ◌-◌, cond, List, [], ◌∷◌, ◌++◌, length, take, ⊤}
use Rattle.ring.specs.Runs.{Who, Trail, Run, same, trail_of, Ring, OnlyOf}
use Rattle.ringcore.specs.memory.Shadow.{AreAfter}
use Rattle.ring.specs.declared.table.rule.Participant.{Participant}
use Rattle.ring.specs.table.Rule.{participant, IsWithinLimits, ring_of, history_of_first}

-- With some words the ring stands as after this run, and nobody but its participants took a step.
pub record RunStands (ring : Ring) (run : Run) : Type 0 where
  pub limits : IsWithinLimits ring
  pub words : List ℕ
  pub after : AreAfter ring run words
  pub only : OnlyOf ring.senders run

-- one of a ring's participants, who knows this whole run
abbrev pub one_of_run : Ring → Run → Who → Participant
one_of_run ring run who = participant ring who (trail_of who run) run

-- Each of these knows this run.
abbrev pub AllKnow : Ring → Run → List Participant → Type 0
AllKnow ring run [] = ⊤
AllKnow ring run (p ∷ ps) = (p ≡ one_of_run ring run p.who) × AllKnow ring run ps

-- ---- one of them gets its own seat

abbrev pub without : Who → List Participant → List Participant
without who [] = []
without who (p ∷ ps) = cond (same p.who who) (without who ps) (p ∷ without who ps)

abbrev pub own_part : Who → List Participant → List Participant
own_part who all = one_of_run (ring_of all) (history_of_first all) who ∷ []

-- ---- what it added meanwhile

-- a run of these events, all by this participant
abbrev pub run_by : Who → Trail → Run
run_by who [] = []
run_by who (e ∷ es) = (who, e) ∷ run_by who es

-- the run, followed by the events by which this participant's trail is longer than in it
abbrev pub grown_run : Who → Run → Trail → Run
grown_run who run trail = run_by who (take (length trail - length (trail_of who run)) trail) ++ run
