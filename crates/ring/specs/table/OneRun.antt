-- The rule speaks of one run, which grows only at its end.
use Rattle.std.specs.Prelude.{◌≡◌, ◌≢◌, ℕ, List, [], ◌∷◌, length}
use mathlib.Core.Option.{some}
use lib.ListN.{get_elem?}
use Rattle.ring.specs.Runs.{Who, Event, Trail, Run, Ring}
use Rattle.ring.specs.table.Rule.{TableState, participant, RuleHolds}
use Rattle.ring.specs.table.Operations.{AreMadeBy}

-- If a seat of a single participant takes a step by which its trail grows by an event, and which leaves the
-- other views, the event is added at the end of the run, which otherwise stays as it was. So it is allowed,
-- and finds what it says, in the world as it was at the step.
abbrev pub IsOneRun : Type 0
IsOneRun =
    (ring : Ring) (s t : TableState) (before : RuleHolds ring s) (now : RuleHolds ring t)
    (id : ℕ) (z : Ring) (who : Who) (trail : Trail) (e : Event) (older newer : Run)
    → get_elem? s.views id ≡ some (participant z who trail older ∷ [])
    → get_elem? t.views id ≡ some (participant z who (e ∷ trail) newer ∷ [])
    → ((j : ℕ) → j ≢ id → get_elem? t.views j ≡ get_elem? s.views j)
    → now.run ≡ (who, e) ∷ before.run

-- After any step, with an event or without, the words are what the operations of the run's events made of
-- zeros.
abbrev pub WordsAreTheRuns : Type 0
WordsAreTheRuns = (ring : Ring) (s : TableState) (holds : RuleHolds ring s) → AreMadeBy ring holds.run s.words

-- There is only one such list: a store without an event would make another.
abbrev pub WordsAreOne : Type 0
WordsAreOne =
    (ring : Ring) (run : Run) (words others : List ℕ) → length words ≡ length others
    → AreMadeBy ring run words → AreMadeBy ring run others → words ≡ others
