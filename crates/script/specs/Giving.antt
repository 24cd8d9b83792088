-- What lines of a kind of script may come to.
use Rattle.std.specs.Prelude.{ℕ, List, [], Bool, Option, Some, None, IfSome, ⊤}
use Rattle.script.specs.declared.ending.Ending.{Ending}
use Rattle.script.specs.Outcome.{Outcome}
use Rattle.script.specs.Answers.{EndsAs}
use Rattle.script.specs.Kinds.{Kind, answer_from, AllHold}
use Rattle.script.specs.Standing.{StandsAt}

-- In a run that came to an end, the kind's `holds` held after each line.
abbrev pub HeldThroughout : {State Request : Type 0} → Kind State Request → ℕ → List Bool → Option State → List (List ℕ) → Option Ending → Type 0
HeldThroughout kind number choice state lines None = ⊤
HeldThroughout kind number choice state lines (Some ending) = AllHold kind number choice state lines

-- what lines may come to from a state, under some choice of those at which memory runs out
abbrev pub MayCome : {State Request : Type 0} → Kind State Request → Option State → ℕ → List (List ℕ) → Outcome → Type 0
MayCome kind state number lines outcome =
    (choice : List Bool) × EndsAs (answer_from kind number choice state lines) outcome.text outcome.ending × HeldThroughout kind number choice state lines outcome.ending

-- what the lines of a script may come to
abbrev pub MayAnswer : {State Request : Type 0} → Kind State Request → ℕ → List (List ℕ) → Outcome → Type 0
MayAnswer kind number lines outcome = MayCome kind None number lines outcome

-- what the lines of a script come to if memory never runs out, as when the kind has no choice
abbrev pub Answers : {State Request : Type 0} → Kind State Request → ℕ → List (List ℕ) → Outcome → Type 0
Answers kind number lines outcome = EndsAs (answer_from kind number [] None lines) outcome.text outcome.ending

-- The kind's `holds` holds of each state that what is kept stands for.
abbrev pub Holds : {Kept State Request : Type 0} → Kind State Request → (Kept → State → Type 0) → Option Kept → Type 0
Holds {Kept} {State} kind Stands kept = (state : Option State) → StandsAt Stands kept state → IfSome state kind.holds

-- what lines may come to from each state that what is kept stands for
abbrev pub MayGive : {Kept State Request : Type 0} → Kind State Request → (Kept → State → Type 0) → Option Kept → ℕ → List (List ℕ) → Outcome → Type 0
MayGive {Kept} {State} kind Stands kept number lines outcome = (state : Option State) → StandsAt Stands kept state → MayCome kind state number lines outcome
