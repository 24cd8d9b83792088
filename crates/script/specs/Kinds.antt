-- A kind of script: what its lines do one after another, and the text that such a script is answered with.
use Rattle.std.specs.Prelude.{◌≡◌, ℕ, ◌+◌, nat_lt, List, [], ◌∷◌, Bool, true, false, Option, Some, None, IfSome, ⊤, length, codes, if◌then◌else◌}
use Rattle.std.specs.List.{list_all}
use Rattle.script.specs.Words.{words_of}
use Rattle.script.specs.Fields.{is_comment, is_printable}
use Rattle.script.specs.Lines.{lines_of}
use Rattle.script.specs.Answers.{Answer, with_text}
use Rattle.script.specs.Effects.{Effect, faults}

-- `State` is how things stand once the ring is made, `Request` what a line may ask for. `nothing` is what a comment or
-- an empty line asks for, `named` what others ask for by the first word and those after it (None is a bad line). What a
-- request does in the line of a number: `first_served` before the ring is made, `served` after, with memory running out
-- or not. `holds` is true of each state that a run comes to.
pub record Kind (State Request : Type 0) : Type 1 where
  pub nothing : Request
  pub named : List ℕ → List (List ℕ) → Option Request
  pub first_served : ℕ → Request → Effect State
  pub served : ℕ → Bool → Request → State → Effect State
  pub holds : State → Type 0

-- ---- a line

abbrev pub request_from : {State Request : Type 0} → Kind State Request → List (List ℕ) → Option Request
request_from kind [] = Some kind.nothing
request_from kind (name ∷ words) = if is_comment name then Some kind.nothing else kind.named name words

-- what a line asks for; None is a bad line
unfoldable pub request_of : {State Request : Type 0} → Kind State Request → List ℕ → Option Request
request_of kind line = if list_all is_printable line then request_from kind (words_of line) else None

unfoldable pub request_effect : {State Request : Type 0} → Kind State Request → ℕ → Bool → Request → Option State → Effect State
request_effect kind number wanting request None = kind.first_served number request
request_effect kind number wanting request (Some state) = kind.served number wanting request state

abbrev pub asked_effect : {State Request : Type 0} → Kind State Request → ℕ → Bool → Option Request → Option State → Effect State
asked_effect kind number wanting None state = faults number (codes "bad line") state
asked_effect kind number wanting (Some request) state = request_effect kind number wanting request state

-- what the line of this number does
unfoldable pub line_effect : {State Request : Type 0} → Kind State Request → ℕ → Bool → List ℕ → Option State → Effect State
line_effect kind number wanting line state =
    if nat_lt 4096 (length line) then faults number (codes "long line") state
    else asked_effect kind number wanting (request_of kind line) state

-- ---- one line after another

abbrev pub after_effect : {State : Type 0} → Effect State → (Option State → Answer) → Answer
after_effect effect rest =
    if effect.goes_on then with_text effect.text (rest effect.state) else record { text = effect.text; is_good = false }

-- whether memory runs out at the first of some lines; it doesn't if the choice is empty
abbrev pub first_choice : List Bool → Bool
first_choice [] = false
first_choice (wanting ∷ choice) = wanting

abbrev pub later_choice : List Bool → List Bool
later_choice [] = []
later_choice (wanting ∷ choice) = choice

-- The answer to lines, the first of which has this number. `choice` says at which lines memory runs out.
unfoldable pub answer_from : {State Request : Type 0} → Kind State Request → ℕ → List Bool → Option State → List (List ℕ) → Answer
answer_from kind number choice state [] = record { text = []; is_good = true }
answer_from kind number choice state (line ∷ lines) =
    after_effect (line_effect kind number (first_choice choice) line state) (λ left. answer_from kind (number + 1) (later_choice choice) left lines)

-- The kind's `holds` holds after each of these lines that the run goes on from.
unfoldable pub AllHold : {State Request : Type 0} → Kind State Request → ℕ → List Bool → Option State → List (List ℕ) → Type 0
AllHold kind number choice state [] = ⊤
AllHold kind number choice state (line ∷ lines) =
    let effect = line_effect kind number (first_choice choice) line state in
    effect.goes_on ≡ true → IfSome effect.state kind.holds × AllHold kind (number + 1) (later_choice choice) effect.state lines

-- The answer to a script. If memory never runs out the choice is [].
abbrev pub answer_to : {State Request : Type 0} → Kind State Request → List Bool → List ℕ → Answer
answer_to kind choice script = answer_from kind 1 choice None (lines_of script)

-- No request of the kind looks at whether memory runs out. A script of such a kind has one answer.
abbrev pub HasNoChoice : {State Request : Type 0} → Kind State Request → Type 0
HasNoChoice {State} {Request} kind = (number : ℕ) (wanting : Bool) (request : Request) (state : State) → kind.served number wanting request state ≡ kind.served number false request state
