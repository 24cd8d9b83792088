-- What the parts of a program do to what it keeps between two lines. `Stands` says when what is kept once
-- the ring is made stands for a state of the definition.
use Rattle.std.specs.Prelude.{◌≡◌, ℕ, ◌≤◌, List, [], ◌++◌, Bool, true, Option, Some, None}
use Rattle.script.specs.declared.first.First.{First}
use Rattle.script.specs.declared.first.First.TheVariants.{Nothing, Made, Fault}
use Rattle.script.specs.Effects.{Effect, answers, faults}
use Rattle.script.specs.Texts.{ring_text}

-- The same, before the ring is made too.
abbrev pub StandsAt : {Kept State : Type 0} → (Kept → State → Type 0) → Option Kept → Option State → Type 0
StandsAt Stands None None = Unit {0}
StandsAt Stands None (Some state) = ⊥
StandsAt Stands (Some kept) None = ⊥
StandsAt Stands (Some kept) (Some state) = Stands kept state

-- In one of two cases, memory running out or not, the effect has this text and goes on so; if it goes on, `new` stands
-- for the state after it.
pub record Produces {Kept State : Type 0} (Stands : Kept → State → Type 0) (effect : Bool → Effect State) (new : Option Kept) (answer : List ℕ) (goes_on : Bool) : Type 0 where
  pub wanting : Bool
  pub text : (effect wanting).text ≡ answer
  pub ending : (effect wanting).goes_on ≡ goes_on
  pub after : goes_on ≡ true → StandsAt Stands new (effect wanting).state

-- What was appended is the text of the effect, and so on, from each state that `old` stands for.
pub record Acts {Kept State : Type 0} (Stands : Kept → State → Type 0) (effect : Bool → State → Effect State) (old new : Kept) (before after : List ℕ) (goes_on : Bool) : Type 0 where
  pub answer : List ℕ
  pub text : after ≡ before ++ answer
  pub produces : (state : State) → Stands old state → Produces Stands (λ wanting. effect wanting state) (Some new) answer goes_on

-- The same, before the ring is made too.
pub record ActsAt {Kept State : Type 0} (Stands : Kept → State → Type 0) (effect : Bool → Option State → Effect State) (old new : Option Kept) (before after : List ℕ) (goes_on : Bool) : Type 0 where
  pub answer : List ℕ
  pub text : after ≡ before ++ answer
  pub produces : (state : Option State) → StandsAt Stands old state → Produces Stands (λ wanting. effect wanting state) new answer goes_on

-- Before the ring is made, a request comes to what the effect does, whatever the line's number.
abbrev pub Begins : {Kept State : Type 0} → (Kept → State → Type 0) → First Kept → (ℕ → Effect State) → Type 0
Begins Stands Nothing effect = (number : ℕ) → effect number ≡ record { text = []; state = None; goes_on = true }
Begins {Kept} {State} Stands (Made log2 kept) effect = (log2 ≤ 19) × (state : State) × Stands kept state × ((number : ℕ) → effect number ≡ answers (ring_text log2) state)
Begins Stands (Fault name) effect = (number : ℕ) → effect number ≡ faults number name.now None
