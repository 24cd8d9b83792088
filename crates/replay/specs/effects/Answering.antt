-- An effect whose text tells what was answered.
use Rattle.std.specs.Prelude.{ℕ, List}
use Rattle.script.specs.Effects.{Effect, answers}
use Rattle.simulator.specs.State.{State, Answered}

abbrev pub tells : {Answer : Type 0} → (Answer → List ℕ) → Answered Answer → Effect State
tells text told = answers (text told.answer) told.state
