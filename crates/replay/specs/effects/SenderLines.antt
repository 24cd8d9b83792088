-- What the lines do by which a sender looks, closes, asks, and publishes what it reserved.
use Rattle.std.specs.Prelude.{ℕ, ⊤}
use Rattle.script.specs.Effects.{Effect}
use Rattle.simulator.specs.State.{State}
use Rattle.simulator.specs.Seats.{looked, closed, asked, published_by}
use Rattle.replay.specs.texts.SenderLines.{control_text, done_text, closed_text, published_text}
use Rattle.replay.specs.effects.Answering.{tells}
use Rattle.replay.specs.effects.SenderFaults.{settled_fault, reserved_fault, unless_fault}

abbrev pub look_effect : ℕ → ℕ → State → Effect State
look_effect number sender state = unless_fault number (settled_fault sender state) state (tells control_text (looked sender state))

abbrev pub close_effect : ℕ → ℕ → State → Effect State
close_effect number sender state = unless_fault number (settled_fault sender state) state (tells (λ (done : ⊤). closed_text) (closed sender state))

abbrev pub done_effect : ℕ → ℕ → State → Effect State
done_effect number sender state = unless_fault number (settled_fault sender state) state (tells (done_text sender) (asked sender state))

abbrev pub publish_effect : ℕ → ℕ → State → Effect State
publish_effect number sender state = unless_fault number (reserved_fault sender state) state (tells (published_text sender) (published_by sender state))
