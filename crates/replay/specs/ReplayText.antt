-- The text that a script of `replay` is answered with.
use Rattle.std.specs.Prelude.{ℕ, List, [], Bool, true, Some, None, codes}
use Rattle.script.specs.Answers.{Answer}
use Rattle.script.specs.Effects.{Effect, answers, faults}
use Rattle.script.specs.Kinds as kinds
use Rattle.script.specs.Kinds.{Kind}
use Rattle.simulator.specs.Shapes.{shape_fault}
use Rattle.ring.specs.table.Keeping.{RunStands}
use Rattle.simulator.specs.State.{State}
use Rattle.replay.specs.declared.request.Request.{Request}
use Rattle.replay.specs.declared.request.Request.TheVariants as asks
use Rattle.replay.specs.requests.Whole.{named}
use Rattle.replay.specs.effects.RingLine.{ring_or_fault}
use Rattle.replay.specs.effects.CacheLines.{fill_effect, evict_effect, lookup_effect}
use Rattle.replay.specs.effects.SendLines.{send_effect}
use Rattle.replay.specs.effects.SenderLines.{look_effect, close_effect, done_effect, publish_effect}
use Rattle.replay.specs.effects.UnitLines.{step_effect, acknowledge_effect, dump_effect}

-- what a request does once the ring is made
unfoldable pub served : ℕ → Bool → Request → State → Effect State
served number wanting asks.Nothing state = answers [] state
served number wanting (asks.Ring shape) state = faults number (codes "second ring") (Some state)
served number wanting (asks.Fill tag value) state = fill_effect wanting tag value state
served number wanting (asks.Evict tag) state = evict_effect tag state
served number wanting (asks.Lookup tag) state = lookup_effect tag state
served number wanting (asks.Send sending) state = send_effect number sending state
served number wanting (asks.Publish sender) state = publish_effect number sender state
served number wanting (asks.Step count) state = step_effect count state
served number wanting (asks.Acknowledge gerrorn remedy) state = acknowledge_effect gerrorn remedy state
served number wanting (asks.Done sender) state = done_effect number sender state
served number wanting (asks.Look sender) state = look_effect number sender state
served number wanting (asks.Close sender) state = close_effect number sender state
served number wanting asks.Dump state = dump_effect state

-- what a request does before the ring is made
unfoldable pub first_served : ℕ → Request → Effect State
first_served number asks.Nothing = record { text = []; state = None; goes_on = true }
first_served number (asks.Ring shape) = ring_or_fault number shape (shape_fault shape)
first_served number request = faults number (codes "no ring") None

-- Memory may run out at a fill of a new tag that there is room for. The events of each state are a run of the ring:
-- with some words the ring stands as after them, and only its senders and its consumer took steps.
abbrev pub replays : Kind State Request
replays = record { nothing = asks.Nothing; named = named; first_served = first_served; served = served; holds = λ state. RunStands state.ring state.run }

-- The answer to a script. If memory never runs out the choice is [].
abbrev pub answer_to : List Bool → List ℕ → Answer
answer_to choice script = kinds.answer_to replays choice script
