-- What the line that makes the ring does.
use Rattle.std.specs.Prelude.{ℕ, Option, Some, None}
use Rattle.script.specs.Effects.{Effect, answers, faults}
use Rattle.script.specs.Texts.{ring_text}
use Rattle.simulator.specs.declared.shape.Shape.{Shape}
use Rattle.simulator.specs.declared.shape.ShapeFault.{ShapeFault}
use Rattle.simulator.specs.Shapes.{shape_label}
use Rattle.simulator.specs.State.{State, made}

-- given which of its numbers is out of range, if one is
abbrev pub ring_or_fault : ℕ → Shape → Option ShapeFault → Effect State
ring_or_fault number shape (Some fault) = faults number (shape_label fault) None
ring_or_fault number shape None = answers (ring_text shape.log2) (made shape)
