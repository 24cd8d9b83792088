use Rattle.std.proofs.Common.{string_bytes}
use Rattle.image.specs.Showings.{Moved}
use Rattle.image.specs.Views.{positions, waiting_line}
use Rattle.image.proofs.ShownLemmas.{first_lines}
use Rattle.image.proofs.showing.show_waiting.Given as goal

abbrev pub invariant-steps : goal.invariant-steps
invariant-steps g l =
    Moved (g.W.Write.contents l.fn.output) (g.W.Write.contents l.output) (string_bytes l.fn.text) (string_bytes l.text)
    (first_lines (waiting_line l.image l.queue.cons.geometry) (positions l.queue) l.steps)
