use Rattle.std.proofs.Common.{string_bytes}
use Rattle.image.specs.Showings.{Moved}
use Rattle.image.specs.Views.{slots, slot_line}
use Rattle.image.proofs.ShownLemmas.{first_lines}
use Rattle.image.proofs.showing.show_slots.Given as goal

abbrev pub invariant-slots : goal.invariant-slots
invariant-slots g l =
    Moved (g.W.Write.contents l.fn.output) (g.W.Write.contents l.output) (string_bytes l.fn.text) (string_bytes l.text)
    (first_lines (slot_line l.image l.queue) (slots l.queue) l.slot)
