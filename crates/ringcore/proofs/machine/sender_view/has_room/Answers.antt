use Rattle.std.proofs.Common.{sym, ◌∙◌}
use Rattle.ringcore.proofs.machine.sender_view.has_room.Goals as goal

pub distance-requires : goal.distance-requires
distance-requires c = let is = c.requires.control c.in-Some.found c.in-Some.is in record { one_ring = is.prod_geometry ∙ sym is.cons_geometry }
