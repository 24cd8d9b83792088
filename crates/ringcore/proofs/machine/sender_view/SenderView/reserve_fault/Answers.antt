use Rattle.std.proofs.Common.{sym, ap, ◌∙◌}
use Rattle.ringcore.specs.machine.SenderViews.{SenderValue}
use Rattle.ringcore.proofs.machine.sender_view.SenderView.reserve_fault.Goals as goal

pub has_room-requires-clause-control : goal.has_room-requires-clause-control
has_room-requires-clause-control c = λ found is. c.requires found (sym (ap (λ (v : SenderValue). v.looked) c.self.view_is) ∙ is)
