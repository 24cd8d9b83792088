use Rattle.std.proofs.Common.{length, ap, ◌∙◌}
use Rattle.ringcore.specs.machine.SenderViews.{SenderValue}
use Rattle.ringcore.proofs.MachineLemmas.SenderKnows.{length_known}
use Rattle.ringcore.proofs.machine.sender_view.SenderView.len.Goals as goal

pub returns-clause-reservation : goal.returns-clause-reservation
returns-clause-reservation c = λ run s known.
    ap length c.as_slice.ensures.value ∙ ap (λ (v : SenderValue). length v.commands) c.self.view_is ∙ length_known run s c.args.self.now known
