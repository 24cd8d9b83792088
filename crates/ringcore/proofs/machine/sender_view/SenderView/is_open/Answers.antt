use Rattle.std.proofs.Common.{length, take, ap, ◌∙◌, arith}
use Rattle.ringcore.specs.machine.SenderViews.{SenderValue}
use Rattle.ringcore.proofs.MachineLemmas.SenderKnows.{says_open, any_unflipped_of, open_known}
use Rattle.ringcore.proofs.machine.sender_view.SenderView.is_open.Goals as goal

pub returns : goal.returns
returns c = λ run s known.
    let places = c.self.invariant.places in
    let few = c.self.invariant.few in
    let commands = ap (λ (v : SenderValue). length v.commands) c.self.view_is in
    let progress = ap (λ (v : SenderValue). length v.progress) c.self.view_is in
    c.any_unflipped.ensures ∙ ap (λ n. any_unflipped_of (take n c.self.inside.progress)) (ap length c.as_slice-many.ensures.value)
    ∙ ap says_open c.self.view_is ∙ open_known run s c.args.self.now known (omega (arith, places, few, commands, progress))
