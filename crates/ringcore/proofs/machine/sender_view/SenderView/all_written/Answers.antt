use Rattle.std.proofs.Common.{◌≡◌, ℕ, ◌+◌, ◌-◌, length, take, drop, ap, ◌∙◌, arith}
use Rattle.ringcore.specs.machine.SenderViews.{SenderValue}
use Rattle.ringcore.proofs.MachineLemmas.SenderKnows.{all_written_of, says_all_written, all_written_known}
use Rattle.ringcore.proofs.machine.sender_view.SenderView.all_written.Goals as goal

pub returns : goal.returns
returns c = λ run s known inside.
    let offset : ℕ = c.args.offset in
    let count : ℕ = c.args.count in
    let places = c.self.invariant.places in
    let progress = ap (λ (v : SenderValue). length v.progress) c.self.view_is in
    let many : offset + count - offset ≡ count = omega arith in
    c.all_written.ensures ∙ ap (λ n. all_written_of (take n (drop offset c.self.inside.progress))) many
    ∙ ap (says_all_written offset count) c.self.view_is
    ∙ all_written_known run s c.args.self.now known offset count inside (omega (arith, places, progress, c.requires))
