use Rattle.std.proofs.Common.{◌≡◌, ℕ, ◌+◌, ◌-◌, length, take, drop, ap, ◌∙◌, arith}
use Rattle.ringcore.specs.machine.SenderViews.{SenderValue}
use Rattle.ringcore.proofs.MachineLemmas.SenderKnows.{any_flipped_of, says_any_flipped, any_flipped_known}
use Rattle.ringcore.proofs.machine.sender_view.SenderView.any_flipped.Goals as goal

pub returns : goal.returns
returns c = λ run s known inside.
    let offset : ℕ = c.args.offset in
    let count : ℕ = c.args.count in
    let places = c.self.invariant.places in
    let progress = ap (λ (v : SenderValue). length v.progress) c.self.view_is in
    let many : offset + count - offset ≡ count = omega arith in
    c.any_flipped.ensures ∙ ap (λ n. any_flipped_of (take n (drop offset c.self.inside.progress))) many
    ∙ ap (says_any_flipped offset count) c.self.view_is
    ∙ any_flipped_known run s c.args.self.now known offset count inside (omega (arith, places, progress, c.requires))
