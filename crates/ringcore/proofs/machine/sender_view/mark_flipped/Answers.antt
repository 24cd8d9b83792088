use Rattle.std.proofs.Common.{◌≡◌, ℕ, ◌-◌, List, ap, ◌∙◌, arith}
use Rattle.std.specs.Prelude.{slice_index_or}
use Rattle.ringcore.specs.declared.machine.sender_view.Progress.{Progress}
use Rattle.ringcore.specs.machine.SenderViews.{untouched}
use Rattle.ringcore.proofs.MachineLemmas.MarkedFlipped.{turned_to, turned_are}
use Rattle.ringcore.proofs.machine.sender_view.mark_flipped.Goals as goal

pub returns : goal.returns
returns c = λ k.
    let first : ℕ = c.args.first in
    let old : List Progress = c.args.commands.now in
    let all : c.loop-place.place - first ≡ c.args.count = omega (arith, c.loop-place-test.false, c.loop-place.auto.place-end) in
    ap (λ (l : List Progress). slice_index_or l k untouched) (c.loop-place.invariant ∙ ap (turned_to first old) all)
    ∙ turned_are first old c.args.count c.requires k
