use Rattle.std.proofs.Common.{◌≡◌, ◌<◌, ◌≤◌, length, refl, sym, ap, ◌∙◌, arith}
use Rattle.std.proofs.lemmas.Bool.{and_from}
use Rattle.std.proofs.lemmas.List.{take_all}
use Rattle.std.proofs.lemmas.List.FromFn.{length-range_with_len}
use Rattle.std.proofs.lemmas.List.Folds.{list_all_at, list_all_more}
use Rattle.std.specs.List.{list_all}
use Rattle.image.specs.Hints.{is_swapped, is_swapped_at}
use Rattle.image.specs.Queues.{waiting_of}
use Rattle.image.proofs.HintLemmas.{found_at, inside, waiting}
use Rattle.image.proofs.hint.are_swapped.Goals as goal

pub steps-init : goal.steps-init
steps-init c = refl

pub returns-then-not-is_swapped : goal.returns-then-not-is_swapped
returns-then-not-is_swapped c =
    let queue = c.args.queue.now in
    let few : c.steps.steps < waiting_of queue = omega (arith, c.waiting-steps-end.ensures) in
    let found = found_at c.args.width c.args.image.now queue c.steps.steps c.place-slot.result c.is_swapped.result few (c.place-slot.ensures.position _ _ c.forward.ensures.value)
    (c.is_swapped.ensures ∙ ap (is_swapped c.args.width) c.raw_at.ensures) in
    sym (list_all_at (is_swapped_at c.args.width c.args.image.now queue) (waiting queue) c.steps.steps 0 (inside queue c.steps.steps few) (sym found ∙ c.if-not-is_swapped.true))

pub steps-preserved : goal.steps-preserved
steps-preserved c =
    let queue = c.args.queue.now in
    let few : c.steps.steps < waiting_of queue = omega (arith, c.waiting-steps-end.ensures) in
    let found = found_at c.args.width c.args.image.now queue c.steps.steps c.place-slot.result c.is_swapped.result few (c.place-slot.ensures.position _ _ c.forward.ensures.value)
    (c.is_swapped.ensures ∙ ap (is_swapped c.args.width) c.raw_at.ensures) in
    list_all_more (is_swapped_at c.args.width c.args.image.now queue) (waiting queue) c.steps.steps 0 (inside queue c.steps.steps few)
    ∙ and_from _ _ c.steps.invariant (sym found ∙ c.if-not-is_swapped.false)

pub returns : goal.returns
returns c =
    let queue = c.args.queue.now in
    let all : length (waiting queue) ≤ c.steps.steps = omega (arith, c.waiting-steps-end.ensures, length-range_with_len queue.cons.number (waiting_of queue)) in
    sym (ap (list_all (is_swapped_at c.args.width c.args.image.now queue)) (sym (take_all c.steps.steps _ all)) ∙ c.steps.invariant)
