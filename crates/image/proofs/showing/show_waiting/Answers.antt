use Rattle.std.proofs.Common.{◌≡◌, ◌<◌, ◌≤◌, ◌+◌, ◌++◌, get_or, length, string_bytes, sym, ap, ◌∙◌, arith}
use Rattle.std.proofs.lemmas.List.FromFn.{length-range_with_len, get_or-range_with_len}
use Rattle.std.proofs.lemmas.Result.{err_from_is_err_and}
use Rattle.image.specs.Queues.{waiting_of}
use Rattle.image.specs.Views.{positions, waiting_line}
use Rattle.image.proofs.ShownLemmas.{moved_all, moved_failed, moved_on, moved_part}
use Rattle.image.proofs.showing.show_waiting.Goals as goal

pub returns-in-Err-clause-err : goal.returns-in-Err-clause-err
returns-in-Err-clause-err g c = moved_part _ _ _ _ (waiting_line c.args.image.now c.args.queue.now.cons.geometry) (positions c.args.queue.now) c.steps.steps c.steps.invariant

pub returns-in_err-drain-clause-err : goal.returns-in_err-drain-clause-err
returns-in_err-drain-clause-err g c =
    let returned = err_from_is_err_and c.from_residual.result c.from_residual.ensures.1 in
    let ends : c.waiting-steps-end.result ≡ waiting_of c.args.queue.now = c.waiting-steps-end.ensures in
    let inside : c.steps.steps < length (positions c.args.queue.now) = omega (arith, length-range_with_len c.args.queue.now.cons.number (waiting_of c.args.queue.now)) in
    let at : get_or (positions c.args.queue.now) c.steps.steps 0 ≡ c.args.queue.now.cons.number + c.steps.steps = get_or-range_with_len c.args.queue.now.cons.number (waiting_of c.args.queue.now) c.steps.steps 0 (omega arith) in
    rw returned.1 (moved_failed _ _ _ _ _ (string_bytes c.say_waiting.new.text) (waiting_line c.args.image.now c.args.queue.now.cons.geometry) (positions c.args.queue.now) c.steps.steps inside c.steps.invariant
    (c.in_default.ensures ∙ ap (λ n. string_bytes c.steps.text ++ (waiting_line c.args.image.now c.args.queue.now.cons.geometry) n) (sym at)) c.in_err-drain.ensures.err)

pub steps-preserved : goal.steps-preserved
steps-preserved g c =
    let ends : c.waiting-steps-end.result ≡ waiting_of c.args.queue.now = c.waiting-steps-end.ensures in
    let inside : c.steps.steps < length (positions c.args.queue.now) = omega (arith, length-range_with_len c.args.queue.now.cons.number (waiting_of c.args.queue.now)) in
    let at : get_or (positions c.args.queue.now) c.steps.steps 0 ≡ c.args.queue.now.cons.number + c.steps.steps = get_or-range_with_len c.args.queue.now.cons.number (waiting_of c.args.queue.now) c.steps.steps 0 (omega arith) in
    moved_on _ _ _ _ _ (string_bytes c.say_waiting.new.text) _ (waiting_line c.args.image.now c.args.queue.now.cons.geometry) (positions c.args.queue.now) c.steps.steps inside c.steps.invariant
    (c.in_default.ensures ∙ ap (λ n. string_bytes c.steps.text ++ (waiting_line c.args.image.now c.args.queue.now.cons.geometry) n) (sym at)) c.in_ok-drain.ensures.ok

pub returns-clause-ok : goal.returns-clause-ok
returns-clause-ok g c =
    let ends : c.waiting-steps-end.result ≡ waiting_of c.args.queue.now = c.waiting-steps-end.ensures in
    let all : length (positions c.args.queue.now) ≤ c.steps.steps = omega (arith, length-range_with_len c.args.queue.now.cons.number (waiting_of c.args.queue.now)) in
    moved_all _ _ _ _ (waiting_line c.args.image.now c.args.queue.now.cons.geometry) (positions c.args.queue.now) c.steps.steps all c.steps.invariant
