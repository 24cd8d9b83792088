use Rattle.std.proofs.Common.{◌≡◌, ◌<◌, ◌≤◌, ◌++◌, get_or, length, string_bytes, sym, ap, ◌∙◌, arith}
use Rattle.std.proofs.lemmas.List.FromFn.{length-range_with_len, get_or-range_with_len}
use Rattle.std.proofs.lemmas.Result.{err_from_is_err_and}
use Rattle.qindex.specs.Positions.{size}
use Rattle.image.specs.Views.{slots, slot_line}
use Rattle.image.proofs.ShownLemmas.{moved_all, moved_failed, moved_on, moved_part}
use Rattle.image.proofs.showing.show_slots.Goals as goal

pub returns-in-Err-clause-err : goal.returns-in-Err-clause-err
returns-in-Err-clause-err g c = moved_part _ _ _ _ (slot_line c.args.image.now c.args.queue.now) (slots c.args.queue.now) c.slots.slot c.slots.invariant

pub returns-in_err-drain-clause-err : goal.returns-in_err-drain-clause-err
returns-in_err-drain-clause-err g c =
    let returned = err_from_is_err_and c.from_residual.result c.from_residual.ensures.1 in
    let ends : c.size-slot-end.result ≡ size c.args.queue.now.cons.geometry = c.size-slot-end.ensures.value ∙ ap size c.geometry.ensures in
    let inside : c.slots.slot < length (slots c.args.queue.now) = omega (arith, length-range_with_len 0 (size c.args.queue.now.cons.geometry)) in
    let at : get_or (slots c.args.queue.now) c.slots.slot 0 ≡ c.slots.slot = get_or-range_with_len 0 (size c.args.queue.now.cons.geometry) c.slots.slot 0 (omega arith) ∙ omega arith in
    rw returned.1 (moved_failed _ _ _ _ _ (string_bytes c.say_slot.new.text) (slot_line c.args.image.now c.args.queue.now) (slots c.args.queue.now) c.slots.slot inside c.slots.invariant
    (c.in_default.ensures ∙ ap (λ n. string_bytes c.slots.text ++ (slot_line c.args.image.now c.args.queue.now) n) (sym at)) c.in_err-drain.ensures.err)

pub slots-preserved : goal.slots-preserved
slots-preserved g c =
    let ends : c.size-slot-end.result ≡ size c.args.queue.now.cons.geometry = c.size-slot-end.ensures.value ∙ ap size c.geometry.ensures in
    let inside : c.slots.slot < length (slots c.args.queue.now) = omega (arith, length-range_with_len 0 (size c.args.queue.now.cons.geometry)) in
    let at : get_or (slots c.args.queue.now) c.slots.slot 0 ≡ c.slots.slot = get_or-range_with_len 0 (size c.args.queue.now.cons.geometry) c.slots.slot 0 (omega arith) ∙ omega arith in
    moved_on _ _ _ _ _ (string_bytes c.say_slot.new.text) _ (slot_line c.args.image.now c.args.queue.now) (slots c.args.queue.now) c.slots.slot inside c.slots.invariant
    (c.in_default.ensures ∙ ap (λ n. string_bytes c.slots.text ++ (slot_line c.args.image.now c.args.queue.now) n) (sym at)) c.in_ok-drain.ensures.ok

pub returns-clause-ok : goal.returns-clause-ok
returns-clause-ok g c =
    let ends : c.size-slot-end.result ≡ size c.args.queue.now.cons.geometry = c.size-slot-end.ensures.value ∙ ap size c.geometry.ensures in
    let all : length (slots c.args.queue.now) ≤ c.slots.slot = omega (arith, length-range_with_len 0 (size c.args.queue.now.cons.geometry)) in
    moved_all _ _ _ _ (slot_line c.args.image.now c.args.queue.now) (slots c.args.queue.now) c.slots.slot all c.slots.invariant
