use Rattle.std.proofs.Common.{◌≡◌, ℕ, List, [], Bool, cond, ◌+◌, ◌-◌, ◌<◌, ◌≤◌, ◌++◌, get_or, length, string_bytes, sym, ap, ◌∙◌, arith}
use Rattle.std.proofs.lemmas.List.{take_all}
use Rattle.std.proofs.lemmas.List.FromFn.{length-range_with_len, get_or-range_with_len}
use Rattle.std.specs.List.{after_last, flat_map}
use Rattle.cmdcodec.specs.Words.{decoding}
use Rattle.qindex.specs.Positions.{place, size}
use Rattle.image.specs.declared.queue.Queue.{Queue}
use Rattle.image.specs.Queues.{waiting_of}
use Rattle.image.specs.Slots.{raw_at}
use Rattle.image.specs.States.{is_sync_at, stream_text, taken_positions}
use Rattle.image.proofs.StreamLemmas.{since_more}
use Rattle.image.proofs.streams.streams_of.Goals as goal

abbrev ends : List ℕ → Queue → ℕ → Bool
ends image queue position = is_sync_at image queue (place queue.prod.geometry position)

abbrev stream : List ℕ → Queue → ℕ → List ℕ
stream image queue position = stream_text (decoding (raw_at image (place queue.prod.geometry position)))

pub slots-init : goal.slots-init
slots-init c = c.new-text.ensures.bytes

pub slots-preserved : goal.slots-preserved
slots-preserved c =
    let image = c.args.image.now in
    let queue = c.args.queue.now in
    let i = c.slots.steps in
    let taken = size queue.cons.geometry - waiting_of queue in
    let inside : i < length (taken_positions queue) = omega (arith, c.taken-steps-end.ensures, length-range_with_len queue.prod.number taken) in
    let at : get_or (taken_positions queue) i 0 ≡ queue.prod.number + i = get_or-range_with_len queue.prod.number taken i 0 (omega (arith, c.taken-steps-end.ensures)) in
    let slot_is : c.place-slot.result ≡ place queue.prod.geometry (get_or (taken_positions queue) i 0) =
    c.place-slot.ensures.position _ _ c.forward.ensures.value ∙ ap (place queue.prod.geometry) (sym at) in
    c.in_default.ensures
    ∙ ap (λ s. cond (is_sync_at image queue s) [] (string_bytes c.slots.text ++ stream_text (decoding (raw_at image s)))) slot_is
    ∙ ap (λ t. cond (ends image queue (get_or (taken_positions queue) i 0)) [] (t ++ stream image queue (get_or (taken_positions queue) i 0))) c.slots.invariant
    ∙ sym (since_more (ends image queue) (stream image queue) (taken_positions queue) i inside)

pub returns : goal.returns
returns c =
    let image = c.args.image.now in
    let queue = c.args.queue.now in
    let taken = size queue.cons.geometry - waiting_of queue in
    let all : length (taken_positions queue) ≤ c.slots.steps = omega (arith, c.taken-steps-end.ensures, length-range_with_len queue.prod.number taken) in
    c.slots.invariant ∙ ap (λ ys. flat_map (stream image queue) (after_last (ends image queue) ys)) (take_all c.slots.steps (taken_positions queue) all)
