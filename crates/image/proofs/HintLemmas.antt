-- Which commands that wait look byte-swapped.
use Rattle.std.proofs.Common.{◌≡◌, ℕ, List, ◌+◌, ◌<◌, Bool, get_or, length, sym, ap, ◌∙◌, arith}
use Rattle.std.proofs.lemmas.List.FromFn.{length-range_with_len, get_or-range_with_len}
use Rattle.std.specs.List.{range_with_len}
use Rattle.qindex.specs.Positions.{place}
use Rattle.image.specs.declared.hint.Width.{Width}
use Rattle.image.specs.declared.queue.Queue.{Queue}
use Rattle.image.specs.Hints.{is_swapped, is_swapped_at}
use Rattle.image.specs.Queues.{waiting_of}
use Rattle.image.specs.Slots.{raw_at}

-- the positions from CONS on, as many as wait
abbrev pub waiting : Queue → List ℕ
waiting queue = range_with_len queue.cons.number (waiting_of queue)

pub inside : (queue : Queue) (steps : ℕ) → steps < waiting_of queue → steps < length (waiting queue)
inside queue steps few = omega (arith, few, length-range_with_len queue.cons.number (waiting_of queue))

-- What was found of a slot is so of the command that many positions after CONS.
pub found_at : (width : Width) (image : List ℕ) (queue : Queue) (steps slot : ℕ) (found : Bool) → steps < waiting_of queue → slot ≡ place queue.cons.geometry (queue.cons.number + steps)
    → found ≡ is_swapped width (raw_at image slot) → found ≡ is_swapped_at width image queue (get_or (waiting queue) steps 0)
found_at width image queue steps slot found few slot_is found_is =
    let at : get_or (waiting queue) steps 0 ≡ queue.cons.number + steps = get_or-range_with_len queue.cons.number (waiting_of queue) steps 0 few in
    found_is ∙ ap (λ s. is_swapped width (raw_at image s)) (slot_is ∙ ap (place queue.cons.geometry) (sym at))
