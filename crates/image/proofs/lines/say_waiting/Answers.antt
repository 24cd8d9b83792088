use Rattle.std.proofs.Common.{◌≡◌, ℕ, List, ◌+◌, ◌++◌, ap, ap₂, ◌∙◌, append_assoc, string_bytes}
use Rattle.std.proofs.lemmas.Result.{on_ok_weaker}
use Rattle.qindex.specs.Positions.{place, wrap_bit}
use Rattle.image.specs.Views.{place_text, slot_text, waiting_line}
use Rattle.image.proofs.lines.say_waiting.Goals as goal

told : (image old mid new : List ℕ) (geometry position at wrap : ℕ) → mid ≡ old ++ place_text at wrap → at ≡ place geometry position → wrap ≡ wrap_bit geometry position
    → new ≡ mid ++ slot_text image at → new ≡ old ++ waiting_line image geometry position
told image old mid new geometry position at wrap first at_is wrap_is then =
    then
    ∙ ap (λ t. t ++ slot_text image at) first
    ∙ append_assoc old (place_text at wrap) (slot_text image at)
    ∙ ap₂ (λ a b. old ++ (place_text a b ++ slot_text image a)) at_is wrap_is

pub returns : goal.returns
returns c =
    on_ok_weaker c.say_slot_text.result
    (told c.args.image.now (string_bytes c.args.text.now) (string_bytes c.say_place.new.text) (string_bytes c.say_slot_text.new.text) c.args.cons.geometry (c.args.cons.number + c.args.steps)
    c.place-place.result c.wrap_bit.result c.in_ok-say_place.ensures (c.place-place.ensures.position _ _ c.forward-index.ensures.value) (c.wrap_bit.ensures _ _ c.forward-index.ensures.value))
    c.say_slot_text.ensures
