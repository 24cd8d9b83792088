use Rattle.std.proofs.Common.{sym, ◌∙◌}
use Rattle.image.proofs.ViewLemmas.{read_and_answered, refused_at_once}
use Rattle.image.proofs.viewing.serve.Goals as goal

pub returns-in-Ok-read_image-clause-answer : goal.returns-in-Ok-read_image-clause-answer
returns-in-Ok-read_image-clause-answer g c =
    read_and_answered c.args.asked.now c.in-Ok.request c.in-Ok-read_image.bytes.items c.answer_input.result _ _ _ _ (sym c.of.ensures.value ∙ c.in-Ok.is)
    c.in-Ok-read_image.ensures.read c.in-Ok-read_image.ensures.end (rw c.as_slice.ensures.value at c.answer_input.ensures.answer)

pub returns-in-Err-clause-answer : goal.returns-in-Err-clause-answer
returns-in-Err-clause-answer g c = refused_at_once c.args.asked.now c.in-Err.fault c.answer_fault.result _ _ _ (sym c.of.ensures.value ∙ c.in-Err.is) c.answer_fault.ensures.answer
