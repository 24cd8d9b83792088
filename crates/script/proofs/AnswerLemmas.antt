-- Answers with text before them.
use Rattle.std.proofs.Common.{ℕ, List, ◌++◌, Option, Some, None, ap, sym, ◌∙◌, append_assoc}
use Rattle.script.specs.declared.ending.Ending.{Ending}
use Rattle.script.specs.declared.ending.Ending.TheVariants.{Finished, Refused}
use Rattle.script.specs.Answers.{Answer, with_text, EndsAs}

pub ends_front : (text : List ℕ) (answer : Answer) (more : List ℕ) (ending : Option Ending) → EndsAs answer more ending → EndsAs (with_text text answer) (text ++ more) ending
ends_front text answer more (Some Finished) e = ap (with_text text) e
ends_front text answer more (Some Refused) e = ap (with_text text) e
ends_front text answer more None e = (e.0, ap (λ t. text ++ t) e.1 ∙ sym (append_assoc text more e.0))
