use Rattle.std.proofs.Common.{ap₂, ◌∙◌}
use Rattle.std.proofs.lemmas.Result.{IfOk-weaker}
use Rattle.clap.specs.Words.{with_rule}
use Rattle.command_line.proofs.range_arguments.of_tables.Goals as goal

pub returns : goal.returns
returns c =
    let one = c.in_ok-arg.ensures.shape c.text.ensures.local ∙ ap₂ with_rule c.in_ok-of_bytes.ensures c.text.ensures.rule in
    let two = c.in_ok-arg-2.ensures.shape c.flag.ensures.local ∙ ap₂ with_rule one c.flag.ensures.rule in
    IfOk-weaker c.arg-3.result _ _ (λ command h. h.shape c.number.ensures.local ∙ ap₂ with_rule two c.number.ensures.rule) c.arg-3.ensures
