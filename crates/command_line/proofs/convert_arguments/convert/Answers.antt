use Rattle.std.proofs.Common.{ap₂, ◌∙◌}
use Rattle.std.proofs.lemmas.Result.{IfOk-weaker}
use Rattle.clap.specs.Words.{with_rule}
use Rattle.command_line.proofs.convert_arguments.convert.Goals as goal

pub returns : goal.returns
returns c =
    let one = c.in_ok-arg.ensures.shape c.flag.ensures.local ∙ ap₂ with_rule c.in_ok-without_features.ensures c.flag.ensures.rule in
    IfOk-weaker c.arg-2.result _ _ (λ command h. h.shape c.number.ensures.local ∙ ap₂ with_rule one c.number.ensures.rule) c.arg-2.ensures
