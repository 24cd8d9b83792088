use Rattle.std.proofs.Common.{ap₂, ◌∙◌}
use Rattle.std.proofs.lemmas.Result.{IfOk-weaker}
use Rattle.clap.specs.Words.{with_rule}
use Rattle.command_line.proofs.range_arguments.of_space.Goals as goal

pub returns : goal.returns
returns c =
    let one = c.in_ok-arg.ensures.shape c.text.ensures.local ∙ ap₂ with_rule c.without_options.ensures c.text.ensures.rule in
    let two = c.in_ok-arg-2.ensures.shape c.text-2.ensures.local ∙ ap₂ with_rule one c.text-2.ensures.rule in
    let three = c.in_ok-arg-3.ensures.shape c.flag.ensures.local ∙ ap₂ with_rule two c.flag.ensures.rule in
    IfOk-weaker c.arg-4.result _ _ (λ command h. h.shape c.flag-2.ensures.local ∙ ap₂ with_rule three c.flag-2.ensures.rule) c.arg-4.ensures
