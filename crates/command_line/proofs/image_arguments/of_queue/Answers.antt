use Rattle.std.proofs.Common.{ap, ap₂, ◌≡◌, ◌∙◌, true}
use Rattle.std.proofs.lemmas.Result.{IfOk-weaker}
use Rattle.clap.specs.Words.{Rule, rule_of, with_rule}
use Rattle.command_line.specs.CommandLine as spec
use Rattle.command_line.proofs.image_arguments.of_queue.Goals as goal

abbrev must : Rule → Rule
must r = record r { required = true }

pub returns : goal.returns
returns c =
    let prod : rule_of c.required.result ≡ spec.prod = ap rule_of c.required.ensures ∙ ap must c.text.ensures.rule in
    let cons : rule_of c.required-2.result ≡ spec.cons = ap rule_of c.required-2.ensures ∙ ap must c.text-2.ensures.rule in
    let one = c.in_ok-arg.ensures.shape c.number.ensures.local ∙ ap₂ with_rule c.without_options.ensures c.number.ensures.rule in
    let two = c.in_ok-arg-2.ensures.shape (ap (λ (a : _). a.global) c.required.ensures ∙ c.text.ensures.local) ∙ ap₂ with_rule one prod in
    IfOk-weaker c.arg-3.result _ _ (λ command h. h.shape (ap (λ (a : _). a.global) c.required-2.ensures ∙ c.text-2.ensures.local) ∙ ap₂ with_rule two cons) c.arg-3.ensures
