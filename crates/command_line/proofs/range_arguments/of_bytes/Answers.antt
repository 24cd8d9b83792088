use Rattle.std.proofs.Common.{ap, ap₂, codes, ◌≡◌, ◌∙◌, true}
use Rattle.std.proofs.lemmas.Result.{IfOk-weaker}
use Rattle.clap.specs.Words.{Rule, rule_of, with_rule}
use Rattle.command_line.specs.CommandLine as spec
use Rattle.command_line.proofs.range_arguments.of_bytes.Goals as goal

abbrev must : Rule → Rule
must r = record r { required = true }

pub returns : goal.returns
returns c =
    let address : rule_of c.required.result ≡ spec.wanted_text (codes "address") = ap rule_of c.required.ensures ∙ ap must c.text.ensures.rule in
    let length : rule_of c.required-2.result ≡ spec.wanted_text (codes "length") = ap rule_of c.required-2.ensures ∙ ap must c.text-2.ensures.rule in
    let one = c.in_ok-arg.ensures.shape (ap (λ (a : _). a.global) c.required.ensures ∙ c.text.ensures.local) ∙ ap₂ with_rule c.in_ok-of_space.ensures address in
    IfOk-weaker c.arg-2.result _ _ (λ command h. h.shape (ap (λ (a : _). a.global) c.required-2.ensures ∙ c.text-2.ensures.local) ∙ ap₂ with_rule one length) c.arg-2.ensures
