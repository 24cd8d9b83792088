use Rattle.std.proofs.Common.{ap, ap₂, codes, ◌≡◌, ◌∙◌, true}
use Rattle.std.proofs.lemmas.Result.{IfOk-weaker}
use Rattle.clap.specs.Words.{Rule, rule_of, with_rule}
use Rattle.command_line.specs.CommandLine as spec
use Rattle.command_line.proofs.convert_arguments.of_guest.Goals as goal

abbrev must : Rule → Rule
must r = record r { required = true }

pub returns : goal.returns
returns c =
    let vmid : rule_of c.required.result ≡ spec.wanted_text (codes "vmid") = ap rule_of c.required.ensures ∙ ap must c.text.ensures.rule in
    let one = c.in_ok-arg.ensures.shape (ap (λ (a : _). a.global) c.required.ensures ∙ c.text.ensures.local) ∙ ap₂ with_rule c.without_options.ensures vmid in
    IfOk-weaker c.arg-2.result _ _ (λ command h. h.shape c.repeated.ensures.local ∙ ap₂ with_rule one c.repeated.ensures.rule) c.arg-2.ensures
