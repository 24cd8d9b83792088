use Rattle.std.proofs.Common.{ap, ap₂, ◌≡◌, ◌∙◌, codes, true, ◌∷◌, []}
use Rattle.std.proofs.lemmas.Result.{IfOk-weaker}
use Rattle.clap.specs.Words.{Rule, rule_of, with_rule}
use Rattle.command_line.specs.CommandLine as spec
use Rattle.command_line.proofs.stress_numbers.stress.Goals as goal

abbrev must : Rule → Rule
must r = record r { required = true }

abbrev with_zero : Rule → Rule
with_zero r = record r { defaults = codes "0" ∷ [] }

pub returns : goal.returns
returns c =
    let log2 : rule_of c.required.result ≡ spec.log2 = ap rule_of c.required.ensures ∙ ap must c.number.ensures.rule in
    let senders : rule_of c.required-2.result ≡ spec.senders = ap rule_of c.required-2.ensures ∙ ap must c.number-2.ensures.rule in
    let batches : rule_of c.required-3.result ≡ spec.batches = ap rule_of c.required-3.ensures ∙ ap must c.number-3.ensures.rule in
    let turns : rule_of c.required-4.result ≡ spec.turns = ap rule_of c.required-4.ensures ∙ ap must c.number-4.ensures.rule in
    let bare : rule_of c.default_value.result ≡ spec.bare = ap rule_of c.default_value.ensures ∙ ap with_zero c.number-5.ensures.rule in
    let one = c.in_ok-arg.ensures.shape (ap (λ (a : _). a.global) c.required.ensures ∙ c.number.ensures.local) ∙ ap₂ with_rule c.without_options.ensures log2 in
    let two = c.in_ok-arg-2.ensures.shape (ap (λ (a : _). a.global) c.required-2.ensures ∙ c.number-2.ensures.local) ∙ ap₂ with_rule one senders in
    let three = c.in_ok-arg-3.ensures.shape (ap (λ (a : _). a.global) c.required-3.ensures ∙ c.number-3.ensures.local) ∙ ap₂ with_rule two batches in
    let four = c.in_ok-arg-4.ensures.shape (ap (λ (a : _). a.global) c.required-4.ensures ∙ c.number-4.ensures.local) ∙ ap₂ with_rule three turns in
    IfOk-weaker c.arg-5.result _ _ (λ command h. h.shape (ap (λ (a : _). a.global) c.default_value.ensures ∙ c.number-5.ensures.local) ∙ ap₂ with_rule four bare) c.arg-5.ensures
