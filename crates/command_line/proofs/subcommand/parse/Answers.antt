use Rattle.std.proofs.Common.{ap, refl, sym, subst, ◌≡◌, ◌∙◌, true, List, []}
use Rattle.clap.specs.Words.{App, app_of, is_simple, is_simple_and_free, fault_of, subcommand_of, HasKind}
use Rattle.clap.specs.Walk.{Text, texts}
use Rattle.clap.proofs.OnLiterals.{clap_on_literals}
use Rattle.clap.proofs.KindLemmas.{fails_by_from}
use Rattle.command_line.proofs.Asked.{asked}
use Rattle.command_line.specs.CommandLine as spec
use Rattle.command_line.proofs.subcommand.parse.Goals as goal

is_plain : is_simple spec.smmuq ≡ true
unfolding clap_on_literals
is_plain = refl

is_free : is_simple_and_free spec.smmuq ≡ true
unfolding clap_on_literals
is_free = refl

pub returns-in_err-matches-clause-kinds : goal.returns-in_err-matches-clause-kinds
returns-in_err-matches-clause-kinds c =
    let app : app_of c.in_ok-command_line.field-0 ≡ spec.smmuq = c.in_ok-command_line.ensures in
    let has = c.in_err-matches.ensures.kinds (ap is_simple_and_free app ∙ is_free) in
    fails_by_from _ c.from_residual-in_err-matches.result c.in_err-matches.field-0.0
    (subst (λ (a : App). HasKind (fault_of a (texts c.args.words.now)) c.in_err-matches.field-0.0) app has)
    c.from_residual-in_err-matches.ensures.0 c.from_residual-in_err-matches.ensures.1

no_fault : (a : App) (words : List Text) → a ≡ spec.smmuq → (is_simple_and_free a ≡ true → fault_of a words ≡ []) → fault_of spec.smmuq words ≡ []
no_fault a words is none = ap (λ x. fault_of x words) (sym is) ∙ none (ap is_simple_and_free is ∙ is_free)

pub returns-clause-asked : goal.returns-clause-asked
returns-clause-asked c =
    let app : app_of c.in_ok-command_line.field-0 ≡ spec.smmuq = c.in_ok-command_line.ensures in
    let is = (c.in_ok-matches.ensures.matches (ap is_simple app ∙ is_plain)).1 ∙ ap (λ (a : App). subcommand_of a (texts c.args.words.now)) app in
    asked (texts c.args.words.now) c.in_ok-subcommand_in.field-0 (no_fault _ _ app c.in_ok-matches.ensures.kinds)
    (subst (λ o. spec.Reads o c.in_ok-subcommand_in.field-0) is c.in_ok-subcommand_in.ensures)

pub returns-clause-kinds : goal.returns-clause-kinds
returns-clause-kinds c =
    let app : app_of c.in_ok-command_line.field-0 ≡ spec.smmuq = c.in_ok-command_line.ensures in
    no_fault _ _ app c.in_ok-matches.ensures.kinds
