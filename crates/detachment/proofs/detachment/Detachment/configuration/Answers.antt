use Rattle.std.proofs.Common.{◌≡◌, All, sym, subst, rules}
use Rattle.smmu_features.specs.Commands.{IsLegalFor}
use Rattle.detachment.specs.Commands.{configuration_words}
use Rattle.detachment.proofs.LegalWords.{configuration_is_legal_for}
use Rattle.detachment.proofs.detachment.Detachment.configuration.Goals as goal

pub returns-then-self-clause-legal : goal.returns-then-self-clause-legal
returns-then-self-clause-legal c =
    let words : c.push_raw.new.self ≡ configuration_words c.args.self.now = search rules in
    subst (All (IsLegalFor c.args.self.now.smmu)) (sym words) (configuration_is_legal_for c.args.self.now)

pub returns-else-self-clause-legal : goal.returns-else-self-clause-legal
returns-else-self-clause-legal c =
    let words : c.unwrap-batch.result ≡ configuration_words c.args.self.now = search rules in
    subst (All (IsLegalFor c.args.self.now.smmu)) (sym words) (configuration_is_legal_for c.args.self.now)
