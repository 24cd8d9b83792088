use Rattle.std.proofs.Common.{◌≡◌, true, All, sym, subst, rules}
use Rattle.smmu_features.specs.Commands.{IsLegalFor}
use Rattle.detachment.specs.Commands.{has_ats, endpoint_words}
use Rattle.detachment.proofs.LegalWords.{endpoint_is_legal_for}
use Rattle.detachment.proofs.detachment.Detachment.endpoint.Goals as goal

pub returns-clause-legal : goal.returns-clause-legal
returns-clause-legal c =
    let words : c.unwrap-4.result ≡ endpoint_words c.args.self.now = search rules in
    let has : has_ats c.args.self.now ≡ true = search rules in
    subst (All (IsLegalFor c.args.self.now.smmu)) (sym words) (endpoint_is_legal_for c.args.self.now has)
