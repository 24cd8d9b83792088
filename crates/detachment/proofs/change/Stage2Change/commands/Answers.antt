use Rattle.std.proofs.Common.{◌≡◌, [], Ok, All, sym, ◌∙◌, subst, rules}
use Rattle.smmu_features.specs.Commands.{IsLegalFor}
use Rattle.invalidations.specs.Plans.{planned}
use Rattle.invalidations.specs.Filling.{IsFilled}
use Rattle.detachment.specs.Changes.{IsChange}
use Rattle.detachment.proofs.ChangeLemmas.{exact_words, legal_words}
use Rattle.detachment.proofs.change.Stage2Change.commands.Goals as goal

pub returns-clause-exact : goal.returns-clause-exact
returns-clause-exact c =
    let change : IsChange c.args.self.now = subst IsChange c.self.view_is c.self.invariant in
    let made : planned c.args.self.now.invalidation c.args.self.now.smmu c.args.self.now.policy ≡ Ok c.unwrap-commands.result = search rules in
    let filled : IsFilled c.unwrap-commands.result c.fill.new.self [] c.fill.new.body.items = search rules in
    let body : c.unwrap.result ≡ c.fill.new.body.items = search rules in
    body ∙ exact_words c.invalidations_reach_their_bytes.ensures c.args.self.now change c.unwrap-commands.result c.fill.new.self c.fill.new.body.items made filled

pub returns-clause-legal : goal.returns-clause-legal
returns-clause-legal c =
    let change : IsChange c.args.self.now = subst IsChange c.self.view_is c.self.invariant in
    let made : planned c.args.self.now.invalidation c.args.self.now.smmu c.args.self.now.policy ≡ Ok c.unwrap-commands.result = search rules in
    let filled : IsFilled c.unwrap-commands.result c.fill.new.self [] c.fill.new.body.items = search rules in
    let body : c.unwrap.result ≡ c.fill.new.body.items = search rules in
    subst (All (IsLegalFor c.args.self.now.smmu)) (sym body)
    (legal_words c.invalidations_reach_their_bytes.ensures c.args.self.now change c.unwrap-commands.result c.fill.new.self c.fill.new.body.items made filled c.served_words_are_legal.ensures)
