use Rattle.std.proofs.Common.{◌≡◌, true, [], ◌∷◌, All, sym, subst, rules}
use Rattle.std.proofs.lemmas.List.Elements.{All-cons, All-nil}
use Rattle.cmdcodec.specs.declared.command.Command.TheVariants.{TlbiNhAll}
use Rattle.smmu_features.specs.Commands.{IsLegalFor}
use Rattle.detachment.proofs.change.Stage2Change.stage_1.Goals as goal

pub returns-in-Stage2-clause-legal : goal.returns-in-Stage2-clause-legal
returns-in-Stage2-clause-legal c =
    let words : c.unwrap.result ≡ c.encode.result ∷ [] = search rules in
    let stage_1 : c.args.self.now.smmu.stage_1 ≡ true = search rules in
    subst (All (IsLegalFor c.args.self.now.smmu)) (sym words)
    (All-cons (IsLegalFor c.args.self.now.smmu) c.encode.result [] (c.served_words_are_legal.ensures c.args.self.now.smmu (TlbiNhAll c.in-Stage2.vmid) c.encode.result stage_1 c.encode.ensures.spells)
    (All-nil (IsLegalFor c.args.self.now.smmu)))
