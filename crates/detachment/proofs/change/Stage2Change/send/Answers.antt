use Rattle.std.proofs.Common.{All, sym, ◌∙◌, subst}
use Rattle.smmu_features.specs.Commands.{IsLegalFor}
use Rattle.detachment.specs.Changes.{change_words}
use Rattle.detachment.proofs.GoingOn.{not_at_all}
use Rattle.detachment.proofs.OrderLemmas.{sent_reserved}
use Rattle.detachment.proofs.change.Stage2Change.send.Goals as goal

pub changing-changing-requires : goal.changing-changing-requires
changing-changing-requires c =
    let reserved = sent_reserved c.commands.result c.args.tries c.args.sender c.in-Ok.sender c.in-Ok.receipt c.in-Ok.ensures.sent (change_words c.args.self) c.commands.ensures.exact in
    record {
      own = c.in-Ok.ensures.own ∙ sym c.in-Ok.ensures.went_on.number_is;
      legal = subst (All (IsLegalFor c.args.self.smmu)) c.commands.ensures.exact c.commands.ensures.legal;
      earlier = reserved.0;
      reserved = reserved.1;
    }

pub returns-in-Ok-clause-may_look : goal.returns-in-Ok-clause-may_look
returns-in-Ok-clause-may_look c = rw c.changing-changing.ensures (not_at_all _)
