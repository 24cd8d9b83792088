use Rattle.std.proofs.Common.{◌≡◌, subst, sym, ◌∙◌, rules}
use Rattle.detachment.specs.Commands.{endpoint_words}
use Rattle.detachment.specs.Values.{IsConfigured}
use Rattle.ring.proofs.SenderLemmas.GoingOn.{on_again}
use Rattle.detachment.proofs.GoingOn.{not_at_all}
use Rattle.detachment.proofs.OrderLemmas.{sent_behind}
use Rattle.detachment.proofs.configured.Configured.send.Goals as goal

pub returns-in-Ok-clause-may_look : goal.returns-in-Ok-clause-may_look
returns-in-Ok-clause-may_look c = rw c.leaving-leaving.ensures (not_at_all _)

pub returns-in-Err-clause-may_send : goal.returns-in-Err-clause-may_send
returns-in-Err-clause-may_send c = on_again c.requires.same_sender c.in-Err.ensures.given_back

pub leaving-leaving-requires : goal.leaving-leaving-requires
leaving-leaving-requires c =
    let keeps : IsConfigured c.args.self = subst IsConfigured c.self.view_is c.self.invariant in
    let words : c.unwrap-batch.result ≡ endpoint_words c.args.self.stream = search rules in record {
      own = c.in-Ok.ensures.own ∙ sym c.in-Ok.ensures.went_on.number_is;
      order =
          sent_behind _ c.args.tries c.args.sender c.in-Ok.sender c.in-Ok.endpoint c.in-Ok.ensures.sent c.args.self.sender c.args.self.stream c.args.self.configuration.number
          words keeps.cached c.requires.same_sender c.in-Ok.ensures.went_on keeps.order;
    }
