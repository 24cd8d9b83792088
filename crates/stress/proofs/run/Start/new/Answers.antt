use Rattle.std.proofs.Common.{List, sym, subst, arith}
use Rattle.std.specs.List.{All}
use Rattle.ring.specs.sender.Senders.{SenderValue}
use Rattle.stress.specs.Workers.{IsNew}
use Rattle.stress.proofs.Rows.{all_new}
use Rattle.stress.proofs.run.Start.new.Goals as goal

pub employ-requires-clause-new : goal.employ-requires-clause-new
employ-requires-clause-new c =
    let all = all_new c.args.plan c.in-Ok-new.ring c.senders-2.result (let e = c.senders-2.ensures.value in omega (arith, e)) in
    subst (λ (l : List SenderValue). All (IsNew c.args.plan) l) (sym c.in-Ok-new.ensures.made.unused.senders_are) all
