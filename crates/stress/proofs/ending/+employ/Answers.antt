use Rattle.std.proofs.Common.{refl, arith}
use Rattle.stress.specs.Workers.{IsNew, assignment, assignment_of}
use Rattle.stress.proofs.Last.{ahead_of, alike}
use Rattle.stress.proofs.ending.+employ.Goals as goal

pub employ-requires : goal.employ-requires
employ-requires t c = (
  omega (arith, c.in-Some.ensures.len),
  (
    c.requires.plan,
    ahead_of (IsNew c.args.plan) c.args.senders.items c.pop.new.self.items c.in-Some.sender c.requires.new c.in-Some.ensures.items,
  ),
)

pub returns : goal.returns
returns t c =
    alike assignment (assignment_of c.args.plan) c.push.new.self.items c.in_ok-workers.workers.items _ c.args.senders.items c.pop.new.self.items c.in-Some.sender c.in_ok-push.ensures.items
    c.in-Some.ensures.items c.in_ok-workers.ensures refl
