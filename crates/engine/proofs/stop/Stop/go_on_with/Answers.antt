use Rattle.std.proofs.Common.{sym, subst}
use Rattle.engine.specs.declared.stop.Mode.{Mode}
use Rattle.engine.specs.Stops.{StopValue, IsStopped, IsKept, IsActive}
use Rattle.engine.proofs.Judging.{told_kept, told_active}
use Rattle.engine.proofs.stop.Stop.go_on_with.Goals as goal

pub invariant_of-self : goal.invariant_of-self
invariant_of-self c =
    let i = c.self.inside in
    let stopped = subst (λ (s : StopValue). IsStopped s.mode) (sym c.self.view_is) c.requires.stopped in
    record {
      kept = subst (λ (m : Mode). IsKept m i.next) (sym c.from-self-inside.ensures) (told_kept c.args.remedy i.mode i.next stopped c.self.invariant.kept);
      active = subst (λ (m : Mode). IsActive m i.error i.error) (sym c.from-self-inside.ensures) (told_active c.args.remedy i.error);
    }
