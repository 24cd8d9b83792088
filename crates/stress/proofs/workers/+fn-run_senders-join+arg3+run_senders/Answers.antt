use Rattle.std.proofs.Common.{◌≡◌, rules, arith}
use Rattle.stress.specs.Workers.{WorkerValue, assignment}
use Rattle.stress.proofs.Last.{last_of, ahead_of, alike}
use Rattle.stress.proofs.workers.+fn-run_senders-join+arg3+run_senders.Goals as goal

pub join-worker-requires-after_bounds : goal.join-worker-requires-after_bounds
join-worker-requires-after_bounds g t c κs within = (
  (
    search rules,
    last_of (λ (w : WorkerValue). w.sender.ring ≡ c.args.ring.now) c.args.workers.items c.pop.new.self.items c.in-Some.worker c.requires c.in-Some.ensures.items,
  ),
  (
    omega (arith, c.in-Some.ensures.len),
    (
      λ a known. known,
      (
        λ a known. known,
        (
          (
            search rules,
            search rules,
            ahead_of (λ (w : WorkerValue). w.sender.ring ≡ c.args.ring.now) c.args.workers.items c.pop.new.self.items c.in-Some.worker c.requires c.in-Some.ensures.items,
          ),
          (search rules, search rules),
        ),
      ),
    ),
  ),
)

pub returns-clause-assignments : goal.returns-clause-assignments
returns-clause-assignments g t c =
    alike assignment assignment c.push_reserved.new.self.items c.join-worker.result.1.items c.join-worker.result.0 c.args.workers.items c.pop.new.self.items c.in-Some.worker
    c.push_reserved.ensures.items c.in-Some.ensures.items c.join-worker.ensures.second.0 c.join-worker.ensures.first
