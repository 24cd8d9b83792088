use Rattle.std.proofs.Common.{◌≡◌, refl, sym, ◌∙◌, subst, true, Result, Ok, Err}
use Rattle.std.specs.Result.{OnOk}
use Rattle.ring.specs.Runs.{Sender, Run, trail_of}
use Rattle.ringcore.specs.machine.Open.{is_open}
use Rattle.ring.specs.declared.sender.cause.Cause.{Cause}
use Rattle.simulator.specs.declared.queue.reserved.Reserved.{Reserved}
use Rattle.simulator.specs.queue.{ring_in}
use Rattle.simulator.specs.{reserved, SimulatorValue, Stands, HasOpen}
use Rattle.simulator.proofs.Standings.{by_run, after_call, try_takes_none}
use Rattle.simulator.proofs.Trying.{try_is_open}
use Rattle.simulator.proofs.simulator.Simulator.reserve.Goals as goal

pub invariant_of-self : goal.invariant_of-self
invariant_of-self c =
    after_call c.self.inside.queue c.reserve.new.self c.self.inside.consumer c.self.inside.unit c.reserve.ensures.consumer c.reserve.ensures.run
    (try_takes_none (ring_in c.self.inside.queue) c.args.sender c.args.batch c.args.closes c.self.inside.queue.keeper.run) c.self.invariant

pub returns-clause-done : goal.returns-clause-done
returns-clause-done c state stands =
    by_run c.self.inside.queue c.reserve.new.self c.self.inside.unit (reserved c.args.sender c.args.batch c.args.closes) c.reserve.ensures.consumer c.reserve.ensures.answer c.reserve.ensures.run
    (try_takes_none (ring_in c.self.inside.queue) c.args.sender c.args.batch c.args.closes c.self.inside.queue.keeper.run) (λ then. refl) state (subst (λ (m : SimulatorValue). Stands m state) (sym c.self.view_is) stands)

on_ok : (r : Result Reserved Cause) (P : Type 0) → ((x : Reserved) → r ≡ Ok x → P) → OnOk r P
on_ok (Ok x) P f = f x refl
on_ok (Err cause) P f = tt

pub returns-clause-opened : goal.returns-clause-opened
returns-clause-opened c =
    let queue = c.self.inside.queue in
    on_ok c.reserve.result (HasOpen (record { queue = c.reserve.new.self; unit = c.self.inside.unit }) c.args.sender true)
    (λ x ok. subst (λ (run : Run). is_open (trail_of (Sender c.args.sender) run) ≡ true) (sym c.reserve.ensures.run)
    (try_is_open (ring_in queue) c.args.sender c.args.batch c.args.closes queue.keeper.run x c.len.ensures.body.some (sym c.reserve.ensures.answer ∙ ok)))
