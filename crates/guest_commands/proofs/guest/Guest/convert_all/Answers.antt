use Rattle.std.proofs.Common.{◌≡◌, ◌≤◌, All, length, take, sym, subst, arith}
use Rattle.std.proofs.lemmas.Option.{slice_get-get_or}
use Rattle.cmdcodec.specs.Bodies.{IsBody}
use Rattle.guest_commands.specs.Theorems.{IsReachedBy}
use Rattle.guest_commands.proofs.BatchLemmas.{step, body, stopped_full, converted_at}
use Rattle.guest_commands.proofs.guest.Guest.convert_all.Goals as goal

pub loop-taken-preserved : goal.loop-taken-preserved
loop-taken-preserved c =
    step c.args.self.now c.args.raws.now c.loop-taken.body.items c.put.new.body.items c.loop-taken.taken (record { lo = 0; hi = 0 }) c.loop-taken-test.true c.loop-taken.invariant c.in_default.ensures

pub returns-in-Some-clause-complete : goal.returns-in-Some-clause-complete
returns-in-Some-clause-complete c =
    subst (λ commands. All (IsReachedBy c.args.self.now commands) (take c.loop-taken.taken c.args.raws.now)) (sym c.in-Some.ensures.0) c.loop-taken.invariant.reached

pub returns-in-Some-clause-body : goal.returns-in-Some-clause-body
returns-in-Some-clause-body c =
    subst (λ commands. 1 ≤ length commands → IsBody commands) (sym c.in-Some.ensures.0) (body c.args.self.now c.args.raws.now c.loop-taken.body.items c.loop-taken.taken c.loop-taken.invariant)

pub returns-in-Some-clause-moves_on : goal.returns-in-Some-clause-moves_on
returns-in-Some-clause-moves_on c full =
    subst (λ commands. 1 ≤ length commands) (sym c.in-Some.ensures.0) (stopped_full c.args.self.now (length c.loop-taken.body.items) _ c.in-Some.ended c.in-Some.ensures.1 full)

pub returns-clause-complete : goal.returns-clause-complete
returns-clause-complete c =
    let end : c.loop-taken.taken ≡ length c.args.raws.now = omega arith in
    subst (λ n. All (IsReachedBy c.args.self.now c.loop-taken.body.items) (take n c.args.raws.now)) end c.loop-taken.invariant.reached

pub returns-clause-body : goal.returns-clause-body
returns-clause-body c = body c.args.self.now c.args.raws.now c.loop-taken.body.items c.loop-taken.taken c.loop-taken.invariant

pub invariant_of-result : goal.invariant_of-result
invariant_of-result c = returns-in-Some-clause-body c

pub invariant_of-result-2 : goal.invariant_of-result-2
invariant_of-result-2 c = body c.args.self.now c.args.raws.now c.loop-taken.body.items c.loop-taken.taken c.loop-taken.invariant

pub returns-in-Some-clause-converted : goal.returns-in-Some-clause-converted
returns-in-Some-clause-converted c =
    converted_at c.args.self.now c.args.raws.now c.loop-taken.body.items c.put.new.body.items c.loop-taken.taken _ c.in-Some.ended c.loop-taken-test.true
    (slice_get-get_or c.args.raws.now c.loop-taken.taken (record { lo = 0; hi = 0 }) c.loop-taken-test.true) c.loop-taken.invariant
    c.in-Some.ensures.0 c.in-Some.ensures.1
