use Rattle.std.proofs.Common.{◌≡◌, ◌≤◌, List, [], ◌∷◌, length, refl, ap, subst, arith}
use Rattle.ring.specs.Runs.{Raw}
use Rattle.ring.specs.consumer.{first_of, TookRun}
use Rattle.ring.proofs.consumer.Consumer.take.Goals as goal

-- A run of one command is its first command.
only_one : (raws : List Raw) → 1 ≤ length raws → length raws ≤ 1 → raws ≡ first_of raws ∷ []
only_one [] some few = absurd (omega (arith, some))
only_one (raw ∷ []) some few = refl
only_one (raw ∷ other ∷ raws) some few = absurd (omega (arith, few))

pub invariant_of-result : goal.invariant_of-result
invariant_of-result g c = let run = c.in-Ready.ensures.taken in only_one c.in-Ready.run'.raws run.some run.few

pub returns-in-Ready-clause-taken : goal.returns-in-Ready-clause-taken
returns-in-Ready-clause-taken g c =
    let run = c.in-Ready.ensures.taken in
    subst (λ (raws : List Raw). TookRun 1 c.args.self (record { consumer = c.in-Ready.run'.consumer; raws = raws })) (only_one c.in-Ready.run'.raws run.some run.few) run

pub returns-in-Ready-clause-again : goal.returns-in-Ready-clause-again
returns-in-Ready-clause-again g c raw seen = ap first_of (c.in-Ready.ensures.again raw seen).1
