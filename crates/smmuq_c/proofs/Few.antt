-- An invalidation has few commands, by its policy.
use Rattle.std.proofs.Common.{◌≡◌, ◌≤◌, ℕ, ◌+◌, true, [], length, Option, Some, None, Ok, refl, ap, subst, arith}
use Rattle.std.proofs.lemmas.Bool.{cond_both, leb-true}
use Rattle.std.proofs.lemmas.List.{length-append}
use Rattle.smmu_features.specs.declared.smmu.Smmu.{Smmu}
use Rattle.invalidations.specs.declared.fault.InvalidationFault.{InvalidationFault}
use Rattle.invalidations.specs.declared.invalidation.Bytes.{Bytes}
use Rattle.invalidations.specs.declared.invalidation.Bytes.TheVariants.{Everything, Range}
use Rattle.invalidations.specs.declared.invalidation.Invalidation.{Invalidation}
use Rattle.invalidations.specs.declared.policy.Policy.{Policy}
use Rattle.invalidations.specs.declared.request.Request.{Request}
use Rattle.invalidations.specs.declared.request.Target.{Target}
use Rattle.invalidations.specs.declared.space.Space.{Space}
use Rattle.invalidations.specs.ByAddress.{commands_up_to, commands_by_address}
use Rattle.invalidations.specs.Plans.{Plan, are_few, commands_for_whole, commands_of, none_of, plan_for, plan_of, planned, refusal_of, request_of, target_of, unless, wholly}

one_at_most : (whole : Option Space) → length (commands_for_whole whole) ≤ 1
one_at_most None = omega arith
one_at_most (Some space) = omega arith

none_by_address : (target : Target) → commands_by_address (none_of target) ≡ []
unfolding commands_by_address commands_up_to
none_by_address target = refl

counted : (plan : Plan) → length (commands_of plan) ≡ length (commands_by_address plan.request) + length (commands_for_whole plan.whole)
unfolding commands_of
counted plan = length-append (commands_by_address plan.request) (commands_for_whole plan.whole)

-- There are no more than so many, and one for the whole space.
abbrev AreFew : ℕ → Plan → Type 0
AreFew most plan = length (commands_of plan) ≤ most + 1

wholly_few : (target : Target) (policy : Policy) → AreFew policy.most_commands (wholly target policy)
wholly_few target policy =
    let all = counted (wholly target policy) in
    let none = ap length (none_by_address target) in
    let one = one_at_most (wholly target policy).whole in
    omega (arith, all, none, one)

by_address_few : (request : Request) (policy : Policy) → are_few request policy.most_commands ≡ true
    → AreFew policy.most_commands (record { request = request; whole = None })
by_address_few request policy few =
    let all = counted (record { request = request; whole = None }) in
    let at_most = leb-true (length (commands_by_address request)) policy.most_commands few in
    omega (arith, all, at_most)

plan_few : (target : Target) (policy : Policy) (bytes : Bytes) → AreFew policy.most_commands (plan_for target policy bytes)
plan_few target policy Everything = wholly_few target policy
plan_few target policy (Range bytes) =
    cond_both (are_few (request_of target bytes) policy.most_commands) _ _ (AreFew policy.most_commands)
    (λ few. by_address_few (request_of target bytes) policy few) (λ _. wholly_few target policy)

made : (fault : Option InvalidationFault) (plan other : Plan) → unless fault other ≡ Ok plan → other ≡ plan
made None plan other is = cc
made (Some fault) plan other is = cc

pub few : (invalidation : Invalidation) (smmu : Smmu) (policy : Policy) (plan : Plan) → planned invalidation smmu policy ≡ Ok plan
    → length (commands_of plan) ≤ policy.most_commands + 1
few invalidation smmu policy plan is =
    subst (AreFew policy.most_commands) (made (refusal_of invalidation smmu) plan (plan_of invalidation smmu policy) is)
    (plan_few (target_of invalidation smmu) policy invalidation.bytes)
