-- The commands for a change of stage 2 are one batch, with all of them.
use Rattle.std.proofs.Common.{◌≡◌, ◌≤◌, ◌+◌, suc, Bool, true, false, cond, List, [], ◌∷◌, ◌++◌, length, Option, Some, None, Ok, All, ◌⊎◌, inl, inr, refl, ap, sym, ◌∙◌, subst, append-nil, length-append, arith}
use Rattle.std.proofs.lemmas.List.Elements.{All-cons, All-nil, All-head, All-tail}
use Rattle.cmdcodec.specs.declared.raw.Raw.{Raw}
use Rattle.cmdcodec.specs.declared.command.Command.{Command}
use Rattle.smmu_features.specs.declared.smmu.Smmu.{Smmu}
use Rattle.smmu_features.specs.Commands.{IsLegalFor}
use Rattle.invalidations.specs.declared.request.Target.{Target}
use Rattle.invalidations.specs.declared.invalidation.Bytes.{Bytes}
use Rattle.invalidations.specs.declared.invalidation.Bytes.TheVariants.{Everything, Range}
use Rattle.invalidations.specs.declared.policy.Policy.{Policy}
use Rattle.invalidations.specs.declared.fault.InvalidationFault.{InvalidationFault}
use Rattle.invalidations.specs.declared.fault.InvalidationFault.TheVariants as invalidations
use Rattle.invalidations.specs.Plans.{Plan, commands_of, plan_for, plan_of, planned, refusal_of, request_of, target_of, are_few, wholly, unless}
use Rattle.invalidations.specs.Filling.{AreWordsOfAll, IsFilled}
use Rattle.invalidations.specs.Reaching.{is_served, AreByAddressOrWhole, Reaches, InvalidationsReachTheirBytes, ServedWordsAreLegal}
use Rattle.detachment.specs.declared.change_fault.ChangeFault.TheVariants.{OtherStage}
use Rattle.detachment.specs.Changes.{Change, change_commands, change_words, words_of, unmade, is_stage_2, change_refusal, IsChange}

-- ---- what isn't refused

no_fault : (fault : Option InvalidationFault) (commands : List Command) → unmade fault commands ≡ None → fault ≡ None
no_fault (Some invalidations.Unsupported) commands is = absurd (cc)
no_fault (Some invalidations.PastEnd) commands is = absurd (cc)
no_fault None commands is = refl

unrefused : (change : Change) → change_refusal change ≡ None → refusal_of change.invalidation change.smmu ≡ None
unrefused change is = by_stage (is_stage_2 change.invalidation.space) refl
  where
    by_stage : (b : Bool) → is_stage_2 change.invalidation.space ≡ b → refusal_of change.invalidation change.smmu ≡ None
    by_stage true stage = no_fault (refusal_of change.invalidation change.smmu) (change_commands change) (sym (ap (λ (v : Bool). cond v (unmade (refusal_of change.invalidation change.smmu) (change_commands change)) (Some OtherStage)) stage) ∙ is)
    by_stage false stage = absurd (cc)

-- ---- at most 63 commands

few_enough : (target : Target) (policy : Policy) (bytes : Bytes) (commands : List Command) → policy.most_commands ≤ 63 → AreByAddressOrWhole target policy bytes commands → length commands ≤ 63
few_enough target policy Everything commands few is = let one = is.one in omega (arith, one)
few_enough target policy (Range bytes) commands few is = by_count (are_few (request_of target bytes) policy.most_commands) refl
  where
    by_count : (b : Bool) → are_few (request_of target bytes) policy.most_commands ≡ b → length commands ≤ 63
    by_count true count = let some = (is.0 count).few in omega (arith, few, some)
    by_count false count = let one = (is.1 count).one in omega (arith, one)

-- ---- all of them are in the batch

as_long : (target : Target) (commands : List Command) (raws : List Raw) → AreWordsOfAll target commands raws → length commands ≡ length raws
as_long target [] [] are = refl
as_long target [] (raw ∷ raws) are = absurd are
as_long target (command ∷ commands) [] are = absurd are
as_long target (command ∷ commands) (raw ∷ raws) are = ap suc (as_long target commands raws are.1)

none_of_none : {A : Type 0} (xs : List A) → length xs ≡ 0 → xs ≡ []
none_of_none [] is = refl
none_of_none (x ∷ xs) is = absurd (cc)

all_taken : (old new : Plan) (body : List Raw) → length (commands_of old) ≤ 63 → IsFilled old new [] body → AreWordsOfAll old.request.target (commands_of old) body
all_taken old new body few filled = by_rest filled.as_many
  where
    with_none : commands_of new ≡ [] → AreWordsOfAll old.request.target (commands_of old) body
    with_none none =
        let all : commands_of old ≡ filled.moved.commands = filled.moved.taken ∙ ap (λ (cs : List Command). filled.moved.commands ++ cs) none ∙ append-nil filled.moved.commands in
        subst (λ (raws : List Raw). AreWordsOfAll old.request.target (commands_of old) raws) (sym filled.moved.appended)
        (subst (λ (cs : List Command). AreWordsOfAll old.request.target cs filled.moved.raws) (sym all) filled.moved.words)

    by_rest : (commands_of new ≡ []) ⊎ (length body ≡ 63) → AreWordsOfAll old.request.target (commands_of old) body
    by_rest (inl none) = with_none none
    by_rest (inr full) =
        let long = as_long old.request.target filled.moved.commands filled.moved.raws filled.moved.words in
        let raws : length filled.moved.raws ≡ 63 = sym (ap length filled.moved.appended) ∙ full in
        let sum : length (commands_of old) ≡ length filled.moved.commands + length (commands_of new) = ap length filled.moved.taken ∙ length-append filled.moved.commands (commands_of new) in
        with_none (none_of_none (commands_of new) (omega (arith, long, raws, sum, few)))

target_is : (target : Target) (policy : Policy) (bytes : Bytes) → (plan_for target policy bytes).request.target ≡ target
target_is target policy Everything = refl
target_is target policy (Range bytes) = by_count (are_few (request_of target bytes) policy.most_commands)
  where
    by_count : (b : Bool) → (cond b (record { request = request_of target bytes; whole = None }) (wholly target policy)).request.target ≡ target
    by_count true = refl
    by_count false = refl

exactly : (target : Target) (commands : List Command) (raws : List Raw) → AreWordsOfAll target commands raws → raws ≡ words_of target commands
exactly target [] [] are = refl
exactly target [] (raw ∷ raws) are = absurd are
exactly target (command ∷ commands) [] are = absurd are
exactly target (command ∷ commands) (raw ∷ raws) are = let one = are.0.reserved in let rest = exactly target commands raws are.1 in cc

legally : ServedWordsAreLegal → (smmu : Smmu) (target : Target) (commands : List Command) (raws : List Raw) → All (λ command. is_served smmu command ≡ true) commands
    → AreWordsOfAll target commands raws → All (IsLegalFor smmu) raws
legally legal smmu target [] [] served are = All-nil (IsLegalFor smmu)
legally legal smmu target [] (raw ∷ raws) served are = absurd are
legally legal smmu target (command ∷ commands) [] served are = absurd are
legally legal smmu target (command ∷ commands) (raw ∷ raws) served are =
    All-cons (IsLegalFor smmu) raw raws (legal smmu command raw (All-head (λ c. is_served smmu c ≡ true) command commands served) are.0.spelled)
    (legally legal smmu target commands raws (All-tail (λ c. is_served smmu c ≡ true) command commands served) are.1)

module _ (reach : InvalidationsReachTheirBytes) (change : Change) (is : IsChange change) (old new : Plan) (body : List Raw)
    (made : planned change.invalidation change.smmu change.policy ≡ Ok old) (filled : IsFilled old new [] body) where
  plan_is : old ≡ plan_of change.invalidation change.smmu change.policy
  plan_is = let none = unrefused change is.made in let same : Ok (plan_of change.invalidation change.smmu change.policy) ≡ Ok old = sym (ap (λ (fault : Option InvalidationFault). unless fault (plan_of change.invalidation change.smmu change.policy)) none) ∙ made in cc

  reaches :
      Reaches (target_of change.invalidation change.smmu) change.smmu change.policy change.invalidation.bytes (change_commands change)
  reaches = reach change.invalidation change.smmu change.policy (unrefused change is.made)

  few : length (change_commands change) ≤ 63
  few = few_enough (target_of change.invalidation change.smmu) change.policy change.invalidation.bytes (change_commands change) is.few reaches.reached

  are_words : AreWordsOfAll (target_of change.invalidation change.smmu) (change_commands change) body
  are_words =
      subst (λ (target : Target). AreWordsOfAll target (change_commands change) body) (target_is (target_of change.invalidation change.smmu) change.policy change.invalidation.bytes)
      (all_taken (plan_of change.invalidation change.smmu change.policy) new body few (subst (λ (plan : Plan). IsFilled plan new [] body) plan_is filled))

  pub exact_words : body ≡ change_words change
  exact_words = exactly (target_of change.invalidation change.smmu) (change_commands change) body are_words

  pub legal_words : ServedWordsAreLegal → All (IsLegalFor change.smmu) body
  legal_words legal = legally legal change.smmu (target_of change.invalidation change.smmu) (change_commands change) body reaches.served are_words
