-- What the definitions of a queue that its owner may write over say of single cases.
use Rattle.std.proofs.Common.{◌≡◌, ◌≢◌, ℕ, ◌+◌, true, false, Option, Some, Result, Err, inl, inr, sym, ap, ◌∙◌, arith}
use Rattle.std.specs.Prelude.{⊤, is_some}
use Rattle.cmdcodec.specs.declared.raw.Raw.{Raw}
use Rattle.cmdcodec.specs.declared.ill.Ill.{Ill}
use Rattle.ringcore.specs.Limits.{most_reserved}
use Rattle.engine.specs.declared.remedy.AckFault.{AckFault}
use Rattle.engine.specs.declared.remedy.AckFault.TheVariants.{NoError, OtherBit}
use Rattle.engine.specs.declared.verdict.Judgement.{Judgement}
use Rattle.engine.specs.declared.verdict.Judgement.TheVariants.{Stopped}
use Rattle.engine.specs.declared.queue_unit.QueueUnit.{QueueUnit}
use Rattle.engine.specs.declared.queue_unit.QueueError.TheVariants.{Abort}
use Rattle.engine.specs.declared.queue_unit.JudgeFault.{JudgeFault}
use Rattle.engine.specs.declared.queue_unit.JudgeFault.TheVariants.{StillStopped, OtherCommand, Exhausted}
use Rattle.engine.specs.Stops.{command_queue_bit}
use Rattle.engine.specs.Counting.{taken}
use Rattle.engine.specs.Units.{UnitValue}
use Rattle.engine.specs.QueueUnits.{IsStoppedQueue, error_bit, IsQueueAcknowledgement, IsWrittenOver, HasJudgedOthers, IsJudgeRefusal}

-- ---- what is refused

some_error : (q : QueueUnit) → q.found ≡ Some Abort → IsStoppedQueue q
some_error q found = inl (ap (λ (o : Option _). is_some o) found)

-- An error that was found refuses all words, though the unit alone would go on.
pub found_error_refuses : (raw : Raw) (q : QueueUnit) (answer : Result Judgement JudgeFault) → IsJudgeRefusal raw q answer → q.found ≡ Some Abort → answer ≡ Err StillStopped
found_error_refuses raw q answer refusal found = refusal.stopped.1 (some_error q found)

-- Where the next words decide, none are refused for not being those at which it stopped.
pub rereading_refuses_no_other : (raw : Raw) (q : QueueUnit) (answer : Result Judgement JudgeFault) → IsJudgeRefusal raw q answer → q.rereads ≡ true → ¬ (answer ≡ Err OtherCommand)
rereading_refuses_no_other raw q answer refusal rereads is =
    let never : false ≡ true = sym (refusal.other.0 is).1 ∙ rereads in absurd (cc)

-- One place less than a ring ever has is too few for words that were written over: the old ones are taken too.
pub one_place_is_too_few_for_two : (raw : Raw) (q : QueueUnit) (answer : Result Judgement JudgeFault) → IsJudgeRefusal raw q answer → ¬ IsStoppedQueue q → IsWrittenOver raw q
    → taken q.unit.counts + 1 ≡ most_reserved → answer ≡ Err Exhausted
one_place_is_too_few_for_two raw q answer refusal running over one_left = refusal.exhausted.1 (running, inr (over, omega (arith, one_left)))

-- ---- words that were written over

-- The words at which it stopped aren't written over themselves.
pub same_words_are_no_others : (raw : Raw) (old new : UnitValue) (judgement : Judgement) → HasJudgedOthers raw old new judgement → ¬ (old.stop.next ≡ Some raw)
same_words_are_no_others raw old new judgement did same = did.others (λ awaited is. same_word raw awaited (sym same ∙ is))
  where
    same_word : (a b : Raw) → Some a ≡ Some b → a ≡ b
    same_word a b is = cc

-- Where the new words stop it, the old ones count as taken.
pub old_words_are_taken : (raw : Raw) (old new : UnitValue) (ill : Ill) → HasJudgedOthers raw old new (Stopped ill) → taken new.counts ≡ taken old.counts + 1
old_words_are_taken raw old new ill did =
    ap (λ (u : UnitValue). taken u.counts) did.judged.new_is ∙ ap (λ (u : UnitValue). taken u.counts) did.replaced.new_is
    ∙ (let e : old.counts.applied + (old.counts.replaced + 1) ≡ taken old.counts + 1 = omega arith in e)

-- ---- acknowledging

-- An error that was found is an active error.
pub found_error_is_active : (q : QueueUnit) (gerrorn : ℕ) (answer : Result ⊤ AckFault) → IsQueueAcknowledgement q gerrorn answer → q.found ≡ Some Abort → ¬ (answer ≡ Err NoError)
found_error_is_active q gerrorn answer acknowledged found is = acknowledged.none.0 is (some_error q found)

-- It is acknowledged by CMDQ_ERR of SMMU_GERROR and by no other bit.
pub other_bit_is_refused : (q : QueueUnit) (gerrorn : ℕ) (answer : Result ⊤ AckFault) → IsQueueAcknowledgement q gerrorn answer → IsStoppedQueue q
    → command_queue_bit gerrorn ≢ error_bit q → answer ≡ Err OtherBit
other_bit_is_refused q gerrorn answer acknowledged stopped differs = acknowledged.other.1 (stopped, differs)
