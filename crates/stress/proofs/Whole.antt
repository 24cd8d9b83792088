-- At the end of a run all that was planned is taken.
use Rattle.std.proofs.Common.{◌≡◌, ℕ, zero, suc, ◌+◌, ◌*◌, ◌<◌, Bool, true, false, cond, not, ◌==◌, List, [], ◌∷◌, map, length, Some, refl, sym, ap, ◌∙◌, arith}
use Rattle.std.specs.Prelude.{slice_get, is_none}
use Rattle.cmdcodec.specs.declared.raw.Raw.{Raw}
use Rattle.cmdcodec.specs.Opcodes.{is_sync}
use Rattle.cmdcodec.specs.Legality.{first_ill}
use Rattle.cmdcodec.specs.Words.{encoding}
use Rattle.ringcore.specs.world.World.{taken_as, outcome_of, sync_raw}
use Rattle.ringcore.specs.world.Delivery.{Batch, batches, joined}
use Rattle.ring.specs.Rings.{RingValue}
use Rattle.ring.specs.sender.Senders.{SenderValue}
use Rattle.ring.specs.consumer.Consumers.{ConsumerValue}
use Rattle.ring.specs.Finishing.{AreAll, SummaryValue, IsEnd}
use Rattle.engine.specs.Counting.{how_many, is_applied}
use Rattle.stress.specs.Plans.{PlanValue, command}
use Rattle.stress.specs.Workers.{HaveSent}
use Rattle.stress.specs.Totals.{all_bodies, all_syncs, all_commands}
use Rattle.stress.proofs.Bodies.{opcode_is}
use Rattle.stress.proofs.Weights.{weigh, many_so, length_weighs}
use Rattle.stress.proofs.Totals.{IsMergeOf, weights, command_legal, sync_legal, sync_opcode}

-- ---- the totals of a merge

abbrev legal : Raw → Bool
legal raw = is_none (first_ill raw)

applied_is : (raw : Raw) → is_applied (outcome_of raw) ≡ legal raw
applied_is raw = by_legal (legal raw) refl
  where
    by_legal : (b : Bool) → legal raw ≡ b → is_applied (outcome_of raw) ≡ b
    by_legal true is = search
    by_legal false is = search

module _ (plan : PlanValue) (all : List Batch) (is : IsMergeOf plan all) where
  all_weigh : (w : Raw → ℕ) → ((s k j : ℕ) → w (encoding (command s k j)) ≡ 1) → ((s n : ℕ) → w (sync_raw s n) ≡ 1) → weigh w (joined all) ≡ all_commands plan
  all_weigh w c s = weights w 1 1 c s plan all is ∙ (let b : ℕ = all_bodies plan in let y : ℕ = all_syncs plan in let e : b * 1 + y * 1 ≡ b + y = omega arith in e)

  pub many_commands : length (joined all) ≡ all_commands plan
  many_commands = sym (length_weighs (joined all)) ∙ all_weigh (λ raw. 1) (λ s k j. refl) (λ s n. refl)

  pub many_applied : how_many (λ t. is_applied t.outcome) (map taken_as (joined all)) ≡ all_commands plan
  many_applied =
      many_so (λ t. is_applied t.outcome) (joined all)
      ∙ all_weigh (λ raw. cond (is_applied (outcome_of raw)) 1 0)
      (λ s k j. ap (λ (b : Bool). cond b 1 0) (applied_is (encoding (command s k j)) ∙ command_legal s k j))
      (λ s n. ap (λ (b : Bool). cond b 1 0) (applied_is (sync_raw s n) ∙ sync_legal s n))

  pub many_replaced : how_many (λ t. not (is_applied t.outcome)) (map taken_as (joined all)) ≡ 0
  many_replaced =
      many_so (λ t. not (is_applied t.outcome)) (joined all)
      ∙ weights (λ raw. cond (not (is_applied (outcome_of raw))) 1 0) 0 0
      (λ s k j. ap (λ (b : Bool). cond (not b) 1 0) (applied_is (encoding (command s k j)) ∙ command_legal s k j))
      (λ s n. ap (λ (b : Bool). cond (not b) 1 0) (applied_is (sync_raw s n) ∙ sync_legal s n)) plan all is
      ∙ (let b : ℕ = all_bodies plan in let y : ℕ = all_syncs plan in let e : b * 0 + y * 0 ≡ 0 = omega arith in e)

  pub many_syncs : how_many (λ t. is_sync t.raw) (map taken_as (joined all)) ≡ all_syncs plan
  many_syncs =
      many_so (λ t. is_sync t.raw) (joined all)
      ∙ weights (λ raw. cond (is_sync raw) 1 0) 0 1
      (λ s k j. ap (λ (o : ℕ). cond (o == 0x46) 1 0) (opcode_is s k j)) (λ s n. ap (λ (o : ℕ). cond (o == 0x46) 1 0) (sync_opcode s n)) plan all is
      ∙ (let b : ℕ = all_bodies plan in let y : ℕ = all_syncs plan in let e : b * 0 + y * 1 ≡ y = omega arith in e)

-- ---- the end of a run

at_each : {A : Type 0} (xs : List A) (i : ℕ) → i < length xs → (x : A) × (slice_get xs i ≡ Some x)
at_each [] i less = absurd (omega (arith, less))
at_each (x ∷ xs) zero less = (x, refl)
at_each (x ∷ xs) (suc i) less = at_each xs i (omega (arith, less))

pub merge_of : {D : Type 0} (plan : PlanValue) (ring : RingValue) (senders : List SenderValue) (consumer : ConsumerValue D) (end : SummaryValue)
    → AreAll ring senders → ring.made_with.senders ≡ plan.senders → HaveSent plan senders → (is : IsEnd ring senders consumer end)
    → IsMergeOf plan (batches is.run)
merge_of plan ring senders consumer end all many_are sent is = record {
  each = λ s known.
      let many = all.many in
      let x = at_each senders s (omega (arith, many, many_are, known)) in
      is.merge.each s x.0 x.1 ∙ sent s x.0 x.1;
  only = λ i b at. let less = is.merge.only i b at in let many = all.many in omega (arith, less, many, many_are);
}
