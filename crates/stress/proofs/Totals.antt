-- What a merge of the planned batches comes to.
use Rattle.std.proofs.Common.{◌≡◌, ℕ, zero, suc, ◌+◌, ◌*◌, ◌%◌, ◌^◌, ◌<◌, ◌≤◌, Bool, true, false, cond, List, [], ◌∷◌, refl, ap, ◌∙◌, subst, arith}
use Rattle.std.specs.Prelude.{Option, Some, None, slice_get, is_none}
use Rattle.cmdcodec.specs.declared.raw.Raw.{Raw}
use Rattle.cmdcodec.specs.Fields.{field}
use Rattle.cmdcodec.specs.Opcodes.{opcode_of, opcode_named}
use Rattle.cmdcodec.specs.Legality.{first_ill}
use Rattle.cmdcodec.specs.Words.{encoding}
use Rattle.ringcore.specs.world.World.{commands, sync_raw}
use Rattle.ringcore.specs.world.Delivery.{Batch, joined}
use Rattle.ringcore.specs.world.Laws.{batches_of}
use Rattle.stress.specs.Plans.{PlanValue, most, body_length, body, command, commands_to, closes, number_if, numbered, batch_after, planned}
use Rattle.stress.specs.Totals.{sum_below, all_bodies, all_syncs}
use Rattle.stress.proofs.Bodies.{opcode_is}
use Rattle.stress.proofs.Numbered.{closing_is}
use Rattle.stress.proofs.Weights.{weigh, weigh_append, sum_same, sum_of, sum_plus, sum_times, least, merged, one_more_batch}

-- Batches are a merge of the plan's for each sender, and no others.
pub record IsMergeOf (plan : PlanValue) (all : List Batch) : Type 0 where
  pub each : (s : ℕ) → s < plan.senders → batches_of s all ≡ planned plan s plan.batches
  pub only : (i : ℕ) (b : Batch) → slice_get all i ≡ Some b → b.sender < plan.senders

module _ (w : Raw → ℕ) where
  abbrev pub of_batch : PlanValue → ℕ → ℕ → ℕ
  of_batch plan s k = weigh w (commands s (number_if (closes plan (suc k)) (numbered plan k)) (body plan s (suc k)))

  pub of_planned : (plan : PlanValue) (s n : ℕ) → weigh w (joined (planned plan s n)) ≡ sum_below n (of_batch plan s)
  of_planned plan s zero = refl
  of_planned plan s (suc k) = one_more_batch w (planned plan s k) (batch_after plan s k) ∙ ap (λ (m : ℕ). m + of_batch plan s k) (of_planned plan s k)

  -- each command of a body weighs x, each closing sync y
  module _ (x y : ℕ) (of_command : (s k j : ℕ) → w (encoding (command s k j)) ≡ x) (of_sync : (s n : ℕ) → w (sync_raw s n) ≡ y) where
    of_body : (s k n : ℕ) → weigh w (commands_to s k n) ≡ n * x
    of_body s k zero = omega arith
    of_body s k (suc n) =
        let e = weigh_append w (commands_to s k n) (encoding (command s k n) ∷ []) in
        let so_far = of_body s k n in
        let one = of_command s k n in
        omega (arith, e, so_far, one)

    of_closed : (c : Bool) (s n : ℕ) (raws : List Raw) → weigh w (commands s (number_if c n) raws) ≡ weigh w raws + cond c 1 0 * y
    of_closed true s n raws = let e = weigh_append w raws (sync_raw s (suc n) ∷ []) in let one = of_sync s (suc n) in omega (arith, e, one)
    of_closed false s n raws = omega arith

    of_sender : (plan : PlanValue) (s : ℕ)
        → sum_below plan.batches (of_batch plan s) ≡ sum_below plan.batches (λ k. body_length plan s (suc k)) * x + sum_below plan.batches (λ k. cond (closes plan (suc k)) 1 0) * y
    of_sender plan s =
        sum_same plan.batches (of_batch plan s) (λ k. body_length plan s (suc k) * x + cond (closes plan (suc k)) 1 0 * y) (λ k less.
        of_closed (closes plan (suc k)) s (numbered plan k) (body plan s (suc k))
        ∙ ap (λ (m : ℕ). m + cond (closes plan (suc k)) 1 0 * y) (of_body s (suc k) (body_length plan s (suc k))))
        ∙ sum_plus plan.batches (λ k. body_length plan s (suc k) * x) (λ k. cond (closes plan (suc k)) 1 0 * y)
        ∙ (λ i. sum_times plan.batches x (λ k. body_length plan s (suc k)) i + sum_times plan.batches y (λ k. cond (closes plan (suc k)) 1 0) i)

    syncs_of : (plan : PlanValue) (n : ℕ) → sum_below n (λ k. cond (closes plan (suc k)) 1 0) ≡ numbered plan n
    syncs_of plan zero = refl
    syncs_of plan (suc n) = ap (λ (m : ℕ). m + cond (closes plan (suc n)) 1 0) (syncs_of plan n) ∙ one (closes plan (suc n))
      where
        one : (c : Bool) → numbered plan n + cond c 1 0 ≡ cond c (suc (numbered plan n)) (numbered plan n)
        one true = omega arith
        one false = omega arith

    pub weights : (plan : PlanValue) (all : List Batch) → IsMergeOf plan all → weigh w (joined all) ≡ all_bodies plan * x + all_syncs plan * y
    weights plan all is =
        merged w plan.senders all is.only
        ∙ sum_same plan.senders (λ s. weigh w (joined (batches_of s all))) (λ s. sum_below plan.batches (λ k. body_length plan s (suc k)) * x + numbered plan plan.batches * y)
        (λ s known.
        ap (λ (bs : List Batch). weigh w (joined bs)) (is.each s known) ∙ of_planned plan s plan.batches ∙ of_sender plan s
        ∙ ap (λ (n : ℕ). sum_below plan.batches (λ k. body_length plan s (suc k)) * x + n * y) (syncs_of plan plan.batches))
        ∙ sum_plus plan.senders (λ s. sum_below plan.batches (λ k. body_length plan s (suc k)) * x) (λ s. numbered plan plan.batches * y)
        ∙ (λ i. sum_times plan.senders x (λ s. sum_below plan.batches (λ k. body_length plan s (suc k))) i + sum_of plan.senders (numbered plan plan.batches * y) i)
        ∙ ap (λ (n : ℕ). all_bodies plan * x + plan.senders * (n * y)) (closing_is plan)
        ∙ (let s : ℕ = plan.senders in let c : ℕ = numbered plan plan.batches in grind (arith))

-- ---- the weights of a legal command, and of a closing sync

sync_low : (number : ℕ) → field (0x46 + 1 * 2 ^ 12 + 0 * 2 ^ 22 + 0 * 2 ^ 24 + number * 2 ^ 32) 7 0 ≡ 0x46
sync_low number =
    let word : 0x46 + 1 * 2 ^ 12 + 0 * 2 ^ 22 + 0 * 2 ^ 24 + number * 2 ^ 32 ≡ 0x46 + (16 + number * 2 ^ 24) * 256 = omega arith in
    let short : field (0x46 + (16 + number * 2 ^ 24) * 256) 7 0 ≡ 0x46 = omega arith in
    ap (λ lo. field lo 7 0) word ∙ short

sync_signal : (number : ℕ) → field (0x46 + 1 * 2 ^ 12 + 0 * 2 ^ 22 + 0 * 2 ^ 24 + number * 2 ^ 32) 13 12 ≡ 1
sync_signal number = omega arith

pub sync_opcode : (s number : ℕ) → opcode_of (sync_raw s number) ≡ 0x46
unfolding encoding
sync_opcode s number = sync_low number

pub sync_legal : (s number : ℕ) → is_none (first_ill (sync_raw s number)) ≡ true
unfolding encoding opcode_named
sync_legal s number = rw (sync_low number) (rw (sync_signal number) refl)

pub command_legal : (s k j : ℕ) → is_none (first_ill (encoding (command s k j))) ≡ true
unfolding opcode_named
command_legal s k j = rw (opcode_is s k j) refl

-- ---- what one command weighs, the whole does

module _ (w : Raw → ℕ) where
  first_of : (s k n : ℕ) → w (encoding (command s k 0)) ≤ weigh w (commands_to s k (suc n))
  first_of s k zero = omega arith
  first_of s k (suc n) =
      let e = first_of s k n in
      let f = weigh_append w (commands_to s k (suc n)) (encoding (command s k (suc n)) ∷ []) in
      omega (arith, e, f)

  in_batch : (s : ℕ) (number : Option ℕ) (raws : List Raw) → weigh w raws ≤ weigh w (commands s number raws)
  in_batch s None raws = omega arith
  in_batch s (Some n) raws = let f = weigh_append w raws (sync_raw s n ∷ []) in omega (arith, f)

  pub passed : (plan : PlanValue) (all : List Batch) → IsMergeOf plan all → 1 ≤ plan.batches → (s : ℕ) → s < plan.senders
      → w (encoding (command s 1 0)) ≤ weigh w (joined all)
  passed plan all is some s known =
      let same : suc ((s + 1) % most plan) ≡ body_length plan s 1 = omega arith in
      let one : w (encoding (command s 1 0)) ≤ weigh w (body plan s 1) =
      subst (λ (n : ℕ). w (encoding (command s 1 0)) ≤ weigh w (commands_to s 1 n)) same (first_of s 1 ((s + 1) % most plan)) in
      let two = in_batch s (number_if (closes plan 1) (numbered plan 0)) (body plan s 1) in
      let three = least plan.batches 0 (of_batch w plan s) (omega (arith, some)) in
      let four = ap (λ (l : List Batch). weigh w (joined l)) (is.each s known) ∙ of_planned w plan s plan.batches in
      let five = least plan.senders s (λ t. weigh w (joined (batches_of t all))) known in
      let six = merged w plan.senders all is.only in
      omega (arith, one, two, three, four, five, six)
