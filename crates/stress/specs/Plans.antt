-- What a stress run sends.
use Rattle.std.specs.Prelude.{ℕ, zero, suc, ◌+◌, ◌-◌, ◌%◌, ◌≤◌, Bool, true, false, cond, not, min, ◌==◌, List, [], ◌∷◌, ◌++◌, Option, Some, None}
use Rattle.std.specs.Option.{SomeIff}
use Rattle.cmdcodec.specs.declared.raw.Raw.{Raw}
use Rattle.cmdcodec.specs.declared.command.Command.{Command}
use Rattle.cmdcodec.specs.declared.command.Command.TheVariants.{TlbiNhVa}
use Rattle.cmdcodec.specs.declared.reach.Reach.TheVariants.{Page}
use Rattle.cmdcodec.specs.Words.{encoding}
use Rattle.qindex.specs.Positions.{size}
use Rattle.ringcore.specs.world.Delivery.{Batch}

-- the log2 of the ring's slots, how many senders there are, how many batches each sends, how many turns each worker
-- has, and of how many batches one has no closing sync: 0 if each has one
pub record PlanValue : Type 0 where
  pub log2 : ℕ
  pub senders : ℕ
  pub batches : ℕ
  pub turns : ℕ
  pub every : ℕ

pub record IsPlan (plan : PlanValue) : Type 0 where
  pub some_slots : 1 ≤ plan.log2
  pub few_slots : plan.log2 ≤ 19
  pub some_sender : 1 ≤ plan.senders
  pub few_senders : plan.senders ≤ 64
  pub some_batch : 1 ≤ plan.batches
  pub few_batches : plan.batches ≤ 100000
  pub some_turn : 1 ≤ plan.turns
  pub few_turns : plan.turns ≤ 10000000
  pub few_bare : plan.every ≤ 100000

-- the plan of these numbers
abbrev pub plan_of : ℕ → ℕ → ℕ → ℕ → ℕ → PlanValue
plan_of log2 senders batches turns every = record { log2 = log2; senders = senders; batches = batches; turns = turns; every = every }

-- It is this plan if its numbers are within their ranges, else none.
abbrev pub PlansWithin : PlanValue → Option PlanValue → Type 0
PlansWithin plan result = SomeIff result (IsPlan plan) plan

-- ---- the batches

-- bodies have at most so many commands
abbrev pub most : PlanValue → ℕ
most plan = min 4 (size plan.log2 - 1)

abbrev pub body_length : PlanValue → ℕ → ℕ → ℕ
body_length plan s k = 1 + (s + k) % most plan

-- command j of batch k of sender s: its own virtual machine, address space j, page k
abbrev pub command : ℕ → ℕ → ℕ → Command
command s k j = TlbiNhVa s j true k Page

-- the first n of them
abbrev pub commands_to : ℕ → ℕ → ℕ → List Raw
commands_to s k zero = []
commands_to s k (suc n) = commands_to s k n ++ encoding (command s k n) ∷ []

abbrev pub body : PlanValue → ℕ → ℕ → List Raw
body plan s k = commands_to s k (body_length plan s k)

-- whether batch k has a closing sync: all have if `every` is 0, else all but each `every`-th
abbrev pub closes_by : ℕ → ℕ → Bool
closes_by zero k = true
closes_by (suc e) k = not (k % suc e == 0)

abbrev pub closes : PlanValue → ℕ → Bool
closes plan k = closes_by plan.every k

-- how many of the first k batches have a closing sync
abbrev pub numbered : PlanValue → ℕ → ℕ
numbered plan zero = 0
numbered plan (suc k) = cond (closes plan (suc k)) (suc (numbered plan k)) (numbered plan k)

abbrev pub number_if : Bool → ℕ → Option ℕ
number_if true before = Some (suc before)
number_if false before = None

-- batch k + 1 of sender s
abbrev pub batch_after : PlanValue → ℕ → ℕ → Batch
batch_after plan s k = record { sender = s; number = number_if (closes plan (suc k)) (numbered plan k); body = body plan s (suc k) }

-- the first k batches of sender s
abbrev pub planned : PlanValue → ℕ → ℕ → List Batch
planned plan s zero = []
planned plan s (suc k) = planned plan s k ++ batch_after plan s k ∷ []
