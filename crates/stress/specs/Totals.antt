-- What a whole run comes to, whatever the schedule was.
use Rattle.std.specs.Prelude.{ℕ, zero, suc, ◌+◌, ◌-◌, ◌*◌, ◌/◌}
use Rattle.stress.specs.Plans.{PlanValue, body_length}

-- f 0 + f 1 + .. + f (n - 1)
abbrev pub sum_below : ℕ → (ℕ → ℕ) → ℕ
sum_below zero f = 0
sum_below (suc n) f = sum_below n f + f n

-- how many of a sender's batches have no closing sync
abbrev pub bare_of : ℕ → ℕ → ℕ
bare_of zero batches = 0
bare_of (suc e) batches = batches / suc e

-- how many have one: the numbers that a sender is told go up to this
abbrev pub closing_of : PlanValue → ℕ
closing_of plan = plan.batches - bare_of plan.every plan.batches

abbrev pub all_syncs : PlanValue → ℕ
all_syncs plan = plan.senders * closing_of plan

-- the bodies of all batches of all senders
abbrev pub all_bodies : PlanValue → ℕ
all_bodies plan = sum_below plan.senders (λ s. sum_below plan.batches (λ k. body_length plan s (suc k)))

abbrev pub all_commands : PlanValue → ℕ
all_commands plan = all_bodies plan + all_syncs plan
