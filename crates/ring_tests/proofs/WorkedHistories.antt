-- What a participant knows of its ring, and how that grows: for each part a case in which it is false.
use Rattle.std.proofs.Common.{◌≡◌, ℕ, ◌^◌, ◌<◌, ◌≤◌, List, [], ◌∷◌, ◌++◌, Some, None, refl, sym, ap, ap₂, ◌∙◌, append-nil, arith}
use Rattle.std.specs.Prelude.{replicate}
use Rattle.atomic_table.specs.Seated.{TableId}
use Rattle.cmdcodec.specs.declared.raw.Raw.{Raw}
use Rattle.cmdcodec.specs.Opcodes.{opcode_named}
use Rattle.ringcore.specs.declared.world.event.Who.TheVariants.{Sender}
use Rattle.ringcore.specs.declared.world.event.Outcome.TheVariants.{Applied, Replaced}
use Rattle.ringcore.specs.declared.world.event.Event.TheVariants.{Advance, Close}
use Rattle.ringcore.specs.world.Trails.{Trail, Run, trail_of}
use Rattle.ringcore.specs.world.World.{Taken}
use Rattle.ringcore.specs.world.Allowed.{Ring}
use Rattle.ringcore.specs.world.Delivery.{Batch, joined}
use Rattle.ringcore.specs.world.Laws.{IsApplied}
use Rattle.ring.specs.Rings.{RingValue}
use Rattle.ring.specs.table.Rule.{IsWithinLimits, WentOn, Stands}
use Rattle.ring.specs.table.Histories.{IsHistory, GrewBy, AreApplied}
use Rattle.ring.specs.sender.Senders.{SenderValue}
use Rattle.ring.specs.consumer.Completing.{taken_of}
use Rattle.ring.specs.consumer.Deferring.{DeferringValue, settled_raws}
use Rattle.ring.specs.Finishing.{AreAll, reserved_ahead}
use Rattle.ring_tests.proofs.WorkedCases.{x, y}

-- two slots and one sender, with 35 words, which are 0 before its first event
abbrev ring : Ring
ring = record { geometry = 1; senders = 1; max_batches = 4; flags = 64 }

abbrev zeros : List ℕ
zeros = replicate 35 0

-- and once it is closed
abbrev closed_words : List ℕ
closed_words = 2 ^ 31 ∷ replicate 34 0

abbrev close_of : ℕ → Run
close_of s = (Sender s, Close) ∷ []

-- ---- limits

pub no_ring_has_257_senders : ¬ IsWithinLimits (record ring { senders = 257 })
no_ring_has_257_senders limits = let few : 257 ≤ 256 = limits.senders in absurd (omega (arith, few))

pub no_ring_counts_batches_beyond_32_bits : ¬ IsWithinLimits (record ring { max_batches = 4294967296 })
no_ring_counts_batches_beyond_32_bits limits =
    let few : 4294967296 < 2 ^ 32 = limits.batches in absurd (omega (arith, few))

-- ---- how a run goes on

pub a_run_does_not_go_on_from_another : ¬ WentOn (Sender 0) (close_of 1) []
a_run_does_not_go_on_from_another on = behind on.newer on.run_is
  where
    behind : (newer : Run) → ¬ ([] ≡ newer ++ close_of 1)
    behind [] is = absurd (cc)
    behind (e ∷ newer) is = absurd (cc)

-- The sender took a step itself since then.
pub a_run_goes_on_by_steps_of_others : (run : Run) → run ≡ close_of 0 → ¬ WentOn (Sender 0) [] run
a_run_goes_on_by_steps_of_others run is on =
    let newer : run ≡ on.newer = on.run_is ∙ append-nil on.newer in
    let none : Close ∷ [] ≡ [] = ap (trail_of (Sender 0)) (sym is ∙ newer) ∙ on.of_others in
    absurd (cc)

pub a_run_goes_on_by_a_step_of_another : WentOn (Sender 0) [] (close_of 1)
a_run_goes_on_by_a_step_of_another = record { newer = close_of 1; run_is = refl; of_others = refl }

-- ---- what a seat knows

pub nothing_stands_beyond_the_limits :
    ¬ Stands (record ring { max_batches = 4294967296 }) (Sender 0) [] [] zeros
nothing_stands_beyond_the_limits stands = no_ring_counts_batches_beyond_32_bits stands.limits

pub no_other_words_stand : ¬ Stands ring (Sender 0) [] [] []
no_other_words_stand stands = let same : 0 ≡ 35 = stands.after.shadow.many in absurd (omega (arith, same))

pub nobody_else_took_a_step : ¬ Stands ring (Sender 0) [] (close_of 1) closed_words
nobody_else_took_a_step stands = let known : 1 < 1 = stands.only.0 in absurd (omega (arith, known))

pub nobody_else_stands : ¬ Stands ring (Sender 1) [] [] zeros
nobody_else_stands stands = let known : 1 < 1 = stands.known in absurd (omega (arith, known))

pub no_other_trail_stands : ¬ Stands ring (Sender 0) (Close ∷ []) [] zeros
no_other_trail_stands stands = let same : [] ≡ Close ∷ [] = stands.trail_is in absurd (cc)

pub a_history_has_the_trail : ¬ IsHistory ring (Sender 0) (Close ∷ []) []
a_history_has_the_trail is = let same : [] ≡ Close ∷ [] = is.stands.trail_is in absurd (cc)

pub what_grew_ends_with_the_step : ¬ GrewBy (Sender 0) Close [] []
what_grew_ends_with_the_step grew =
    let same : [] ≡ (Sender 0, Close) ∷ grew.before = grew.run_is in absurd (cc)

abbrev behind_newest : Run → Run
behind_newest [] = []
behind_newest (e ∷ run) = run

-- It took another step since the older run.
pub what_grew_has_one_step_more : ¬ GrewBy (Sender 0) Close [] ((Sender 0, Close) ∷ close_of 0)
what_grew_has_one_step_more grew =
    a_run_goes_on_by_steps_of_others grew.before (sym (ap behind_newest grew.run_is)) grew.went_on

pub nothing_is_applied_at_first : ¬ AreApplied [] 0 1
nothing_is_applied_at_first are =
    let none : None ≡ Some _ = (are 1 (omega arith) (omega arith)).completed.sync in absurd (cc)

-- ---- what a consumer took

-- no opcode
abbrev illegal : Raw
illegal = record { lo = 0; hi = 0 }

abbrev taken : Raw → Taken
taken raw = record { raw = raw; outcome = Applied }

-- It took x and an illegal command, and later y.
abbrev took : Trail
took = Advance (y ∷ []) ∷ Advance (x ∷ illegal ∷ []) ∷ []

pub all_is_told_as_it_was_taken :
    taken_of took ≡ taken x ∷ record { raw = illegal; outcome = Replaced } ∷ taken y ∷ []
unfolding opcode_named
all_is_told_as_it_was_taken = refl

-- two of three are settled, and one more was read
abbrev two_settled : RingValue → DeferringValue (Unit {0})
two_settled r = record {
  consumer = record { ring = r; trail = took; history = []; lent = None };
  raws = x ∷ [];
  settled = 2;
}

pub the_first_taken_are_settled : (r : RingValue) → settled_raws (two_settled r) ≡ x ∷ illegal ∷ []
the_first_taken_are_settled r = refl

-- ---- an end

abbrev ring_value : TableId → Ring → RingValue
ring_value table made_with = record { table = table; made_with = made_with }

abbrev sender : RingValue → ℕ → SenderValue
sender r number = record { ring = r; number = number; trail = []; history = [] }

pub none_is_missing : (table : TableId) → ¬ AreAll (ring_value table ring) []
none_is_missing table all = let many : 0 ≡ 1 = all.many in absurd (omega (arith, many))

pub each_has_its_number :
    (table : TableId) → ¬ AreAll (ring_value table ring) (sender (ring_value table ring) 1 ∷ [])
each_has_its_number table all =
    let same : 1 ≡ 0 = (all.each 0 (sender (ring_value table ring) 1) refl).1 in
    absurd (omega (arith, same))

-- a sender of another ring
abbrev other : TableId → SenderValue
other table = sender (ring_value table (record ring { max_batches = 3 })) 0

abbrev batches_of_ring : RingValue → ℕ
batches_of_ring r = r.made_with.max_batches

pub each_is_of_this_ring : (table : TableId) → ¬ AreAll (ring_value table ring) (other table ∷ [])
each_is_of_this_ring table all =
    let same : 3 ≡ 4 = ap batches_of_ring (all.each 0 (other table) refl).0 in absurd (omega (arith, same))

-- Ahead of a batch of y came one of x without a closing sync.
pub what_was_reserved_ahead : (run : Run) (s number : ℕ) (applied : IsApplied run s number)
    → applied.completed.ahead ≡ record { sender = 0; number = None; body = x ∷ [] } ∷ []
    → applied.completed.body ≡ y ∷ [] → reserved_ahead applied ≡ x ∷ y ∷ []
what_was_reserved_ahead run s number applied ahead body =
    ap₂ (λ (bs : List Batch) (raws : List Raw). joined bs ++ raws) ahead body
