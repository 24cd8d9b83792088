-- Transactions as they begin and end, and what a tracked unit knows of them: for each part of the definitions a case in which they are false.
use Rattle.std.proofs.Common.{◌≡◌, ℕ, zero, suc, ◌+◌, ◌-◌, ◌%◌, ◌^◌, ◌<◌, ◌≤◌, Bool, true, false, List, [], ◌∷◌, Option, None, Some, Ok, refl, ap, sym, subst, ◌∙◌, arith, leb-true}
use Rattle.std.specs.Prelude.{slice_get, count_by}
use Rattle.cmdcodec.specs.declared.raw.Raw.{Raw}
use Rattle.cmdcodec.specs.declared.command.Command.TheVariants.{CfgiSte}
use Rattle.cmdcodec.specs.Opcodes.{opcode_named}
use Rattle.cmdcodec.specs.Spelling.{Spells}
use Rattle.ringcore.specs.Limits.{most_reserved}
use Rattle.ringcore.specs.world.World.{Taken, taken_as}
use Rattle.caches.specs.declared.tag.Tag.TheVariants.{Ste}
use Rattle.engine.specs.declared.verdict.Judgement.{Judgement}
use Rattle.transactions.specs.declared.outstanding.OutstandingTransaction.{OutstandingTransaction}
use Rattle.transactions.specs.declared.used.Used.{Used}
use Rattle.transactions.specs.declared.used.Used.TheVariants.{Entry, Tables}
use Rattle.transactions.specs.Since.{last_invalidations}
use Rattle.transactions.specs.Outstanding.{Slots, TellsCovered, NoneIsOverdue, is_covered}
use Rattle.transactions.specs.Tracking.{TrackedValue, IsTracked}
use Rattle.transactions.specs.Transactions.{TransactionValue, IsOutstandingIn, IsBegun, WasLastCovered}
use Rattle.transactions.specs.TrackedVerdicts.{IsLegalSync, waited_for}
use Rattle.engine.specs.Counting.{taken}
use Rattle.engine.specs.Units.{UnitValue}
use Rattle.transactions.specs.TrackedQueueUnits.{TrackedQueueValue, tracked_in, BeganHere, began_in, RefusesWalksOf, RefusesWalks, walks_from, with_removed, HasJudgedQueue}

abbrev five : Raw
five = record { lo = 0x500000003; hi = 1 }

spelled_five : Spells five (CfgiSte 5 true)
spelled_five = ((refl, refl, refl), refl)

abbrev sync : Raw
sync = record { lo = 0x46; hi = 0 }

legal_sync : IsLegalSync sync
unfolding opcode_named
legal_sync = (refl, refl)

abbrev using : ℕ → Bool → OutstandingTransaction
using number covered = record { number = number; used = Entry (Ste 5); born = 0; covered = covered }

-- ---- what is covered

pub what_a_command_concerns_is_covered : ¬ TellsCovered (taken_as five ∷ []) (using 1 false)
unfolding opcode_named
what_a_command_concerns_is_covered tells = tells.uncovered refl (record {
  place = 0;
  taken = taken_as five;
  at = refl;
  since = leb-true 0 0 refl;
  concerned = record { applied = refl; command = CfgiSte 5 true; spelled = spelled_five; concerned = refl };
})

-- ---- beginnings and ends

pub none_begins_in_a_slot_that_is_taken : (old new : TrackedValue) (used : Used) (born number : ℕ) → slice_get old.outstanding 0 ≡ Some (Some (using 1 false))
    → ¬ IsBegun old used born new (record { slot = 0; number = number })
none_begins_in_a_slot_that_is_taken old new used born number there begun =
    let free : slice_get old.outstanding 0 ≡ Some None = begun.free in
    let same : Some (Some (using 1 false)) ≡ Some None = sym there ∙ free in
    absurd (cc)

pub a_token_has_the_next_number : (old new : TrackedValue) (used : Used) (born : ℕ) → old.next_number ≡ 5 → ¬ IsBegun old used born new (record { slot = 0; number = 6 })
a_token_has_the_next_number old new used born five begun = let number = begun.number in absurd (omega (arith, number, five))

inner : (a b : OutstandingTransaction) → Some (Some a) ≡ Some (Some b) → a ≡ b
inner a b is = cc

-- A slot that was used again isn't that of the earlier transaction.
pub an_earlier_number_is_not_outstanding : ¬ IsOutstandingIn (Some (using 2 false) ∷ []) (record { slot = 0; number = 1 })
an_earlier_number_is_not_outstanding is =
    let same = inner (using 2 false) is.outstanding is.at in
    let number : 2 ≡ 1 = ap (λ (o : OutstandingTransaction). o.number) same ∙ is.number in
    absurd (omega (arith, number))

pub another_that_is_covered_is_left : ¬ WasLastCovered (using 1 true) (None ∷ Some (using 2 true) ∷ [])
another_that_is_covered_is_left was = let none : 1 ≡ 0 = was.1 in absurd (omega (arith, none))

-- ---- what is tracked

pub a_tracked_unit_has_none_overdue : (t : TrackedValue) (list : List Taken) → IsTracked t list → NoneIsOverdue t.outstanding list
a_tracked_unit_has_none_overdue t list tracked = tracked.on_time

pub a_tracked_unit_keeps_its_last_invalidations : (t : TrackedValue) (list : List Taken) → IsTracked t list → t.recent ≡ last_invalidations list
a_tracked_unit_keeps_its_last_invalidations t list tracked = tracked.recorded

-- ---- a queue's unit

pub a_walk_of_before_a_reset_is_refused : (old new : TrackedQueueValue) (walk : ℕ) → RefusesWalksOf old new → BeganHere old walk → most_reserved < began_in new walk
a_walk_of_before_a_reset_is_refused old new walk refuses here = refuses walk here

pub a_sync_is_not_judged_while_it_has_to_wait : (old new : TrackedQueueValue) (judgement : Judgement) → HasJudgedQueue sync old new judgement → ¬ (waited_for (tracked_in old) ≡ 1)
a_sync_is_not_judged_while_it_has_to_wait old new judgement judged waits = let none = judged.none_waited_for legal_sync in absurd (omega (arith, none, waits))

-- ---- an eviction

pub an_eviction_refuses_earlier_walks : (old new : TrackedQueueValue) (walk : ℕ) → RefusesWalks old new → BeganHere old walk → most_reserved < began_in new walk
an_eviction_refuses_earlier_walks old new walk refuses here = refuses.of_before walk here

-- Behind two commands the numbers of two walks and one are used up.
pub numbers_go_on_behind_an_eviction : (q : TrackedQueueValue) → taken q.queue.unit.counts ≡ 2 → q.walks.first ≡ 1 → q.walks.since ≡ 0 → (walks_from 2 q).first ≡ 4
numbers_go_on_behind_an_eviction q two first since = omega (arith, two, first, since)

pub a_walk_counts_from_the_eviction : (q : TrackedQueueValue) → (walks_from 2 q).since ≡ 2
a_walk_counts_from_the_eviction q = refl

pub an_eviction_renumbers_walks : (unit : UnitValue) (q : TrackedQueueValue) → (with_removed unit q).walks ≡ walks_from (taken q.queue.unit.counts) q
an_eviction_renumbers_walks unit q = refl
