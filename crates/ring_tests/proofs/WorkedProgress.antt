-- What the laws of progress may not allow: for each part a run of which it is false, or what follows from it.
use Rattle.std.proofs.Common.{◌≡◌, ℕ, ◌+◌, ◌*◌, ◌≤◌, true, false, [], ◌∷◌, length, Some, None, refl, ap, subst, ◌∙◌, arith}
use Rattle.std.proofs.lemmas.List.{length-append}
use Rattle.qindex.specs.declared.control.Control.{Control}
use Rattle.ringcore.specs.declared.world.event.Who.TheVariants.{Consumer, Sender}
use Rattle.ringcore.specs.declared.world.event.Half.{Half}
use Rattle.ringcore.specs.declared.world.event.Event.TheVariants.{Look, Won, Lost, Write, Flip, Test, Read, Advance, Close, Acknowledge}
use Rattle.ringcore.specs.world.Trails.{Run, trail_of, IsSettled}
use Rattle.ringcore.specs.world.World.{tail, head, world}
use Rattle.ringcore.specs.world.Allowed.{Ring, IsRun}
use Rattle.ringcore.specs.world.Laws.{OnlyOf}
use Rattle.progress.specs.Contention.{changes, ChangesAreFew, all_losses, AllLossesArePaidFor}
use Rattle.progress.specs.Waiting.{IsHeldBy, IsStillHeld, NoneIsOpen, OnlyOneHolds, HoldersAreOpen, WaitingHasAName}
use Rattle.progress.specs.Draining.{IsByTheConsumer, IsDrained}
use Rattle.progress.specs.Publishing.{is_independent, publishes, IsPublication, IsPublished, OnlyFinishes, IsFinished}
use Rattle.ring_tests.proofs.WorkedCases.{x, shows}

abbrev two : Ring
two = record { geometry = 1; senders = 2; max_batches = 4; flags = 64 }

abbrev empty : Control
empty = shows 1 0 0 false

-- Sender 0 has reserved a command, and published nothing.
abbrev reserved : Run
reserved = (Sender 0, Won (x ∷ []) None) ∷ (Sender 0, Look empty) ∷ []

-- ---- Publishing.

pub what_is_reserved_is_not_published : ¬ IsPublished two reserved reserved 0
what_is_reserved_is_not_published is = let no : false ≡ true = is.settled 0 (omega arith) in absurd (cc)

pub a_command_is_published_in_three_steps : (whole : Run) (is : IsPublished two reserved whole 0) → length is.later ≤ 3
a_command_is_published_in_three_steps whole is = omega (arith, is.events)

pub nobody_else_publishes : (whole : Run) (is : IsPublished two reserved whole 0) → ¬ (is.later ≡ (Consumer, Flip 0 1) ∷ [])
nobody_else_publishes whole is later =
    let only : IsPublication 0 ((Consumer, Flip 0 1) ∷ []) = subst (IsPublication 0) later is.alone in
    let no = only.0 in absurd (cc)

pub what_happened_is_kept : ¬ IsPublished two reserved [] 0
what_happened_is_kept is =
    let long : 0 ≡ length is.later + 2 = ap (λ (r : Run). length r) is.whole_is ∙ length-append is.later reserved in omega (arith, long)

pub a_look_publishes_nothing : publishes (Look empty) ≡ false
a_look_publishes_nothing = refl

pub an_exchange_publishes_nothing : publishes (Won (x ∷ []) None) ≡ false
an_exchange_publishes_nothing = refl

-- ---- Steps that nobody forbids.

pub nobody_forbids_a_write : (offset : ℕ) (half : Half) → is_independent (Write offset half) ≡ true
nobody_forbids_a_write offset half = refl

pub nobody_forbids_a_flip : (offset count : ℕ) → is_independent (Flip offset count) ≡ true
nobody_forbids_a_flip offset count = refl

pub nobody_forbids_a_read : (offset word : ℕ) (half : Half) → is_independent (Read offset half word) ≡ true
nobody_forbids_a_read offset word half = refl

pub nobody_forbids_an_advance : is_independent (Advance (x ∷ [])) ≡ true
nobody_forbids_an_advance = refl

pub nobody_forbids_a_close : is_independent Close ≡ true
nobody_forbids_a_close = refl

pub nobody_forbids_an_acknowledgement : is_independent (Acknowledge 0 1) ≡ true
nobody_forbids_an_acknowledgement = refl

pub others_may_win_an_exchange : is_independent (Won (x ∷ []) None) ≡ false
others_may_win_an_exchange = refl

-- ---- An end.

pub what_is_not_taken_is_not_finished : ¬ IsFinished two 1 reserved reserved
what_is_not_taken_is_not_finished is = let no : 0 ≡ 1 = is.taken in omega (arith, no)

pub what_is_open_is_not_finished : ¬ IsFinished two 1 reserved reserved
what_is_open_is_not_finished is = let no : false ≡ true = is.none 0 0 (omega arith) in absurd (cc)

pub nothing_is_reserved_meanwhile : ¬ IsFinished two 1 [] reserved
nothing_is_reserved_meanwhile is = let no : 1 ≡ 0 = ap length is.reserved in omega (arith, no)

pub a_command_is_finished_in_seven_steps : (whole : Run) (is : IsFinished two 1 reserved whole) → length is.later ≤ 7
a_command_is_finished_in_seven_steps whole is = omega (arith, is.events)

pub nobody_reserves_meanwhile : (whole : Run) (is : IsFinished two 1 reserved whole) → ¬ (is.later ≡ (Sender 1, Look empty) ∷ [])
nobody_reserves_meanwhile whole is later =
    let only : OnlyFinishes ((Sender 1, Look empty) ∷ []) = subst OnlyFinishes later is.finishes in
    let no : false ≡ true = only.0 in absurd (cc)

pub what_happened_is_kept_to_the_end : ¬ IsFinished two 1 reserved []
what_happened_is_kept_to_the_end is =
    let long : 0 ≡ length is.later + 2 = ap (λ (r : Run). length r) is.whole_is ∙ length-append is.later reserved in omega (arith, long)

-- The reservation has a closing CMD_SYNC, of number 1.
abbrev numbered : Run
numbered = (Sender 0, Won (x ∷ []) (Some 1)) ∷ (Sender 0, Look empty) ∷ []

pub a_number_is_acknowledged_at_the_end : ¬ IsFinished two 1 numbered numbered
a_number_is_acknowledged_at_the_end is = let no : 0 ≡ 1 = is.acknowledged 0 in omega (arith, no)

pub a_number_is_acknowledged_by_a_drain : ¬ IsDrained two 1 numbered numbered
a_number_is_acknowledged_by_a_drain is = let no : 0 ≡ 1 = is.acknowledged 0 in omega (arith, no)

pub a_drain_takes_all : ¬ IsDrained two 1 reserved reserved
a_drain_takes_all is = let no : 0 ≡ 1 = is.taken in omega (arith, no)

pub a_drain_reserves_nothing : ¬ IsDrained two 1 [] reserved
a_drain_reserves_nothing is = let no : 1 ≡ 0 = ap length is.reserved in omega (arith, no)

pub a_drain_is_the_consumers : (whole : Run) (is : IsDrained two 1 reserved whole) → ¬ (is.later ≡ (Sender 0, Flip 0 1) ∷ [])
a_drain_is_the_consumers whole is later =
    let only : IsByTheConsumer ((Sender 0, Flip 0 1) ∷ []) = subst IsByTheConsumer later is.alone in
    let no = only.0 in absurd (cc)

-- ---- Who holds the head.

pub who_reserved_holds_it : IsHeldBy reserved 0 0
who_reserved_holds_it = record {
  item = record { sender = 0; number = None; place = 0; raw = x };
  there = refl;
  sender_is = refl;
  from = omega arith;
  below = omega arith;
  unflipped = refl;
}

pub what_is_flipped_is_not_held : ¬ IsHeldBy ((Sender 0, Flip 0 1) ∷ reserved) 0 0
what_is_flipped_is_not_held held = let no : true ≡ false = held.unflipped in absurd (cc)

pub what_is_not_reserved_is_not_held : ¬ IsHeldBy reserved 1 0
what_is_not_reserved_is_not_held held = omega (arith, held.below)

-- Sender 1 reserved a command, and sender 0 two behind it.
abbrev in_turn : Run
in_turn = (Sender 0, Won (x ∷ x ∷ []) None) ∷ (Sender 1, Won (x ∷ []) None) ∷ []

pub what_is_ahead_is_not_held : ¬ IsHeldBy in_turn 0 0
what_is_ahead_is_not_held held = omega (arith, held.from)

pub only_one_of_two_holds_it : OnlyOneHolds → (run : Run) (position : ℕ) → IsHeldBy run position 0 → ¬ IsHeldBy run position 1
only_one_of_two_holds_it law run position one other = let no : 0 ≡ 1 = law run position 0 1 one other in omega (arith, no)

pub who_published_holds_nothing : HoldersAreOpen → (run : Run) (position : ℕ) → IsSettled (trail_of (Sender 0) run) → ¬ IsHeldBy run position 0
who_published_holds_nothing law run position settled held = law run position 0 held settled

pub what_is_taken_is_held_no_longer : ¬ IsStillHeld ((Consumer, Advance (x ∷ [])) ∷ reserved) 0 0
what_is_taken_is_held_no_longer still = omega (arith, still.untaken)

pub what_is_still_held_is_held : (run : Run) → IsStillHeld run 0 0 → IsHeldBy run 0 0
what_is_still_held_is_held run still = still.held

pub where_nothing_is_found_somebody_holds_it : WaitingHasAName → IsRun two ((Consumer, Test 1 0) ∷ reserved) → (s : ℕ) × IsHeldBy reserved 0 s
where_nothing_is_found_somebody_holds_it law run = law two reserved 1 run (omega arith)

pub a_reservation_is_open : ¬ NoneIsOpen reserved
a_reservation_is_open none = let no : false ≡ true = none 0 0 (omega arith) in absurd (cc)

-- ---- Changes.

pub an_empty_ring_changes_by_its_close_alone : ChangesAreFew → (run : Run) → IsRun two run → tail (world run) ≡ 0 → head (world run) ≡ 0 → changes run ≤ 1
an_empty_ring_changes_by_its_close_alone law run is none taken = let few = law two run is in omega (arith, few, none, taken)

pub a_lone_sender_loses_no_more_than_changes : AllLossesArePaidFor → (run : Run) → OnlyOf 1 run → IsRun two run → all_losses run ≤ changes run
a_lone_sender_loses_no_more_than_changes law run of_one is = let few : all_losses run ≤ 1 * changes run = law two 1 run of_one is in omega (arith, few)

-- Sender 1 lost an exchange to sender 0, and sender 0 the next one.
pub losses_of_all_senders_count : all_losses ((Sender 0, Lost (x ∷ []) false empty) ∷ (Sender 1, Lost (x ∷ []) false empty) ∷ reserved) ≡ 2
losses_of_all_senders_count = refl
