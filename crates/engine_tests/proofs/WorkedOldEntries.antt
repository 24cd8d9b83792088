-- Entries that are too old: for each the definitions of what was told, and of what is settled, are false.
use Rattle.std.proofs.Common.{◌≡◌, ℕ, zero, suc, ◌<◌, ◌≤◌, Bool, true, false, ◌||◌, List, [], ◌∷◌, ◌++◌, Some, None, refl, sym, ap, ap₂, subst, ◌∙◌, leb-true, ltb-true, arith}
use Rattle.std.proofs.lemmas.Option.{slice_get_within}
use Rattle.std.specs.Prelude.{slice_get}
use Rattle.std.specs.FinMap as finite
use Rattle.cmdcodec.specs.declared.raw.Raw.{Raw}
use Rattle.cmdcodec.specs.declared.command.Command.TheVariants.{CfgiSte}
use Rattle.cmdcodec.specs.Opcodes.{opcode_named, is_sync}
use Rattle.cmdcodec.specs.Words.{encoding}
use Rattle.cmdcodec.specs.Legality.{first_ill}
use Rattle.cmdcodec.specs.Spelling.{Spells}
use Rattle.ringcore.specs.declared.world.event.Who.TheVariants.{Sender}
use Rattle.ringcore.specs.declared.world.event.Event.{Event}
use Rattle.ringcore.specs.declared.world.event.Event.TheVariants.{Ask}
use Rattle.ringcore.specs.world.Trails.{Run, Trail, trail_of}
use Rattle.ringcore.specs.world.World.{Taken, sync_raw, taken_as, world}
use Rattle.ringcore.specs.world.Delivery.{Batch, batches, joined}
use Rattle.ringcore.specs.world.Laws.{IsApplied}
use Rattle.caches.specs.declared.tag.Tag.{Tag}
use Rattle.caches.specs.declared.tag.Tag.TheVariants.{Ste}
use Rattle.caches.specs.declared.tag.Entry.{Entry}
use Rattle.caches.specs.Held.{Entries}
use Rattle.ring.specs.Rings.{RingValue}
use Rattle.ring.specs.sender.Senders.{SenderValue}
use Rattle.ring.specs.Finishing.{SummaryValue}
use Rattle.engine.specs.Settled.{IsSettled, IsSettledEntry, StaysSettledWith}
use Rattle.engine.specs.Counting.{CountsValue, how_many, taken}
use Rattle.engine.specs.Engines.{EngineValue, HasAppliedRun}
use Rattle.engine.specs.Ends.{NoneIsOlder, reserved_ahead, WasToldTruly, WasToldAllTruly, IsEngineEnd}
use Rattle.ring_tests.proofs.WorkedCases.{x, y}
use Rattle.ring_tests.proofs.WorkedTold.{told_21, told_22}

-- ---- the entries

-- the stream table entry of a stream, filled after `born` commands
abbrev entry_of : ℕ → ℕ → Entry
entry_of sid born = record { tag = Ste sid; value = 0; born = born }

-- It is among the entries.
abbrev Holds : Entries → ℕ → ℕ → Type 0
Holds entries sid born = finite.get entries (Ste sid) ≡ Some (entry_of sid born)

spelled_x : Spells x (CfgiSte 5 true)
spelled_x = ((refl, refl, refl), refl)

legal_x : first_ill x ≡ None
unfolding opcode_named
legal_x = refl

spelled_y : Spells y (CfgiSte 6 true)
spelled_y = ((refl, refl, refl), refl)

legal_y : first_ill y ≡ None
unfolding opcode_named
legal_y = refl

-- ---- what is settled

-- CFGI_STE of stream 5 is taken, and an entry of that stream is held that was filled before.
pub stale_is_not_settled : (entries : Entries) → Holds entries 5 0 → ¬ IsSettled entries (taken_as x ∷ [])
unfolding opcode_named
stale_is_not_settled entries held settled =
    (settled (Ste 5) (entry_of 5 0) held).uncovered 0 (taken_as x) refl (leb-true 0 0 refl) (record { applied = refl; command = CfgiSte 5 true; spelled = spelled_x; covered = refl })

-- Nobody fills an entry after more commands than were taken.
pub unborn_is_not_settled : (entries : Entries) → Holds entries 5 2 → ¬ IsSettled entries (taken_as x ∷ [])
unborn_is_not_settled entries held settled = let born : 2 ≤ 1 = (settled (Ste 5) (entry_of 5 2) held).born in absurd (omega (arith, born))

-- Behind the fill of an entry of another stream, which was born after that command, none is held that was filled before it.
pub fill_of_an_old_entry_leaves_none_stale : (old new : Entries) → StaysSettledWith (entry_of 6 1) old new → IsSettled old (taken_as x ∷ []) → ¬ Holds new 5 0
fill_of_an_old_entry_leaves_none_stale old new stays settled held = stale_is_not_settled new held (stays (taken_as x ∷ []) own settled)
  where
    own : IsSettledEntry (taken_as x ∷ []) (Ste 6) (entry_of 6 1)
    own = record {
      born = leb-true 1 1 refl;
      uncovered = λ place t at from. let inside = slice_get_within (taken_as x ∷ []) place t at in absurd (omega (arith, inside, from));
    }

-- ---- what is older than the first commands of a ring

-- An entry that is as old as the command counts as older: it was filled before that command was taken.
pub as_old_is_older : (entries : Entries) → Holds entries 6 1 → ¬ NoneIsOlder entries (x ∷ y ∷ [])
as_old_is_older entries held none = let after : 1 < 1 = none (Ste 6) (entry_of 6 1) held 1 y (CfgiSte 6 true) refl legal_y spelled_y refl in absurd (omega (arith, after))

-- So does one that was held before the ring's first command, and one before the command ahead.
pub first_is_older : (entries : Entries) → Holds entries 5 0 → ¬ NoneIsOlder entries (x ∷ y ∷ [])
first_is_older entries held none = let after : 0 < 0 = none (Ste 5) (entry_of 5 0) held 0 x (CfgiSte 5 true) refl legal_x spelled_x refl in absurd (omega (arith, after))

-- ---- what sender 1 was told of its batch, which follows one of sender 0

nothing_is_more : {A : Type 0} (xs : List A) (a : A) (ys : List A) → ¬ ([] ≡ xs ++ a ∷ ys)
nothing_is_more [] a ys is = absurd (cc)
nothing_is_more (b ∷ xs) a ys is = absurd (cc)

abbrev is_ask : Event → Bool
is_ask (Ask number) = true
is_ask e = false

abbrev has_ask : Run → Bool
has_ask [] = false
has_ask (e ∷ run) = is_ask e.1 || has_ask run

or_true : (b c : Bool) → c ≡ true → b || c ≡ true
or_true true c is = refl
or_true false c is = is

asked : (later earlier : Run) (s number : ℕ) → has_ask (later ++ (Sender s, Ask number) ∷ earlier) ≡ true
asked [] earlier s number = refl
asked (e ∷ later) earlier s number = or_true (is_ask e.1) _ (asked later earlier s number)

abbrev behind_newest : Run → Run
behind_newest [] = []
behind_newest (e ∷ run) = run

-- The run has one ask.
before_ask : (later earlier : Run) (s number : ℕ) → told_22 ≡ later ++ (Sender s, Ask number) ∷ earlier → told_21 ≡ earlier
before_ask [] earlier s number is = ap behind_newest is
before_ask (e ∷ later) earlier s number is =
    let none : false ≡ true = ap has_ask (ap behind_newest is) ∙ asked later earlier s number in absurd (cc)

abbrev batch_of_x : Batch
batch_of_x = record { sender = 0; number = None; body = x ∷ [] }

abbrev batch_of_y : List Raw → Batch
batch_of_y body = record { sender = 1; number = Some 1; body = body }

abbrev first_of : List Batch → Batch
first_of [] = batch_of_x
first_of (b ∷ bs) = b

abbrev rest_of : List Batch → List Batch
rest_of [] = []
rest_of (b ∷ bs) = bs

-- The command of sender 0, and its own, come before its closing sync.
ahead_of_sync : (ahead behind : List Batch) (body : List Raw) → batches told_21 ≡ ahead ++ batch_of_y body ∷ behind → joined ahead ++ body ≡ x ∷ y ∷ []
ahead_of_sync [] behind body is = let same : 0 ≡ 1 = ap (λ bs. (first_of bs).sender) is in absurd (omega (arith, same))
ahead_of_sync (a ∷ []) behind body is =
    let one : a ≡ batch_of_x = sym (ap first_of is) in
    let own : body ≡ y ∷ [] = sym (ap (λ bs. (first_of (rest_of bs)).body) is) in
    ap₂ (λ (b : Batch) body. joined (b ∷ []) ++ body) one own
ahead_of_sync (a ∷ b ∷ ahead) behind body is =
    let none : [] ≡ ahead ++ batch_of_y body ∷ behind = ap (λ bs. rest_of (rest_of bs)) is in absurd (nothing_is_more ahead _ behind none)

reserved_is : (earlier : Run) → told_21 ≡ earlier → (applied : IsApplied earlier 1 1) → reserved_ahead applied ≡ x ∷ y ∷ []
reserved_is earlier is applied = ahead_of_sync applied.completed.ahead applied.completed.behind applied.completed.body (ap batches is ∙ applied.completed.reserved)

none_older : (entries : Entries) (older : Trail) → WasToldTruly told_22 entries 1 1 older → NoneIsOlder entries (x ∷ y ∷ [])
none_older entries older truly =
    let told = truly.was_told in
    let some : 1 ≤ 1 = leb-true 1 1 refl in
    subst (NoneIsOlder entries) (reserved_is told.earlier (before_ask told.later told.earlier 1 1 told.run_is) (told.applied 1 some some)) (truly.none_older 1 some some)

-- An entry is held that was filled when its own command was next to be taken.
pub own_command_is_missed : (entries : Entries) (older : Trail) → Holds entries 6 1 → ¬ WasToldTruly told_22 entries 1 1 older
own_command_is_missed entries older held truly = as_old_is_older entries held (none_older entries older truly)

-- One is held that the command of sender 0, which is ahead, covers.
pub command_ahead_is_missed : (entries : Entries) (older : Trail) → Holds entries 5 0 → ¬ WasToldTruly told_22 entries 1 1 older
command_ahead_is_missed entries older held truly = first_is_older entries held (none_older entries older truly)

abbrev is_empty : Trail → Bool
is_empty [] = true
is_empty (e ∷ es) = false

-- It was told by its own trail, which is not empty.
pub another_trail_was_told_nothing : (entries : Entries) → ¬ WasToldTruly told_22 entries 1 1 []
another_trail_was_told_nothing entries truly =
    let told = truly.was_told in
    let is : told_21 ≡ told.earlier = before_ask told.later told.earlier 1 1 told.run_is in
    let no : false ≡ true = ap (λ (run : Run). is_empty (trail_of (Sender 1) run)) is ∙ ap is_empty told.trail_is in absurd (cc)

-- ---- when it is true

-- If all entries were filled after the three commands, what sender 1 was told is so.
applied_then : IsApplied told_21 1 1
unfolding encoding opcode_named
applied_then = record {
  completed = record { ahead = batch_of_x ∷ []; body = y ∷ []; behind = []; reserved = refl; sync = refl; all_ahead = (sync_raw 1 1 ∷ [], refl) };
  applied = refl;
}

abbrev AreYoung : Entries → Type 0
AreYoung entries = (tag : Tag) (entry : Entry) → finite.get entries tag ≡ Some entry → 3 ≤ entry.born

below_two : (place : ℕ) (raw : Raw) → slice_get (x ∷ y ∷ []) place ≡ Some raw → place < 2
below_two zero raw there = ltb-true 0 2 refl
below_two (suc zero) raw there = ltb-true 1 2 refl
below_two (suc (suc place)) raw there = absurd (cc)

none_is_older : (entries : Entries) → AreYoung entries → NoneIsOlder entries (x ∷ y ∷ [])
none_is_older entries young tag entry held place raw command there legal spelled covered =
    omega (arith, below_two place raw there, young tag entry held)

applied_up_to : (number : ℕ) → 1 ≤ number → number ≤ 1 → IsApplied told_21 1 number
applied_up_to number some most = let is : 1 ≡ number = omega (arith, some, most) in subst (IsApplied told_21 1) is applied_then

abbrev NoneIsOlderThan : Entries → ℕ → Type 0
NoneIsOlderThan entries number = (applied : IsApplied told_21 1 number) → NoneIsOlder entries (reserved_ahead applied)

none_older_than : (entries : Entries) → AreYoung entries → (number : ℕ) → 1 ≡ number → NoneIsOlderThan entries number
none_older_than entries young number is =
    subst (NoneIsOlderThan entries) is (λ applied. subst (NoneIsOlder entries) (sym (reserved_is told_21 refl applied)) (none_is_older entries young))

pub young_entries_are_no_fault : (entries : Entries) → AreYoung entries → WasToldTruly told_22 entries 1 1 (trail_of (Sender 1) told_21)
young_entries_are_no_fault entries young = record {
  was_told = record { later = []; earlier = told_21; run_is = refl; trail_is = refl; applied = applied_up_to };
  none_older = λ number some most. none_older_than entries young number (omega (arith, some, most)) (applied_up_to number some most);
}

-- ---- the end of an engine

-- What is told at the end is told of every sender: of sender 1 too.
pub end_tells_each_sender : (ring : RingValue) (senders : List SenderValue) (engine : EngineValue) (summary : SummaryValue) (counts : CountsValue) (entries : Entries) (end : IsEngineEnd ring senders engine summary counts entries)
    → end.end_is.run ≡ told_22 → (s : SenderValue) → slice_get senders 1 ≡ Some s → s.trail ≡ Ask 1 ∷ trail_of (Sender 1) told_21 → ¬ Holds entries 6 1
end_tells_each_sender ring senders engine summary counts entries end run_is s at trail_is held =
    let older = trail_of (Sender 1) told_21 in
    own_command_is_missed entries older held (subst (λ run. WasToldTruly run entries 1 1 older) run_is (end.told 1 s at [] older 1 trail_is))

-- ---- an end of that run

-- An entry is held that CFGI_STE of its stream should have removed.
pub end_holds_nothing_stale : (ring : RingValue) (senders : List SenderValue) (engine : EngineValue) (summary : SummaryValue) (counts : CountsValue) (entries : Entries) (end : IsEngineEnd ring senders engine summary counts entries)
    → end.end_is.run ≡ told_22 → ¬ Holds entries 5 0
unfolding opcode_named
end_holds_nothing_stale ring senders engine summary counts entries end run_is held =
    let settled : IsSettled entries (world told_22).taken = subst (λ (run : Run). IsSettled entries (world run).taken) run_is end.settled in
    (settled (Ste 5) (entry_of 5 0) held).uncovered 0 (taken_as x) refl (leb-true 0 0 refl) (record { applied = refl; command = CfgiSte 5 true; spelled = spelled_x; covered = refl })

-- Each CMD_SYNC that was taken counts.
pub end_counts_its_syncs : (ring : RingValue) (senders : List SenderValue) (engine : EngineValue) (summary : SummaryValue) (counts : CountsValue) (entries : Entries) (end : IsEngineEnd ring senders engine summary counts entries)
    → end.end_is.run ≡ told_22 → counts.syncs ≡ how_many (λ t. is_sync t.raw) (world told_22).taken
end_counts_its_syncs ring senders engine summary counts entries end run_is =
    end.counted.syncs ∙ ap (λ (run : Run). how_many (λ (t : Taken). is_sync t.raw) (world run).taken) run_is

pub end_counts_all_that_was_taken : (ring : RingValue) (senders : List SenderValue) (engine : EngineValue) (summary : SummaryValue) (counts : CountsValue) (entries : Entries) (end : IsEngineEnd ring senders engine summary counts entries)
    → summary.taken ≡ 3 → taken counts ≡ 3
end_counts_all_that_was_taken ring senders engine summary counts entries end three = sym end.taken_are ∙ three

-- What was told by an ask before the newest counts too.
pub first_of_two_asks_was_told_truly : (run : Run) (entries : Entries) → WasToldAllTruly run entries 1 (Ask 2 ∷ Ask 1 ∷ []) → WasToldTruly run entries 1 1 []
first_of_two_asks_was_told_truly run entries truly = truly (Ask 2 ∷ []) [] 1 refl

-- ---- a run of the engine

-- It ends at an illegal command, and not at a legal one.
pub run_goes_on_at_a_legal_command : (most count removed : ℕ) (old new : EngineValue) (did : HasAppliedRun most count removed old new) (raw : Raw)
    → slice_get did.pending.raws count ≡ Some raw → ¬ (first_ill raw ≡ None)
run_goes_on_at_a_legal_command most count removed old new did raw at legal =
    let found = did.longest raw at in let none : None ≡ Some found.0 = sym legal ∙ found.1 in absurd (cc)
