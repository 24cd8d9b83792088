-- Transactions and one more command.
use Rattle.std.proofs.Common.{◌≡◌, ◌≤◌, ◌<◌, ◌+◌, ℕ, zero, suc, Bool, true, false, cond, ◌||◌, List, [], ◌∷◌, ◌++◌, length, length-append, append-nil, map, Option, Some, None, refl, sym, ap, subst, ◌∙◌, arith, ⊎_elim, inl, inr, ◌⊎◌}
use Rattle.std.specs.Prelude.{slice_get, slice_set, count_by, replicate, ◌↔◌, Result, Ok, Err, OnOk, OnErr}
use Rattle.std.proofs.lemmas.Option.{slice_get_within}
use Rattle.cmdcodec.specs.declared.raw.Raw.{Raw}
use Rattle.cmdcodec.specs.declared.command.Command.{Command}
use Rattle.cmdcodec.specs.Opcodes.{is_sync}
use Rattle.cmdcodec.specs.Spelling.{Spells}
use Rattle.ringcore.specs.declared.world.event.Outcome.TheVariants.{Applied, Replaced}
use Rattle.ringcore.specs.world.World.{Taken}
use Rattle.caches.specs.declared.tag.Tag.{Tag}
use Rattle.engine.specs.Settled.{HasCovered, IsSettled, IsSettledEntry}
use Rattle.caches.specs.declared.tag.Entry.{Entry}
use Rattle.transactions.specs.FreeSlots.{HasBlocks}
use Rattle.transactions.specs.Tracking.{TrackedValue, TrackingValue, tracked_with, IsTracked}
use Rattle.transactions.specs.declared.transaction.Ended.{Ended}
use Rattle.transactions.specs.declared.transaction.Ended.TheVariants.{LastCovered}
use Rattle.caches.specs.Covers.{covers}
use Rattle.transactions.specs.Transactions.{TransactionValue, IsOwn, new_transaction, with_outstanding, WasLastCovered, IsEndAnswer}
use Rattle.std.proofs.lemmas.List.Sums.{sum_by-cons}
use Rattle.engine.specs.Counting.{taken}
use Rattle.engine.specs.Units.{UnitValue, StaysSettled}
use Rattle.transactions.specs.declared.outstanding.OutstandingTransaction.{OutstandingTransaction}
use Rattle.transactions.specs.declared.used.Used.{Used}
use Rattle.transactions.specs.declared.used.Used.TheVariants.{Entry as EntryOf, Tables}
use Rattle.transactions.specs.Coverage.{is_invalidation, concerns, HasConcerned}
use Rattle.transactions.specs.Since.{HasCoveredSince, HasConcernedSince}
use Rattle.transactions.specs.Outstanding.{Slots, cover, is_covered, IsOverdue, NoneIsOverdue, TellsCovered, TellCovered, HasCoveredOutstanding, UsesBlock}
use Rattle.transactions.proofs.Lists.{get_more, get_end, get_last, get_set, get_map, get_copies, counted, counts_one}
use Rattle.transactions.proofs.Spelled.{covers_may}

-- ---- what has concerned what is used

module _ (list : List Taken) (t : Taken) (began : ℕ) (used : Used) where
  pub since_more : HasConcernedSince list began used → HasConcernedSince (list ++ t ∷ []) began used
  since_more h = record { place = h.place; taken = h.taken; at = get_more list t h.taken h.place h.at; since = h.since; concerned = h.concerned }

  pub since_now : began ≤ length list → HasConcerned t used → HasConcernedSince (list ++ t ∷ []) began used
  since_now within c = record { place = length list; taken = t; at = get_end list t; since = within; concerned = c }

  pub since_last : HasConcernedSince (list ++ t ∷ []) began used → HasConcernedSince list began used ⊎ HasConcerned t used
  since_last h =
      ⊎_elim
      (λ (old : slice_get list h.place ≡ Some h.taken). inl (record { place = h.place; taken = h.taken; at = old; since = h.since; concerned = h.concerned }))
      (λ (new : (h.place ≡ length list) × (t ≡ h.taken)). inr (subst (λ (u : Taken). HasConcerned u used) (sym new.1) h.concerned))
      (get_last list t h.taken h.place h.at)

-- ---- what makes a transaction late

record IsSyncNow (t : Taken) : Type 0 where
  applied : t.outcome ≡ Applied
  sync : is_sync t.raw ≡ true

overdue_last : (list : List Taken) (t : Taken) (o : OutstandingTransaction) → IsOverdue (list ++ t ∷ []) o → IsOverdue list o ⊎ (IsSyncNow t × HasConcernedSince list o.born o.used)
overdue_last list t o l =
    ⊎_elim
    (λ (old : slice_get list l.later ≡ Some l.sync).
    let low = slice_get_within list l.later l.sync old in
    inl (record { place = l.place; taken = l.taken; at = in_list (before l.place l.later (length list) l.after low); since = l.since; concerned = l.concerned; later = l.later; sync = l.sync; at_later = old; after = l.after; applied = l.applied; is_sync = l.is_sync }))
    (λ (new : (l.later ≡ length list) × (t ≡ l.sync)).
    inr (
      record { applied = ap (λ (u : Taken). u.outcome) new.1 ∙ l.applied; sync = ap (λ (u : Taken). is_sync u.raw) new.1 ∙ l.is_sync },
      record { place = l.place; taken = l.taken; at = in_list (at_end l.place l.later (length list) l.after new.0); since = l.since; concerned = l.concerned },
    ))
    (get_last list t l.sync l.later l.at_later)
  where
    before : (a b c : ℕ) → a < b → b < c → a < c
    before a b c p q = omega (arith, p, q)

    at_end : (a b c : ℕ) → a < b → b ≡ c → a < c
    at_end a b c p q = omega (arith, p, q)

    in_list : l.place < length list → slice_get list l.place ≡ Some l.taken
    in_list low =
        ⊎_elim
        (λ (old : slice_get list l.place ≡ Some l.taken). old)
        (λ (new : (l.place ≡ length list) × (t ≡ l.taken)). let same = new.0 in absurd (omega (arith, low, same)))
        (get_last list t l.taken l.place l.at)

-- ---- tests

or_true : (a b : Bool) → a || b ≡ true → (a ≡ true) ⊎ (b ≡ true)
or_true true b is = inl refl
or_true false b is = inr is

or_false : (a b : Bool) → a || b ≡ false → (a ≡ false) × (b ≡ false)
or_false true b is = absurd (cc)
or_false false b is = (refl, is)

or_none : (a b : Bool) → b ≡ false → a || b ≡ a
or_none true b is = refl
or_none false b is = is

either : (b : Bool) → (b ≡ true) ⊎ (b ≡ false)
either true = inl refl
either false = inr refl

-- ---- a command that was applied

module _ (list : List Taken) (raw : Raw) (command : Command) (spelled : Spells raw command) (alone : (other : Command) → Spells raw other → other ≡ command) where
  abbrev now : Taken
  now = record { raw = raw; outcome = Applied }

  concerns_now : (used : Used) → concerns command used ≡ true → HasConcerned now used
  concerns_now used so = record { applied = refl; command = command; spelled = spelled; concerned = so }

  is_concerned : (used : Used) → HasConcerned now used → concerns command used ≡ true
  is_concerned used c = ap (λ (x : Command). concerns x used) (sym (alone c.command c.spelled)) ∙ c.concerned

  covered_one : (o : OutstandingTransaction) → TellsCovered list o → TellsCovered (list ++ now ∷ []) (record o { covered = o.covered || concerns command o.used })
  covered_one o m = record {
    born = let b = m.born in let longer = length-append list (now ∷ []) in omega (arith, b, longer);
    covered = λ so.
        ⊎_elim
        (λ (old : o.covered ≡ true). since_more list now o.born o.used (m.covered old))
        (λ (new : concerns command o.used ≡ true). since_now list now o.born o.used m.born (concerns_now o.used new))
        (or_true o.covered (concerns command o.used) so);
    uncovered = λ nay h.
        let neither = or_false o.covered (concerns command o.used) nay in
        ⊎_elim
        (λ (old : HasConcernedSince list o.born o.used). m.uncovered neither.0 old)
        (λ (new : HasConcerned now o.used). let so = is_concerned o.used new in let not_so = neither.1 in absurd (cc))
        (since_last list now o.born o.used h);
  }

  record WasCovered (slots : Slots) (slot : ℕ) (o : OutstandingTransaction) : Type 0 where
    was : OutstandingTransaction
    at : slice_get slots slot ≡ Some (Some was)
    o_is : record was { covered = was.covered || concerns command was.used } ≡ o

  was_covered : (slots : Slots) (slot : ℕ) (o : OutstandingTransaction) → slice_get (map (cover command) slots) slot ≡ Some (Some o) → WasCovered slots slot o
  was_covered slots slot o at = let there = get_map (cover command) slots slot (Some o) at in by_slot there.0 there.1 there.2
    where
      by_slot : (x : Option OutstandingTransaction) → slice_get slots slot ≡ Some x → cover command x ≡ Some o → WasCovered slots slot o
      by_slot None there is = absurd (cc)
      by_slot (Some was) there is = record { was = was; at = there; o_is = same (record was { covered = was.covered || concerns command was.used }) o is }
        where
          same : (a b : OutstandingTransaction) → Some a ≡ Some b → a ≡ b
          same a b is = cc

  pub are_covered : (slots : Slots) → TellCovered slots list → TellCovered (map (cover command) slots) (list ++ now ∷ [])
  are_covered slots covered slot o at =
      let w = was_covered slots slot o at in subst (TellsCovered (list ++ now ∷ [])) w.o_is (covered_one w.was (covered slot w.was w.at))

  pub none_overdue : (slots : Slots) → TellCovered slots list → NoneIsOverdue slots list → (is_sync raw ≡ true → ¬ HasCoveredOutstanding slots list)
      → NoneIsOverdue (map (cover command) slots) (list ++ now ∷ [])
  none_overdue slots covered on_time waited slot o at late =
      let w = was_covered slots slot o at in
      let l : IsOverdue (list ++ now ∷ []) w.was = as_before w.was (subst (IsOverdue (list ++ now ∷ [])) (sym w.o_is) late) in
      ⊎_elim
      (λ (old : IsOverdue list w.was). on_time slot w.was w.at old)
      (λ (new : IsSyncNow now × HasConcernedSince list w.was.born w.was.used). waited new.0.sync (record { slot = slot; outstanding = w.was; at = w.at; concerned = new.1 }))
      (overdue_last list now w.was l)
    where
      as_before : (was : OutstandingTransaction) → IsOverdue (list ++ now ∷ []) (record was { covered = was.covered || concerns command was.used }) → IsOverdue (list ++ now ∷ []) was
      as_before was l = record { place = l.place; taken = l.taken; at = l.at; since = l.since; concerned = l.concerned; later = l.later; sync = l.sync; at_later = l.at_later; after = l.after; applied = l.applied; is_sync = l.is_sync }

-- A command that is no invalidation concerns nothing,
concerns_none : (command : Command) → is_invalidation command ≡ false → (used : Used) → concerns command used ≡ false
concerns_none command none (EntryOf tag) = covers_none (either (covers command tag))
  where
    covers_none : (covers command tag ≡ true) ⊎ (covers command tag ≡ false) → covers command tag ≡ false
    covers_none (inl so) = let may = covers_may command tag so in absurd (cc)
    covers_none (inr nay) = nay
concerns_none command none Tables = none

-- and marks nothing.
pub covers_no_slot : (command : Command) (slots : Slots) → is_invalidation command ≡ false → slots ≡ map (cover command) slots
covers_no_slot command [] none = refl
covers_no_slot command (None ∷ slots) none = ap (λ (l : Slots). None ∷ l) (covers_no_slot command slots none)
covers_no_slot command (Some o ∷ slots) none =
    λ k. Some (record o { covered = sym (or_none o.covered (concerns command o.used) (concerns_none command none o.used)) k }) ∷ covers_no_slot command slots none k

-- ---- a command that was replaced

module _ (list : List Taken) (raw : Raw) where
  abbrev instead : Taken
  instead = record { raw = raw; outcome = Replaced }

  pub no_concern : (used : Used) → ¬ HasConcerned instead used
  no_concern used c = let nay : Replaced ≡ Applied = c.applied in absurd (cc)

  pub replaced_covered : (slots : Slots) → TellCovered slots list → TellCovered slots (list ++ instead ∷ [])
  replaced_covered slots covered slot o at =
      let m = covered slot o at in
      record {
        born = let b = m.born in let longer = length-append list (instead ∷ []) in omega (arith, b, longer);
        covered = λ so. since_more list instead o.born o.used (m.covered so);
        uncovered = λ nay h.
            ⊎_elim
            (λ (old : HasConcernedSince list o.born o.used). m.uncovered nay old)
            (λ (new : HasConcerned instead o.used). no_concern o.used new)
            (since_last list instead o.born o.used h);
      }

  pub replaced_overdue : (slots : Slots) → NoneIsOverdue slots list → NoneIsOverdue slots (list ++ instead ∷ [])
  replaced_overdue slots on_time slot o at late =
      ⊎_elim
      (λ (old : IsOverdue list o). on_time slot o at old)
      (λ (new : IsSyncNow instead × HasConcernedSince list o.born o.used). let nay : Replaced ≡ Applied = new.0.applied in absurd (cc))
      (overdue_last list instead o late)

-- ---- how many are covered

pub waits_for : (slots : Slots) (list : List Taken) → TellCovered slots list → 0 < count_by is_covered slots → HasCoveredOutstanding slots list
waits_for slots list covered some = let one = counts_one is_covered slots some in by_slot one.0 one.1 one.2 one.3
  where
    by_slot : (slot : ℕ) (x : Option OutstandingTransaction) → slice_get slots slot ≡ Some x → is_covered x ≡ true → HasCoveredOutstanding slots list
    by_slot slot None at so = absurd (cc)
    by_slot slot (Some o) at so = record { slot = slot; outstanding = o; at = at; concerned = (covered slot o at).covered so }

pub has_to_wait : (slots : Slots) (list : List Taken) → TellCovered slots list → HasCoveredOutstanding slots list → 0 < count_by is_covered slots
has_to_wait slots list covered h =
    counted is_covered slots h.slot (Some h.outstanding) h.at (so (either h.outstanding.covered))
  where
    so : (h.outstanding.covered ≡ true) ⊎ (h.outstanding.covered ≡ false) → h.outstanding.covered ≡ true
    so (inl is) = is
    so (inr nay) = absurd ((covered h.slot h.outstanding h.at).uncovered nay h.concerned)

-- ---- one begins or ends

pub begun_covered : (slots : Slots) (list : List Taken) (slot : ℕ) (o : OutstandingTransaction) → TellCovered slots list → TellsCovered list o → TellCovered (slice_set slots slot (Some o)) list
begun_covered slots list slot o covered own at outstanding there =
    ⊎_elim
    (λ (old : slice_get slots at ≡ Some (Some outstanding)). covered at outstanding old)
    (λ (new : Some o ≡ Some outstanding). subst (TellsCovered list) (inner o outstanding new) own)
    (get_set slots slot (Some o) at (Some outstanding) there)
  where
    inner : (a b : OutstandingTransaction) → Some a ≡ Some b → a ≡ b
    inner a b is = cc

pub began_on_time : (slots : Slots) (list : List Taken) (slot : ℕ) (o : OutstandingTransaction) → NoneIsOverdue slots list → ¬ IsOverdue list o → NoneIsOverdue (slice_set slots slot (Some o)) list
began_on_time slots list slot o on_time own at outstanding there late =
    ⊎_elim
    (λ (old : slice_get slots at ≡ Some (Some outstanding)). on_time at outstanding old late)
    (λ (new : Some o ≡ Some outstanding). own (subst (IsOverdue list) (sym (inner o outstanding new)) late))
    (get_set slots slot (Some o) at (Some outstanding) there)
  where
    inner : (a b : OutstandingTransaction) → Some a ≡ Some b → a ≡ b
    inner a b is = cc

pub ended_at : (slots : Slots) (slot at : ℕ) (outstanding : OutstandingTransaction) → slice_get (slice_set slots slot None) at ≡ Some (Some outstanding) → slice_get slots at ≡ Some (Some outstanding)
ended_at slots slot at outstanding there =
    ⊎_elim
    (λ (old : slice_get slots at ≡ Some (Some outstanding)). old)
    (λ (new : None ≡ Some outstanding). absurd (cc))
    (get_set slots slot None at (Some outstanding) there)

-- ---- what a transaction that begins uses is new enough

-- What was born then was, and nothing that was taken since concerns it.
pub record IsFresh (list : List Taken) (used : Used) (born : ℕ) : Type 0 where
  pub within : born ≤ length list
  pub unconcerned : ¬ HasConcernedSince list born used

has_covered_entry : (t : Taken) (tag : Tag) → HasConcerned t (EntryOf tag) → HasCovered t tag
has_covered_entry t tag c = record { applied = c.applied; command = c.command; spelled = c.spelled; covered = c.concerned }

pub fresh_entry : (list : List Taken) (tag : Tag) (entry : Entry) → IsSettledEntry list tag entry → IsFresh list (EntryOf tag) entry.born
fresh_entry list tag entry settled = record {
  within = settled.born;
  unconcerned = λ h. settled.uncovered h.place h.taken h.at h.since (has_covered_entry h.taken tag h.concerned);
}

pub fresh_walked : (list : List Taken) (tag : Tag) (began : ℕ) → (began ≤ length list) × ¬ HasCoveredSince list began tag → IsFresh list (EntryOf tag) began
fresh_walked list tag began good = record {
  within = good.0;
  unconcerned = λ h. good.1 (record { place = h.place; taken = h.taken; at = h.at; since = h.since; covered = has_covered_entry h.taken tag h.concerned });
}

pub fresh_now : (list : List Taken) (used : Used) (born : ℕ) → born ≡ length list → IsFresh list used born
fresh_now list used born is = record {
  within = (omega (arith, is));
  unconcerned = λ h. let inside = slice_get_within list h.place h.taken h.at in let since = h.since in absurd (omega (arith, is, inside, since));
}

new_covered : (list : List Taken) (used : Used) (born number : ℕ) → IsFresh list used born → TellsCovered list (new_transaction number used born)
new_covered list used born number fresh = record {
  born = fresh.within;
  covered = λ is. absurd (cc);
  uncovered = λ is h. fresh.unconcerned h;
}

new_on_time : (list : List Taken) (used : Used) (born number : ℕ) → IsFresh list used born → ¬ IsOverdue list (new_transaction number used born)
new_on_time list used born number fresh late = fresh.unconcerned (record { place = late.place; taken = late.taken; at = late.at; since = late.since; concerned = late.concerned })

-- ---- tags

pub blocks_covered : (command : Command) (slots : Slots) → HasBlocks slots → HasBlocks (map (cover command) slots)
blocks_covered command slots blocks slot o at = let there = get_map (cover command) slots slot (Some o) at in by_slot slot o there.0 there.1 there.2
  where
    by_slot : (slot : ℕ) (o : OutstandingTransaction) (x : Option OutstandingTransaction) → slice_get slots slot ≡ Some x → cover command x ≡ Some o → UsesBlock o.used
    by_slot slot o None at same = absurd (cc)
    by_slot slot o (Some was) at same = subst (λ (b : OutstandingTransaction). UsesBlock b.used) (inner (record was { covered = was.covered || concerns command was.used }) o same) (blocks slot was at)
      where
        inner : (a b : OutstandingTransaction) → Some a ≡ Some b → a ≡ b
        inner a b is = cc

-- ---- the whole unit

none_open : (room slot : ℕ) (outstanding : OutstandingTransaction) → slice_get (replicate {A = Option OutstandingTransaction} room None) slot ≡ Some (Some outstanding) → ⊥
none_open room slot outstanding at = let same : None ≡ Some outstanding = get_copies room None slot (Some outstanding) at in absurd (cc)

-- One that has taken nothing.
pub none_tracked : (unit : UnitValue) (tracking : TrackingValue) (room : ℕ) → taken unit.counts ≡ 0 → IsSettled unit.caches.entries [] → tracking.recent ≡ [] → tracking.outstanding ≡ replicate room None
    → IsTracked (tracked_with unit tracking) []
none_tracked unit tracking room many settled recent free = record {
  many = many;
  settled = settled;
  recorded = recent;
  covered = subst (λ (s : Slots). TellCovered s []) (sym free) (λ slot outstanding at. absurd (none_open room slot outstanding at));
  on_time = subst (λ (s : Slots). NoneIsOverdue s []) (sym free) (λ slot outstanding at late. none_open room slot outstanding at);
}

pub began_tracked : (old new : TrackedValue) (list : List Taken) (slot : ℕ) (used : Used) (born : ℕ) → IsTracked old list → IsFresh list used born
    → new ≡ with_outstanding old slot used born → IsTracked new (list ++ [])
began_tracked old new list slot used born is fresh changed =
    subst (λ (t : TrackedValue). IsTracked t (list ++ [])) (sym changed) (subst (IsTracked (with_outstanding old slot used born)) (sym (append-nil list)) (record {
      many = is.many;
      settled = is.settled;
      recorded = is.recorded;
      covered = begun_covered old.outstanding list slot _ is.covered (new_covered list used born old.next_number fresh);
      on_time = began_on_time old.outstanding list slot _ is.on_time (new_on_time list used born old.next_number fresh);
    }))

-- What is the same if it was done, is so either way.
pub kept_by : {A F V X : Type 0} (f : V → X) (answer : Result A F) (new done old : V) → OnOk answer (new ≡ done) → OnErr answer (new ≡ old) → f done ≡ f old → f new ≡ f old
kept_by f (Ok a) new done old ok err same = ap f ok ∙ same
kept_by f (Err e) new done old ok err same = ap f err

pub unit_tracked : (old : TrackedValue) (unit : UnitValue) (list : List Taken) → IsTracked old list → taken unit.counts ≡ taken old.unit.counts → StaysSettled old.unit unit []
    → IsTracked (record old { unit = unit }) (list ++ [])
unit_tracked old unit list is same settles = subst (IsTracked (record old { unit = unit })) (sym (append-nil list)) (record {
  many = same ∙ is.many;
  settled = subst (IsSettled unit.caches.entries) (append-nil list) (settles list (sym is.many) is.settled);
  recorded = is.recorded;
  covered = is.covered;
  on_time = is.on_time;
})

abbrev is_one : Option OutstandingTransaction → ℕ
is_one slot = cond (is_covered slot) 1 0

pub one_less : (slots : Slots) (slot : ℕ) (outstanding : OutstandingTransaction) → slice_get slots slot ≡ Some (Some outstanding) → count_by is_covered (slice_set slots slot None) + cond outstanding.covered 1 0 ≡ count_by is_covered slots
one_less [] slot outstanding at = absurd (cc)
one_less (x ∷ slots) zero outstanding at =
    let was = sum_by-cons is_one x slots in
    let is = sum_by-cons is_one None slots in
    let same : is_one x ≡ is_one (Some outstanding) = ap is_one (inner x (Some outstanding) at) in
    omega (arith, was, is, same)
  where
    inner : (a b : Option OutstandingTransaction) → Some a ≡ Some b → a ≡ b
    inner a b is = cc
one_less (x ∷ slots) (suc slot) outstanding at =
    let was = sum_by-cons is_one x slots in
    let is = sum_by-cons is_one x (slice_set slots slot None) in
    let rest = one_less slots slot outstanding at in
    omega (arith, was, is, rest)

pub ended_tracked : (old : TrackedValue) (list : List Taken) (slot : ℕ) (slots : Slots) → IsTracked old list → slots ≡ slice_set old.outstanding slot None
    → IsTracked (record old { outstanding = slots }) (list ++ [])
ended_tracked old list slot slots is changed =
    subst (IsTracked (record old { outstanding = slots })) (sym (append-nil list)) (record {
      many = is.many;
      settled = is.settled;
      recorded = is.recorded;
      covered = subst (λ (s : Slots). TellCovered s list) (sym changed) (λ at outstanding there. is.covered at outstanding (ended_at old.outstanding slot at outstanding there));
      on_time = subst (λ (s : Slots). NoneIsOverdue s list) (sym changed) (λ at outstanding there. is.on_time at outstanding (ended_at old.outstanding slot at outstanding there));
    })

pub ended_one : (old new : TrackedValue) (transaction : TransactionValue) (outstanding : OutstandingTransaction) (ended : Ended) → IsOwn old.next_number transaction
    → slice_get old.outstanding transaction.slot ≡ Some (Some outstanding) → outstanding.number ≡ transaction.number → new ≡ record old { outstanding = slice_set old.outstanding transaction.slot None } → (ended ≡ LastCovered) ↔ WasLastCovered outstanding new.outstanding
    → IsEndAnswer old transaction new (Ok ended)
ended_one old new transaction outstanding ended own at number is tells = (
  record {
    own = own;
    was = record { outstanding = outstanding; at = at; number = number };
    new_is = is;
    fewer = ap (λ (t : TrackedValue). count_by is_covered t.outstanding + cond outstanding.covered 1 0) is ∙ one_less old.outstanding transaction.slot outstanding at;
  },
  tells,
)
