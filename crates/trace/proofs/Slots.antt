-- Tokens of accesses, as one begins, one ends, and commands are taken.
use Rattle.std.proofs.Common.{◌≡◌, ◌<◌, ℕ, zero, suc, List, [], ◌∷◌, Option, Some, None, map, length, ◌||◌, refl, ap, sym, ◌∙◌, subst, inl, inr, arith}
use Rattle.std.specs.Prelude.{slice_get, slice_set, slice_index_or}
use Rattle.std.specs.List.{remove}
use Rattle.std.proofs.lemmas.Option.{slice_get_within}
use Rattle.cmdcodec.specs.declared.raw.Raw.{Raw}
use Rattle.cmdcodec.specs.declared.command.Command.{Command}
use Rattle.engine.specs.declared.verdict.Verdict.{Verdict}
use Rattle.engine.specs.declared.verdict.Verdict.TheVariants.{Applied, Stopped, Replaced}
use Rattle.transactions.specs.declared.outstanding.OutstandingTransaction.{OutstandingTransaction}
use Rattle.transactions.specs.declared.tracked_verdict.TrackedVerdict.{TrackedVerdict}
use Rattle.transactions.specs.declared.tracked_verdict.TrackedVerdict.TheVariants.{Judged, Waiting}
use Rattle.transactions.specs.Outstanding.{Slots, cover, covered_by}
use Rattle.transactions.specs.declared.used.Used.{Used}
use Rattle.transactions.specs.Coverage.{concerns}
use Rattle.transactions.specs.Tracking.{TrackedValue, unit_of, number_after}
use Rattle.transactions.specs.TrackedVerdicts.{IsTrackedVerdict}
use Rattle.transactions.specs.Transactions.{TransactionValue, IsOutstandingIn, IsOwn, IsBegun, IsEnded, new_transaction}
use Rattle.transactions.proofs.Lists.{set_at, set_same, set_other, map_at}
use Rattle.trace.specs.declared.access.OpenAccess.{OpenAccess}
use Rattle.trace.specs.Accesses.{AreIn, AreOwn, AreOf}

-- ---- lists

module _ {X : Type 0} where
  set_is : (xs : List X) (i : ℕ) (x : X) → slice_get xs i ≡ Some x → slice_set xs i x ≡ xs
  set_is [] i x at = refl
  set_is (z ∷ xs) zero x at = let same : x ≡ z = cc in ap (λ (y : X). y ∷ xs) same
  set_is (z ∷ xs) (suc i) x at = ap (λ (ys : List X). z ∷ ys) (set_is xs i x at)

  set_set : (xs : List X) (i : ℕ) (y x : X) → slice_set (slice_set xs i y) i x ≡ slice_set xs i x
  set_set [] i y x = refl
  set_set (z ∷ xs) zero y x = refl
  set_set (z ∷ xs) (suc i) y x = ap (λ (ys : List X). z ∷ ys) (set_set xs i y x)

  set_swap : (xs : List X) (i j : ℕ) (x y : X) → ¬ (i ≡ j) → slice_set (slice_set xs i x) j y ≡ slice_set (slice_set xs j y) i x
  set_swap [] i j x y other = refl
  set_swap (z ∷ xs) zero zero x y other = absurd (other refl)
  set_swap (z ∷ xs) zero (suc j) x y other = refl
  set_swap (z ∷ xs) (suc i) zero x y other = refl
  set_swap (z ∷ xs) (suc i) (suc j) x y other = ap (λ (ys : List X). z ∷ ys) (set_swap xs i j x y (λ is. other (ap suc is)))

map_set : {X Y : Type 0} → (f : X → Y) (xs : List X) (i : ℕ) (x : X) → map f (slice_set xs i x) ≡ slice_set (map f xs) i (f x)
map_set f [] i x = refl
map_set f (z ∷ xs) zero x = refl
map_set {X} {Y} f (z ∷ xs) (suc i) x = ap (λ (ys : List Y). f z ∷ ys) (map_set f xs i x)

-- ---- one token

in_other : (slots : Slots) (t : TransactionValue) (s : ℕ) (x : Option OutstandingTransaction) → ¬ (t.slot ≡ s) → IsOutstandingIn slots t → IsOutstandingIn (slice_set slots s x) t
in_other slots t s x other is = record { outstanding = is.outstanding; at = set_other slots s x t.slot other ∙ is.at; number = is.number }

record IsElsewhere (slots : Slots) (t : TransactionValue) (s : ℕ) : Type 0 where
  other : ¬ (t.slot ≡ s)
  is : IsOutstandingIn slots t

elsewhere : (slots : Slots) (t : TransactionValue) (s : ℕ) → IsOutstandingIn (slice_set slots s None) t → IsElsewhere slots t s
elsewhere slots t s is = elim (set_at slots s None t.slot (Some is.outstanding) is.at) [
  | inl here ↦ absurd (let no = here.1 in cc)
  | inr there ↦ record { other = there.0; is = record { outstanding = is.outstanding; at = there.1; number = is.number } }
]

-- ---- all of them

pub begun : (slots : Slots) (accesses : List OpenAccess) (access : OpenAccess) (o : OutstandingTransaction) → AreIn slots accesses
    → slice_get slots access.transaction.slot ≡ Some None → o.number ≡ access.transaction.number
    → AreIn (slice_set slots access.transaction.slot (Some o)) (access ∷ accesses)
begun slots accesses access o are free number =
    let s = access.transaction.slot in (
      record { outstanding = o; at = set_same slots s (Some o) (slice_get_within slots s None free); number = number },
      subst (λ (x : Slots). AreIn x accesses) (sym (set_set slots s (Some o) None ∙ set_is slots s None free)) are,
    )

pub record CanEnd (slots : Slots) (accesses : List OpenAccess) (place : ℕ) (access : OpenAccess) : Type 0 where
  pub is : IsOutstandingIn slots access.transaction
  pub others : AreIn (slice_set slots access.transaction.slot None) (remove accesses place)

pub can_end : (slots : Slots) (accesses : List OpenAccess) (place : ℕ) (access : OpenAccess) → AreIn slots accesses → slice_get accesses place ≡ Some access
    → CanEnd slots accesses place access
can_end slots [] place access are at = absurd (cc)
can_end slots (a ∷ accesses) zero access are at =
    let same : a ≡ access = cc in
    subst (CanEnd slots (a ∷ accesses) zero) same (record { is = are.0; others = are.1 })
can_end slots (a ∷ accesses) (suc place) access are at =
    let s = a.transaction.slot in
    let t = access.transaction in
    let later = can_end (slice_set slots s None) accesses place access are.1 at in
    let there = elsewhere slots t s later.is in
    record {
      is = there.is;
      others = (
        in_other slots a.transaction t.slot None (λ same. there.other (sym same)) are.0,
        subst (λ (x : Slots). AreIn x (remove accesses place)) (set_swap slots s t.slot None None (λ same. there.other (sym same))) later.others,
      );
    }

covered_one : (command : Command) (slots : Slots) (t : TransactionValue) → IsOutstandingIn slots t → IsOutstandingIn (map (cover command) slots) t
covered_one command slots t is =
    let o = is.outstanding in
    record { outstanding = record o { covered = o.covered || concerns command o.used }; at = map_at (cover command) slots t.slot (Some o) is.at; number = is.number }

covered : (command : Command) (slots : Slots) (accesses : List OpenAccess) → AreIn slots accesses → AreIn (map (cover command) slots) accesses
covered command slots [] are = tt
covered command slots (a ∷ accesses) are = (
  covered_one command slots a.transaction are.0,
  subst (λ (x : Slots). AreIn x accesses) (map_set (cover command) slots a.transaction.slot None) (covered command (slice_set slots a.transaction.slot None) accesses are.1),
)

by_verdict : (verdict : Verdict) (slots : Slots) (accesses : List OpenAccess) → AreIn slots accesses → AreIn (covered_by verdict slots) accesses
by_verdict (Applied command removed) slots accesses are = covered command slots accesses are
by_verdict (Stopped ill) slots accesses are = are
by_verdict (Replaced ill) slots accesses are = are

still_in : (raw : Raw) (old new : TrackedValue) (verdict : TrackedVerdict) (accesses : List OpenAccess) → IsTrackedVerdict raw old new verdict
    → AreIn old.outstanding accesses → AreIn new.outstanding accesses
still_in raw old new (Judged verdict) accesses did are = subst (λ (x : Slots). AreIn x accesses) (sym did.covered) (by_verdict verdict old.outstanding accesses are)
still_in raw old new (Waiting transactions) accesses did are = subst (λ (x : TrackedValue). AreIn x.outstanding accesses) (sym did.0) are

-- ---- whose they are

own_at : (next : ℕ) (accesses : List OpenAccess) (place : ℕ) (access : OpenAccess) → AreOwn next accesses → slice_get accesses place ≡ Some access → IsOwn next access.transaction
own_at next [] place access are at = absurd (cc)
own_at next (a ∷ accesses) zero access are at = let same : a ≡ access = cc in subst (λ (x : OpenAccess). IsOwn next x.transaction) same are.0
own_at next (a ∷ accesses) (suc place) access are at = own_at next accesses place access are.1 at

own_removed : (next : ℕ) (accesses : List OpenAccess) (place : ℕ) → AreOwn next accesses → AreOwn next (remove accesses place)
own_removed next [] zero are = tt
own_removed next [] (suc place) are = tt
own_removed next (a ∷ accesses) zero are = are.1
own_removed next (a ∷ accesses) (suc place) are = (are.0, own_removed next accesses place are.1)

own_still : (next later : ℕ) (accesses : List OpenAccess) → unit_of later ≡ unit_of next → AreOwn next accesses → AreOwn later accesses
own_still next later [] same are = tt
own_still next later (a ∷ accesses) same are = (are.0 ∙ sym same, own_still next later accesses same are.1)

same_unit : (number : ℕ) → unit_of (number_after number) ≡ unit_of number
same_unit number = omega (arith)

next_is : (raw : Raw) (old new : TrackedValue) (verdict : TrackedVerdict) → IsTrackedVerdict raw old new verdict → new.next_number ≡ old.next_number
next_is raw old new (Judged verdict) did = did.next_number
next_is raw old new (Waiting transactions) did = ap (λ (t : TrackedValue). t.next_number) did.0

-- ---- as the code has it

pub judged : (raw : Raw) (old new : TrackedValue) (verdict : TrackedVerdict) (accesses : List OpenAccess) → IsTrackedVerdict raw old new verdict → AreOf old accesses → AreOf new accesses
judged raw old new verdict accesses did are = record {
  outstanding = still_in raw old new verdict accesses did are.outstanding;
  own = own_still old.next_number new.next_number accesses (ap unit_of (next_is raw old new verdict did)) are.own;
}

pub begun_so : (old new : TrackedValue) (used : Used) (born : ℕ) (token : TransactionValue) (number : ℕ) (accesses after : List OpenAccess) → IsBegun old used born new token → AreOf old accesses
    → after ≡ record { number = number; transaction = token } ∷ accesses → AreOf new after
begun_so old new used born token number accesses after b are is =
    let access : OpenAccess = record { number = number; transaction = token } in
    let next : new.next_number ≡ number_after old.next_number = ap (λ (t : TrackedValue). t.next_number) b.new_is in
    let unit : unit_of new.next_number ≡ unit_of old.next_number = ap unit_of next ∙ same_unit old.next_number in
    record {
      outstanding = subst (λ (x : Slots × List OpenAccess). AreIn x.0 x.1) (λ k. (sym (ap (λ (t : TrackedValue). t.outstanding) b.new_is) k, sym is k))
          (begun old.outstanding accesses access (new_transaction old.next_number used born) are.outstanding b.free (sym b.number));
      own = subst (λ (x : List OpenAccess). AreOwn new.next_number x) (sym is) (ap unit_of b.number ∙ sym unit, own_still old.next_number new.next_number accesses unit are.own);
    }

get_or_is : (xs : List OpenAccess) (i : ℕ) (x d : OpenAccess) → slice_get xs i ≡ Some x → slice_index_or xs i d ≡ x
get_or_is [] i x d at = absurd (cc)
get_or_is (z ∷ xs) zero x d at = cc
get_or_is (z ∷ xs) (suc i) x d at = get_or_is xs i x d at

-- the one that was removed is the one that was open
pub removed_is : (accesses : List OpenAccess) (place : ℕ) (access removed : OpenAccess) → slice_get accesses place ≡ Some access → removed ≡ slice_index_or accesses place removed → removed ≡ access
removed_is accesses place access removed at is = is ∙ get_or_is accesses place access removed at

pub record CanEndHere (old : TrackedValue) (accesses : List OpenAccess) (place : ℕ) (access : OpenAccess) : Type 0 where
  pub own : IsOwn old.next_number access.transaction
  pub can : CanEnd old.outstanding accesses place access

pub can_end_removed : (old : TrackedValue) (accesses : List OpenAccess) (place : ℕ) (access removed : OpenAccess) → AreOf old accesses → slice_get accesses place ≡ Some access
    → removed ≡ slice_index_or accesses place removed → CanEndHere old accesses place removed
can_end_removed old accesses place access removed are at is =
    subst (CanEndHere old accesses place) (sym (removed_is accesses place access removed at is))
    (record { own = own_at old.next_number accesses place access are.own at; can = can_end old.outstanding accesses place access are.outstanding at })

pub ended_so : (old new : TrackedValue) (access : OpenAccess) (accesses after : List OpenAccess) (place : ℕ) → IsEnded old access.transaction new → AreOf old accesses
    → CanEndHere old accesses place access → after ≡ remove accesses place → AreOf new after
ended_so old new access accesses after place e are here is = record {
  outstanding = subst (λ (x : Slots × List OpenAccess). AreIn x.0 x.1) (λ k. (sym (ap (λ (t : TrackedValue). t.outstanding) e.new_is) k, sym is k)) here.can.others;
  own = subst (λ (x : ℕ × List OpenAccess). AreOwn x.0 x.1) (λ k. (sym (ap (λ (t : TrackedValue). t.next_number) e.new_is) k, sym is k)) (own_removed old.next_number accesses place are.own);
}

-- the first of some accesses
pub first_at : (accesses : List OpenAccess) → 0 < length accesses → (access : OpenAccess) × (slice_get accesses 0 ≡ Some access)
first_at [] some = absurd (omega (arith, some))
first_at (a ∷ accesses) some = (a, refl)
