-- What commands leave that are applied one after another.
use Rattle.std.proofs.Common.{◌≡◌, ◌+◌, ◌≤◌, ℕ, zero, suc, false, List, [], ◌∷◌, ◌++◌, length, Option, Some, None, IsSome, refl, sym, ap, subst, ◌∙◌, arith, length-append}
use Rattle.std.proofs.lemmas.List.{append_assoc}
use Rattle.std.proofs.lemmas.Option.{slice_get_within}
use Rattle.std.specs.Prelude.{slice_get, take, drop}
use Rattle.std.specs.FinMap as finite
use Rattle.std.specs.FinMap.{get-empty, empty_of_len}
use Rattle.cmdcodec.specs.declared.raw.Raw.{Raw}
use Rattle.cmdcodec.specs.declared.command.Command.{Command}
use Rattle.cmdcodec.specs.Legality.{first_ill}
use Rattle.ringcore.specs.declared.world.event.Outcome.TheVariants.{Applied, Replaced}
use Rattle.ringcore.specs.world.World.{Taken, outcome_of}
use Rattle.ring.specs.consumer.Completing.{with_outcome, HasOutcome}
use Rattle.caches.specs.declared.tag.Tag.{Tag}
use Rattle.caches.specs.declared.tag.Entry.{Entry}
use Rattle.caches.specs.Stored.{Stored}
use Rattle.caches.specs.Held.{Entries, without_covered}
use Rattle.caches.specs.Covers.{covers}
use Rattle.caches.specs.TagOrder.{tag_cmp}
use Rattle.cmdcodec.specs.declared.ill.Ill.{Ill}
use Rattle.engine.specs.declared.stop.Mode.TheVariants.{Running}
use Rattle.engine.specs.Stops.{StopValue, gone_on}
use Rattle.engine.specs.Settled.{IsSettled}
use Rattle.engine.specs.Counting.{taken, counted_applied}
use Rattle.engine.specs.Units.{UnitValue, IsLegal, IsApplied, AreApplied, StaysSettled}
use Rattle.engine.proofs.Settlings.{settled_applied, settled_as_before}
use Rattle.engine.proofs.Counted.{as_applied}
use Rattle.engine.proofs.Stepping.{applied_more}

-- A command's words spell only that command, so what it covers is gone.
pub applied_settled : (raw : Raw) (command : Command) (removed : ℕ) (old new : UnitValue) → IsApplied raw command removed old new
    → StaysSettled old new (with_outcome Applied raw ∷ [])
applied_settled raw command removed old new is list many s =
    subst (λ (e : Entries). IsSettled e (list ++ with_outcome Applied raw ∷ [])) (sym is.entries)
    (settled_applied old.caches.entries list raw command Applied is.legal.alone s)

-- Where no entry is held a command covers none.
pub none_covered : (command : Command) (entries : Entries) → finite.len entries ≡ 0 → (tag : Tag) (entry : Entry) → finite.get entries tag ≡ Some entry → covers command tag ≡ false
none_covered command entries none tag entry held =
    let nothing : None ≡ Some entry = sym (get-empty {X = Entry} tag_cmp tag) ∙ ap (λ (e : Entries). finite.get e tag) (sym (empty_of_len entries none)) ∙ held in absurd (cc)

-- A legal command that covers none is applied without a change of entries.
pub applied_to_none : (raw : Raw) (command : Command) (old new : UnitValue) → IsLegal raw command → old.stop.mode ≡ Running → without_covered command old.caches.entries ≡ old.caches.entries
    → new.caches ≡ old.caches → new.stop ≡ gone_on old.stop → new.counts ≡ counted_applied raw 0 old.counts → IsApplied raw command 0 old new
applied_to_none raw command old new legal running none caches stop counts = record {
  running = running;
  legal = legal;
  entries = ap (λ (s : Stored). s.entries) caches ∙ sym none;
  removed_are = let same = ap (λ (s : Stored). finite.len s.entries) caches in omega (arith, same);
  few = omega arith;
  capacity = ap (λ (s : Stored). s.capacity) caches;
  stop = stop;
  counts = counts;
}

pub all_counted : (raws : List Raw) (removed : ℕ) (old new : UnitValue) → AreApplied raws removed old new → taken new.counts ≡ taken old.counts + length raws
all_counted [] removed old new is = let e : taken new.counts ≡ taken old.counts = ap (λ (u : UnitValue). taken u.counts) is.1 in omega (arith, e)
all_counted (raw ∷ raws) removed old new (between, command, first, rest, one, more, sum) =
    let e = all_counted raws rest between new more in
    let f = applied_more raw command first old between one in
    omega (arith, e, f)

pub all_settled : (raws : List Raw) (removed : ℕ) (old new : UnitValue) → AreApplied raws removed old new → StaysSettled old new (as_applied raws)
all_settled [] removed old new is list many s =
    settled_as_before new.caches.entries list (subst (λ (u : UnitValue). IsSettled u.caches.entries list) (sym is.1) s)
all_settled (raw ∷ raws) removed old new (between, command, first, rest, one, more, sum) list many s =
    let longer : List Taken = list ++ with_outcome Applied raw ∷ [] in
    let counted = applied_more raw command first old between one in
    let long : length longer ≡ taken between.counts = length-append list (with_outcome Applied raw ∷ []) ∙ ap (λ (n : ℕ). n + 1) many ∙ sym counted in
    subst (λ (l : List Taken). IsSettled new.caches.entries l) (append_assoc list (with_outcome Applied raw ∷ []) (as_applied raws))
    (all_settled raws rest between new more longer long (applied_settled raw command first old between one list many s))

-- Only legal commands are applied.
pub all_legal : (raws : List Raw) (removed : ℕ) (old new : UnitValue) → AreApplied raws removed old new → HasOutcome Applied raws
all_legal (raw ∷ raws) removed old new (between, command, first, rest, one, more, sum) zero other at =
    let same : raw ≡ other = some_raw raw other at in
    subst (λ (r : Raw). Applied ≡ outcome_of r) same (is_applied raw one.legal.legal)
  where
    some_raw : (a b : Raw) → Some a ≡ Some b → a ≡ b
    some_raw a b is = cc

    is_applied : (r : Raw) → first_ill r ≡ None → Applied ≡ outcome_of r
    is_applied r none = search
all_legal (raw ∷ raws) removed old new (between, command, first, rest, one, more, sum) (suc i) other at = all_legal raws rest between new more i other at
all_legal [] removed old new is i other at = absurd (cc)

-- One more is applied after them.
pub one_more : (raws : List Raw) (removed : ℕ) (old between new : UnitValue) → AreApplied raws removed old between
    → (raw : Raw) (command : Command) (more : ℕ) → IsApplied raw command more between new → AreApplied (raws ++ raw ∷ []) (removed + more) old new
one_more [] removed old between new is raw command more last =
    let start : between ≡ old = is.1 in
    let none = is.0 in
    let sum : removed + more ≡ more + 0 = omega (arith, none) in
    (new, command, more, 0, subst (λ (u : UnitValue). IsApplied raw command more u new) start last, (refl, refl), sum)
one_more (r ∷ raws) removed old between new (u, c, first, rest, one, others, sum) raw command more last =
    (u, c, first, rest + more, one, one_more raws rest u between new others raw command more last, (let s = sum in let e : removed + more ≡ first + (rest + more) = omega (arith, s) in e))

-- Once a command is taken, no words are kept.
pub none_kept : (raws : List Raw) (removed : ℕ) (old new : UnitValue) → AreApplied raws removed old new → 1 ≤ length raws → new.stop.next ≡ None
none_kept [] removed old new is some = absurd (omega (arith, some))
none_kept (raw ∷ []) removed old new (between, command, first, rest, one, none, sum) some =
    ap (λ (u : UnitValue). u.stop.next) none.1 ∙ ap (λ (s : StopValue). s.next) one.stop
none_kept (raw ∷ next ∷ raws) removed old new (between, command, first, rest, one, more, sum) some = none_kept (next ∷ raws) rest between new more (omega arith)

-- If none was applied, nothing changed.
pub none_applied : (raws : List Raw) (n removed : ℕ) (old new : UnitValue) → AreApplied (take n raws) removed old new → n ≤ 0 → new ≡ old
none_applied raws zero removed old new is none = is.1
none_applied raws (suc n) removed old new is none = absurd (omega (arith, none))

-- ---- places in lists

take_suc : {A : Type 0} (xs : List A) (n : ℕ) (x : A) → slice_get xs n ≡ Some x → take (suc n) xs ≡ take n xs ++ x ∷ []
take_suc [] n x at = absurd (cc)
take_suc (y ∷ xs) zero x at = let same : y ≡ x = cc in ap (λ z. z ∷ []) same
take_suc (y ∷ xs) (suc n) x at = ap (λ l. y ∷ l) (take_suc xs n x at)

pub take_one_more : {A : Type 0} (xs : List A) (n : ℕ) (x : A) → slice_get xs n ≡ Some x → take (n + 1) xs ≡ take n xs ++ x ∷ []
take_one_more xs n x at = ap (λ (k : ℕ). take k xs) (let e : n + 1 ≡ suc n = omega arith in e) ∙ take_suc xs n x at

-- There is none after the last.
pub none_behind : {A P : Type 0} (xs : List A) (n : ℕ) (x : A) → n ≡ length xs → slice_get xs n ≡ Some x → P
none_behind xs n x end at = let low = slice_get_within xs n x at in absurd (omega (arith, low, end))

-- ---- the first of a list

pub has_first : {A : Type 0} (xs : List A) (o : Option A) → o ≡ slice_get xs 0 → 1 ≤ length xs → IsSome o
has_first [] o is some = absurd (omega (arith, some))
has_first (x ∷ xs) o is some = subst IsSome (sym is) refl

pub first_and_rest : {A : Type 0} (xs : List A) (x : A) → slice_get xs 0 ≡ Some x → xs ≡ x ∷ drop 1 xs
first_and_rest [] x at = absurd (cc)
first_and_rest (y ∷ ys) x at = let same : y ≡ x = cc in ap (λ z. z ∷ ys) same

pub first_is : {A : Type 0} (xs rest : List A) (x y : A) → slice_get xs 0 ≡ Some x → xs ≡ y ∷ rest → x ≡ y
first_is xs rest x y at is = let there : slice_get (y ∷ rest) 0 ≡ Some x = ap (λ l. slice_get l 0) (sym is) ∙ at in cc

pub take_first : {A : Type 0} (xs : List A) (x : A) → slice_get xs 0 ≡ Some x → take 1 xs ≡ x ∷ []
take_first xs x at = ap (take 1) (first_and_rest xs x at)

-- Only an illegal command is replaced.
pub first_replaced : (raws : List Raw) (raw : Raw) (ill : Ill) → slice_get raws 0 ≡ Some raw → first_ill raw ≡ Some ill → HasOutcome Replaced (take 1 raws)
first_replaced raws raw ill at is = subst (HasOutcome Replaced) (sym (take_first raws raw at)) alone
  where
    is_replaced : (r : Raw) → first_ill r ≡ Some ill → Replaced ≡ outcome_of r
    is_replaced r its = search

    alone : HasOutcome Replaced (raw ∷ [])
    alone zero other there = let same : raw ≡ other = cc in subst (λ (r : Raw). Replaced ≡ outcome_of r) same (is_replaced raw is)
    alone (suc i) other there = absurd (cc)
