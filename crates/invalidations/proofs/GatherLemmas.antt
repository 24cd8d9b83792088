-- What is taken out of what was gathered.
use Rattle.std.proofs.Common.{◌≡◌, ℕ, ◌+◌, ◌-◌, ◌*◌, ◌^◌, ◌<◌, ◌≤◌, ◌==◌, ◌&&◌, ◌||◌, not, nat_lt, nat_le, Bool, true, false, inl, inr, List, [], ◌∷◌, ◌++◌, length, All, refl, ap, sym, subst, ◌∙◌, arith}
use Rattle.std.proofs.lemmas.Bool.{cases_Bool, ltb-true, ltb-false, leb-true, lt-ltb, le-ltb, le-leb, and_from, and_parts, and_right}
use Rattle.std.proofs.lemmas.List.{length-append}
use Rattle.std.proofs.lemmas.List.Folds.{list_any-append}
use Rattle.invalidations.specs.declared.interval.Interval.{Interval}
use Rattle.invalidations.specs.declared.space.Space.{Space}
use Rattle.invalidations.specs.declared.invalidation.Bytes.{Bytes}
use Rattle.invalidations.specs.declared.invalidation.Bytes.TheVariants.{Everything}
use Rattle.invalidations.specs.Spaces.{size_of}
use Rattle.invalidations.specs.Intervals.{has_byte, have_byte, IsBefore}
use Rattle.invalidations.specs.Plans.{goes_past}
use Rattle.invalidations.specs.Gathering.{Gathered, IsGathered, is_byte, bytes_of, IsTaken}
use Rattle.invalidations.proofs.IntervalLemmas.{has_of, of_has, same_bool, last_only}
use Rattle.invalidations.proofs.RoundingLemmas.{size_most}

bytes_have : (byte : ℕ) (interval : Interval) → interval.first ≤ interval.last → interval.last < 2 ^ 64 → byte < 2 ^ 64 → is_byte byte (bytes_of interval) ≡ has_byte byte interval
bytes_have byte interval ordered below small =
    elim (cases_Bool (nat_lt (interval.last - interval.first + 1) (2 ^ 64))) [
      | inl short ↦ rw short (same_bool (nat_le interval.first byte && nat_lt byte (interval.first + (interval.last - interval.first + 1))) (has_byte byte interval)
          (λ is.
          let both = and_parts (nat_le interval.first byte) (nat_lt byte (interval.first + (interval.last - interval.first + 1))) is in
          let from = leb-true interval.first byte both.0 in
          let to = ltb-true byte (interval.first + (interval.last - interval.first + 1)) both.1 in
          has_of byte interval from (omega (arith, to, ordered)))
          (λ has.
          let inside = of_has byte interval has in
          and_from (nat_le interval.first byte) (nat_lt byte (interval.first + (interval.last - interval.first + 1)))
          (le-leb interval.first byte inside.0) (lt-ltb byte (interval.first + (interval.last - interval.first + 1)) (omega (arith, inside, ordered)))))
      | inr long ↦
          let past = ltb-false (interval.last - interval.first + 1) (2 ^ 64) long in
          rw long (sym (has_of byte interval (omega (arith, past, below)) (omega (arith, past, below, small))))
    ]

bytes_inside : (space : Space) (interval : Interval) → interval.first ≤ interval.last → interval.last < size_of space * 4096 → goes_past space (bytes_of interval) ≡ false
bytes_inside space interval ordered below =
    elim (cases_Bool (nat_lt (interval.last - interval.first + 1) (2 ^ 64))) [
      | inl short ↦
          let none : nat_lt (size_of space * 4096) (interval.first + (interval.last - interval.first + 1)) ≡ false =
          le-ltb (size_of space * 4096) (interval.first + (interval.last - interval.first + 1)) (omega (arith, below, ordered)) in
          rw short (and_right (not (interval.last - interval.first + 1 == 0)) (nat_lt (size_of space * 4096) (interval.first + (interval.last - interval.first + 1))) none)
      | inr long ↦ rw long refl
    ]

with_last : (a b c : Bool) → c ≡ b → (c || (false || a)) ≡ (false || (a || (b || false)))
with_last true true true is = refl
with_last true false false is = refl
with_last false true true is = refl
with_last false false false is = refl
with_last true true false is = refl
with_last true false true is = refl
with_last false true false is = is
with_last false false true is = is

-- the last interval,
pub last_taken : (old : Gathered) (interval : Interval) (intervals : List Interval) (bytes : Bytes) → old.everything ≡ false → IsGathered old
    → old.intervals ≡ intervals ++ interval ∷ [] → bytes ≡ bytes_of interval
    → IsTaken old (record { space = old.space; bytes = bytes; granule = old.granule; entries = old.entries })
    (record { space = old.space; granule = old.granule; entries = old.entries; intervals = intervals; everything = old.everything })
last_taken old interval intervals bytes some gathered is are =
    let long = ap (λ i. length i) is ∙ length-append intervals (interval ∷ []) in
    let all = subst (All (IsBefore (size_of old.space * 4096))) is gathered.1 in
    let this = (last_only (IsBefore (size_of old.space * 4096)) intervals interval all).1 in
    let most = size_most old.space in
    record {
      alike = record { space = refl; granule = refl; entries = refl };
      space = refl;
      granule = refl;
      entries = refl;
      inside = subst (λ b. goes_past old.space b ≡ false) (sym are) (bytes_inside old.space interval this.0 this.1);
      same = λ byte small.
          let has = ap (is_byte byte) are ∙ bytes_have byte interval this.0 (omega (arith, this, most)) small in
          let split = ap (have_byte byte) is ∙ list_any-append (has_byte byte) intervals (interval ∷ []) in
          rw some (with_last (have_byte byte intervals) (has_byte byte interval) (is_byte byte bytes) has ∙ sym split);
      fewer = rw some (omega (arith, long));
    }

-- or everything
pub all_taken : (old : Gathered) → old.everything ≡ true
    → IsTaken old (record { space = old.space; bytes = Everything; granule = old.granule; entries = old.entries })
    (record { space = old.space; granule = old.granule; entries = old.entries; intervals = []; everything = false })
all_taken old whole = record {
  alike = record { space = refl; granule = refl; entries = refl };
  space = refl;
  granule = refl;
  entries = refl;
  inside = refl;
  same = λ byte small. rw whole refl;
  fewer = rw whole (omega arith);
}
