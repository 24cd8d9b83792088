-- What the hardware gets for a run.
use Rattle.std.proofs.Common.{◌≡◌, ℕ, zero, suc, ◌+◌, ◌≤◌, Bool, true, false, ◌&&◌, List, [], ◌∷◌, ◌++◌, length, map, Option, Some, None, refl, ap, ap₂, sym, subst, ◌∙◌, arith}
use Rattle.std.proofs.lemmas.List.{map-append, length-map, length-take-le}
use Rattle.std.proofs.lemmas.Option.{slice_get_within}
use Rattle.std.specs.Bool.{Decides}
use Rattle.std.proofs.lemmas.Bool.Decides.{Decides-eqb}
use lib.Dec.{eqb}
use Rattle.std.specs.Prelude.{slice_get, take, is_none, if◌then◌else◌}
use Rattle.cmdcodec.specs.declared.raw.Raw.{Raw}
use Rattle.cmdcodec.specs.declared.ill.Ill.{Ill}
use Rattle.cmdcodec.specs.Legality.{first_ill}
use Rattle.ringcore.specs.declared.world.event.Outcome.{Outcome}
use Rattle.ringcore.specs.declared.world.event.Outcome.TheVariants.{Applied, Replaced}
use Rattle.ringcore.specs.world.World.{outcome_of}
use Rattle.ring.specs.consumer.Completing.{HasOutcome}
use Rattle.hardware_queue.specs.Flights.{hardware_form, passed, IsPassing}

-- ---- one command

some_of : (o : Option Ill) (x y : Raw) → (if is_none o then Some x else None) ≡ Some y → (o ≡ None) × (y ≡ x)
some_of None x y e = (refl, cc)
some_of (Some ill) x y e = absurd (cc)

applied_of : (o : Option Ill) → o ≡ None → Applied ≡ (if is_none o then Applied else Replaced)
applied_of o e = subst (λ (p : Option Ill). Applied ≡ (if is_none p then Applied else Replaced)) (sym e) refl

replaced_of : (o : Option Ill) (x : Raw) → (if is_none o then Some x else None) ≡ None → Replaced ≡ (if is_none o then Applied else Replaced)
replaced_of None x e = absurd (cc)
replaced_of (Some ill) x e = refl

pub passes : (raw command : Raw) → passed raw ≡ Some command → (Applied ≡ outcome_of raw) × (command ≡ hardware_form raw)
passes raw command e = let both = some_of (first_ill raw) (hardware_form raw) command e in (applied_of (first_ill raw) both.0, both.1)

pub fails : (raw : Raw) → passed raw ≡ None → Replaced ≡ outcome_of raw
fails raw e = replaced_of (first_ill raw) (hardware_form raw) e

-- ---- lists

take_suc : {A : Type 0} (xs : List A) (n : ℕ) (x : A) → slice_get xs n ≡ Some x → take (suc n) xs ≡ take n xs ++ x ∷ []
take_suc [] n x at = absurd (cc)
take_suc (y ∷ xs) zero x at = let same : y ≡ x = cc in ap (λ z. z ∷ []) same
take_suc (y ∷ xs) (suc n) x at = ap (λ l. y ∷ l) (take_suc xs n x at)

pub take_more : {A : Type 0} (xs : List A) (n : ℕ) (x : A) → slice_get xs n ≡ Some x → take (n + 1) xs ≡ take n xs ++ x ∷ []
take_more xs n x at = ap (λ (k : ℕ). take k xs) (let e : n + 1 ≡ suc n = omega arith in e) ∙ take_suc xs n x at

outcome_more : (outcome : Outcome) (xs : List Raw) (raw : Raw) → HasOutcome outcome xs → outcome ≡ outcome_of raw → HasOutcome outcome (xs ++ raw ∷ [])
outcome_more outcome [] raw all one zero other at = let same : raw ≡ other = cc in one ∙ ap outcome_of same
outcome_more outcome [] raw all one (suc i) other at = absurd (cc)
outcome_more outcome (x ∷ xs) raw all one zero other at = all zero other at
outcome_more outcome (x ∷ xs) raw all one (suc i) other at = outcome_more outcome xs raw (λ k o a. all (suc k) o a) one i other at

-- ---- a run

pub record Passes (raws out : List Raw) (n : ℕ) : Type 0 where
  pub out_is : out ≡ map hardware_form (take n raws)
  pub legal : HasOutcome Applied (take n raws)

pub passing_more : (raws out : List Raw) (n : ℕ) (raw command : Raw) → Passes raws out n → slice_get raws n ≡ Some raw → passed raw ≡ Some command → Passes raws (out ++ command ∷ []) (n + 1)
passing_more raws out n raw command is at pass =
    let one = passes raw command pass in
    let longer = take_more raws n raw at in
    record {
      out_is = ap₂ (λ (xs : List Raw) (x : Raw). xs ++ x ∷ []) is.out_is one.1 ∙ sym (map-append hardware_form (take n raws) (raw ∷ [])) ∙ ap (map hardware_form) (sym longer);
      legal = subst (HasOutcome Applied) (sym longer) (outcome_more Applied (take n raws) raw is.legal one.0);
    }

passing_long : (raws out : List Raw) (n : ℕ) → Passes raws out n → n ≤ length raws → length out ≡ n
passing_long raws out n is within = ap (λ (l : List Raw). length l) is.out_is ∙ length-map (take n raws) hardware_form ∙ length-take-le n raws within

pub passing_ends : (raws out : List Raw) (n : ℕ) → Passes raws out n → n ≤ length raws → ((raw : Raw) → slice_get raws n ≡ Some raw → Replaced ≡ outcome_of raw) → IsPassing raws out
passing_ends raws out n is within last =
    let long = sym (passing_long raws out n is within) in
    record {
      few = let l = long in omega (arith, l, within);
      legal = subst (λ (k : ℕ). HasOutcome Applied (take k raws)) long is.legal;
      forms = subst (λ (k : ℕ). out ≡ map hardware_form (take k raws)) long is.out_is;
      longest = subst (λ (k : ℕ). (raw : Raw) → slice_get raws k ≡ Some raw → Replaced ≡ outcome_of raw) long last;
    }

pub none_behind : (raws : List Raw) (n : ℕ) → n ≡ length raws → (raw : Raw) → slice_get raws n ≡ Some raw → Replaced ≡ outcome_of raw
none_behind raws n end raw at = let low = slice_get_within raws n raw at in absurd (omega (arith, low, end))

-- ---- equal commands

both : (a b : Bool) → a && b ≡ true → (a ≡ true) × (b ≡ true)
both true true e = (refl, refl)
both true false e = absurd (cc)
both false b e = absurd (cc)

pub raws_decide : (a b : Raw) → Decides (eqb a.lo b.lo && eqb a.hi b.hi) (a ≡ b)
raws_decide a b = (
  (λ test.
      let parts = both (eqb a.lo b.lo) (eqb a.hi b.hi) test in
      let lo : a.lo ≡ b.lo = (Decides-eqb a.lo b.lo).0 parts.0 in
      let hi : a.hi ≡ b.hi = (Decides-eqb a.hi b.hi).0 parts.1 in
      ap₂ (λ (x y : ℕ). record { lo = x; hi = y }) lo hi),
  (λ same.
      let lo : eqb a.lo b.lo ≡ true = (Decides-eqb a.lo b.lo).1 (ap (λ (r : Raw). r.lo) same) in
      let hi : eqb a.hi b.hi ≡ true = (Decides-eqb a.hi b.hi).1 (ap (λ (r : Raw). r.hi) same) in
      ap₂ (λ (x y : Bool). x && y) lo hi),
)
