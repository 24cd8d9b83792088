-- What was shown of a sender's commands, and what that tells of the unit's entries.
use Rattle.std.proofs.Common.{◌≡◌, ℕ, zero, suc, ◌+◌, Bool, true, false, List, [], ◌∷◌, ◌++◌, length, map, Option, Some, None, refl, ap, sym, subst, ◌∙◌, arith, length-append}
use Rattle.std.proofs.lemmas.Option.{slice_get_within}
use Rattle.std.specs.Prelude.{slice_get, take, is_none, if◌then◌else◌}
use Rattle.cmdcodec.specs.declared.raw.Raw.{Raw}
use Rattle.cmdcodec.specs.declared.ill.Ill.{Ill}
use Rattle.cmdcodec.specs.Legality.{first_ill}
use Rattle.cmdcodec.specs.Opcodes.{is_sync}
use Rattle.ringcore.specs.declared.world.event.Outcome.{Outcome}
use Rattle.ringcore.specs.declared.world.event.Outcome.TheVariants.{Applied, Replaced}
use Rattle.ringcore.specs.world.World.{taken_as, outcome_of}
use Rattle.engine.proofs.Syncs.{covers_none}
use Rattle.hardware_queue.specs.Queues.{plain_sync}
use Rattle.hardware_queue.specs.Flights.{hardware_form, passed_as, passed_on}
use Rattle.hardware_queue.specs.Forwarders.{IsCarriedOut}
use Rattle.qindex.specs.Positions.{IndexValue}
use Rattle.unit_queue.specs.Queued.{Queued, IsQueued, HasEffect}
use Rattle.unit_queue.specs.Laws.{position_of, NoneIsOlder, ToldMeansNoneIsOlder}
use Rattle.unit_queue.proofs.Meeting.{consumed_effect}

get_behind : (xs ys : List Raw) (i : ℕ) → slice_get (xs ++ ys) (length xs + i) ≡ slice_get ys i
get_behind [] ys i = ap (slice_get ys) (let e : 0 + i ≡ i = omega arith in e)
get_behind (x ∷ xs) ys i = ap (slice_get (x ∷ (xs ++ ys))) (let e : suc (length xs) + i ≡ suc (length xs + i) = omega arith in e) ∙ get_behind xs ys i

get_longer : (xs ys : List Raw) (i : ℕ) (x : Raw) → slice_get xs i ≡ Some x → slice_get (xs ++ ys) i ≡ Some x
get_longer [] ys i x at = absurd (cc)
get_longer (y ∷ xs) ys zero x at = at
get_longer (y ∷ xs) ys (suc i) x at = get_longer xs ys i x at

at_place : (first : List Raw) (place : ℕ) (raw : Raw) → slice_get first place ≡ Some raw → outcome_of raw ≡ Applied → slice_get (passed_on (map taken_as first)) (position_of first place) ≡ Some (hardware_form raw)
at_place [] place raw at legal = absurd (cc)
at_place (x ∷ xs) zero raw at legal =
    let one : x ≡ raw = cc in
    ap (λ (o : Outcome). slice_get (passed_as o x ++ passed_on (map taken_as xs)) 0) (ap outcome_of one ∙ legal) ∙ ap (λ (r : Raw). Some (hardware_form r)) one
at_place (x ∷ xs) (suc place) raw at legal =
    let here : List Raw = passed_as (outcome_of x) x in
    ap (slice_get (here ++ passed_on (map taken_as xs))) (length-append here (passed_on (map taken_as (take place xs))))
    ∙ get_behind here (passed_on (map taken_as xs)) (position_of xs place) ∙ at_place xs place raw at legal

applied_of : (o : Option Ill) → o ≡ None → (if is_none o then Applied else Replaced) ≡ Applied
applied_of o e = subst (λ (p : Option Ill). (if is_none p then Applied else Replaced) ≡ Applied) (sym e) refl

same_form : (b : Bool) (raw : Raw) → b ≡ false → (if b then plain_sync else raw) ≡ raw
same_form b raw e = subst (λ (c : Bool). (if c then plain_sync else raw) ≡ raw) (sym e) refl

no_sync : (b covered : Bool) → (b ≡ true → covered ≡ false) → covered ≡ true → b ≡ false
no_sync true covered none is = let never = none refl in absurd (cc)
no_sync false covered none is = refl

pub none_is_older : (u : Queued) (prod cons : IndexValue) (seen : Bool) (first : List Raw) → IsQueued u prod cons seen → IsCarriedOut (HasEffect u) u.queue first → NoneIsOlder u first
none_is_older u prod cons seen first is carried tag entry held place raw command at legal spelled covered unlost =
    let other = no_sync (is_sync raw) _ (λ is. covers_none raw command spelled is tag) covered in
    let there = at_place first place raw at (applied_of (first_ill raw) legal) ∙ ap Some (same_form (is_sync raw) raw other) in
    let inside = slice_get_within (passed_on (map taken_as first)) (position_of first place) raw there in
    let shown : slice_get u.queue.shown (position_of first place) ≡ Some raw =
    ap (λ (l : List Raw). slice_get l (position_of first place)) carried.shown ∙ get_longer (passed_on (map taken_as first)) carried.rest (position_of first place) raw there in
    let passed = carried.passed in
    consumed_effect u prod cons seen is (position_of first place) (omega (arith, inside, passed)) unlost raw command tag entry shown spelled covered held

pub told_means : (u : Queued) (prod cons : IndexValue) (seen : Bool) → IsQueued u prod cons seen → ToldMeansNoneIsOlder u
told_means u prod cons seen is run s told older was number some most = none_is_older u prod cons seen _ is (was.carried_out number some most)
