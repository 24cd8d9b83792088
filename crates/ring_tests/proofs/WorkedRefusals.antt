-- What the answers of a ring may not say: for each refusal of a reservation, of a send and of a new ring a state in
-- which its definition is false.
use Rattle.std.proofs.Common.{◌≡◌, ℕ, zero, suc, ◌+◌, ◌<◌, ◌≤◌, Bool, true, false, List, [], ◌∷◌, length, Option, Some, None, refl, sym, ap, subst, ◌∙◌, arith, alloc_error}
use Rattle.std.proofs.lemmas.Option.{same_Some}
use Rattle.cmdcodec.specs.declared.raw.Raw.{Raw}
use Rattle.qindex.specs.declared.control.Control.{Control}
use Rattle.qindex.specs.Indexes.{distance}
use Rattle.ringcore.specs.declared.world.event.Who.TheVariants.{Sender}
use Rattle.ringcore.specs.declared.world.event.Event.TheVariants.{Look, Lost}
use Rattle.ringcore.specs.world.Trails.{Trail, Run, looked}
use Rattle.ringcore.specs.world.Allowed.{Ring}
use Rattle.ringcore.specs.declared.ring_fault.RingFault.TheVariants.{Size, Senders, Batches, Memory}
use Rattle.ring.specs.declared.sender.cause.Cause.{Cause}
use Rattle.ring.specs.declared.sender.cause.Cause.TheVariants.{TooLong, Exhausted, Closed, Full, Contended}
use Rattle.ring.specs.Rings.{RingValue}
use Rattle.ringcore.specs.RingFaults.{number_fault, IsNotMade}
use Rattle.ring.specs.sender.Senders.{SenderValue}
use Rattle.ring.specs.sender.Reserving.{IsTooLong, IsExhausted, IsClosed, IsFull, IsContended, IsRefused, HasLookedAt}
use Rattle.ring.specs.sender.Sending.{may_pass, HasTried, IsGivenUp}
use Rattle.ring_tests.proofs.WorkedCases.{x, shows}

-- ---- a ring of two slots, in which each sender may reserve one batch

abbrev small : Ring
small = record { geometry = 1; senders = 2; max_batches = 1; flags = 64 }

-- its sender 0, with this trail and knowing this run
abbrev sender_with : RingValue → Trail → Run → SenderValue
sender_with ring trail history = record { ring = record ring { made_with = small }; number = 0; trail = trail; history = history }

abbrev fresh : RingValue → SenderValue
fresh ring = sender_with ring [] []

-- what a look finds in the ring as it is made, and what it would find there if the ring were closed
abbrev open_and_empty : Control
open_and_empty = shows 1 0 0 false

abbrev closed_and_empty : Control
closed_and_empty = shows 1 0 0 true

-- the sender once it looked and found this, in a run in which only it took a step
abbrev has_seen : RingValue → Control → SenderValue
has_seen ring seen = sender_with ring (Look seen ∷ []) ((Sender 0, Look seen) ∷ [])

-- What it looked at is what its trail says.
the_seen : (ring : RingValue) (seen found : Control) → HasLookedAt seen (fresh ring) (has_seen ring found) → found ≡ seen
the_seen ring seen found did = same_Some found seen (ap (λ (s : SenderValue). looked s.trail) did.trail_is)

-- ---- a reservation

-- A command and its closing sync are as many as the ring has slots.
pub filling_is_not_too_long : (ring : RingValue) (t : SenderValue) → ¬ IsTooLong (x ∷ []) true (fresh ring) t
filling_is_not_too_long ring t it = absurd (omega (arith, it.long))

-- The sender has reserved none, and may reserve one.
pub first_is_not_exhausted : (ring : RingValue) (t : SenderValue) → ¬ IsExhausted (x ∷ []) true (fresh ring) t
first_is_not_exhausted ring t it = absurd (omega (arith, it.all))

-- It looked, and found the ring open.
pub open_is_not_closed : (ring : RingValue) → ¬ IsClosed (x ∷ []) true (fresh ring) (has_seen ring open_and_empty)
open_is_not_closed ring it =
    let same : false ≡ true = ap (λ (c : Control). c.closed) (the_seen ring it.seen open_and_empty it.looked) ∙ it.closed in absurd (cc)

-- It tells that it found the ring closed, and nobody closed it in the run that it knows.
pub unclosed_is_not_closed : (ring : RingValue) → ¬ IsClosed (x ∷ []) true (fresh ring) (has_seen ring closed_and_empty)
unclosed_is_not_closed ring it = let same : false ≡ true = it.closed_then in absurd (cc)

-- It found both slots free, and the batch has two commands.
pub just_fitting_is_not_full : (ring : RingValue) → ¬ IsFull (x ∷ []) true (fresh ring) (has_seen ring open_and_empty)
just_fitting_is_not_full ring it =
    let full : 2 < distance open_and_empty.prod open_and_empty.cons + 2 =
    subst (λ (c : Control). 2 < distance c.prod c.cons + 2) (sym (the_seen ring it.seen open_and_empty it.looked)) it.full in
    absurd (omega (arith, full))

-- So they are in the run that it knows, whatever it says that it saw.
pub empty_is_not_full : (ring : RingValue) (seen : Control) → ¬ IsFull (x ∷ []) true (fresh ring) (has_seen ring seen)
empty_is_not_full ring seen it = absurd (omega (arith, it.full_then))

-- A closed ring is told as closed, and not as full.
pub closed_is_not_full : (ring : RingValue) → ¬ IsFull (x ∷ []) true (fresh ring) (has_seen ring closed_and_empty)
closed_is_not_full ring it =
    let same : true ≡ false = ap (λ (c : Control). c.closed) (the_seen ring it.seen closed_and_empty it.looked) ∙ it.unclosed in absurd (cc)

-- What a look found is what stood there: nobody closed this ring.
pub look_finds_what_stands : (ring : RingValue) → ¬ HasLookedAt closed_and_empty (fresh ring) (has_seen ring closed_and_empty)
look_finds_what_stands ring did = let same : true ≡ false = ap (λ (c : Control). c.closed) did.seen_is in absurd (cc)

-- ---- an exchange

abbrev found_by : Trail → Option Control
found_by (Lost body closes found ∷ es) = Some found
found_by es = None

abbrev behind_newest : Trail → Trail
behind_newest [] = []
behind_newest (e ∷ es) = es

-- the sender once it looked, and its exchange found this
abbrev has_lost : RingValue → Control → Control → SenderValue
has_lost ring seen found =
    sender_with ring (Lost (x ∷ []) true found ∷ Look seen ∷ []) ((Sender 0, Lost (x ∷ []) true found) ∷ (Sender 0, Look seen) ∷ [])

-- An exchange is lost only where it finds something else than what was looked at.
pub unchanged_is_not_contended : (ring : RingValue) → ¬ IsContended (x ∷ []) true (fresh ring) (has_lost ring open_and_empty open_and_empty)
unchanged_is_not_contended ring it =
    let trail = ap (λ (s : SenderValue). s.trail) it.lost.trail_is in
    let found = same_Some _ _ (ap found_by trail) in
    let looked_at = ap (λ (s : SenderValue). s.trail) it.looked.trail_is in
    let seen = same_Some _ _ (ap (λ t. looked (behind_newest t)) trail ∙ ap looked looked_at) in
    it.lost.other (sym found ∙ seen)

-- ---- a send

-- Each try that was refused so took a step at least.
longer : (body : List Raw) (closes : Bool) (s t : SenderValue) (cause : Cause) → may_pass cause ≡ true → IsRefused body closes s cause t → length s.trail < length t.trail
longer body closes s t TooLong passes refused = absurd (cc)
longer body closes s t Exhausted passes refused = absurd (cc)
longer body closes s t Closed passes refused = absurd (cc)
longer body closes s t Full passes refused =
    let grew : length t.trail ≡ suc (length s.trail) = ap (λ (s : SenderValue). length s.trail) refused.looked.trail_is in omega (arith, grew)
longer body closes s t Contended passes refused =
    let looked : length refused.after.trail ≡ suc (length s.trail) = ap (λ (s : SenderValue). length s.trail) refused.looked.trail_is in
    let lost : length t.trail ≡ suc (length refused.after.trail) = ap (λ (s : SenderValue). length s.trail) refused.lost.trail_is in
    omega (arith, looked, lost)

tries_are_steps : (body : List Raw) (closes : Bool) (tries : ℕ) (s t : SenderValue) → HasTried body closes tries s t → length s.trail + tries ≤ length t.trail
tries_are_steps body closes zero s t tried = let same : length t.trail ≡ length s.trail = ap (λ (s : SenderValue). length s.trail) tried in omega (arith, same)
tries_are_steps body closes (suc k) s t tried =
    let before = tries_are_steps body closes k s tried.0 tried.2 in
    let more = longer body closes tried.0 t tried.1 tried.3 tried.4 in
    omega (arith, before, more)

-- It may try three times, and gives up as full after one look.
pub one_try_is_not_three : (ring : RingValue) (seen : Control) → ¬ IsGivenUp (x ∷ []) true 3 (fresh ring) Full (has_seen ring seen)
one_try_is_not_three ring seen it =
    let tries : it.refusals + 1 ≡ 3 = it.enough refl in
    let before = tries_are_steps (x ∷ []) true it.refusals (fresh ring) it.before it.tried in
    let more = longer (x ∷ []) true it.before (has_seen ring seen) Full refl it.refused in
    absurd (omega (arith, tries, before, more))

-- ---- a new ring

-- The first fault of the numbers is told, in the order of their mention.
pub bad_numbers : (number_fault 0 0 0 ≡ Some Size) × (number_fault 20 257 1 ≡ Some Size) × (number_fault 1 0 0 ≡ Some Senders) × (number_fault 19 257 1 ≡ Some Senders) × (number_fault 19 256 0 ≡ Some Batches)
bad_numbers = (refl, refl, refl, refl, refl)

pub good_numbers : (number_fault 1 1 1 ≡ None) × (number_fault 19 256 1 ≡ None)
good_numbers = (refl, refl)

-- Memory is asked for behind the numbers: that of a ring of one slot isn't what is missing.
pub memory_is_asked_for_last : ¬ IsNotMade (number_fault 0 1 1) (Memory alloc_error)
memory_is_asked_for_last it = let some : Some Size ≡ None = it in absurd (cc)
