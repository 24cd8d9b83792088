-- The consumer's view says what its trail says, and events keep it so.
use Rattle.std.proofs.Common.{◌≡◌, ℕ, ◌+◌, ◌-◌, ◌<◌, ◌≤◌, Bool, ◌&&◌, List, [], ◌∷◌, ◌++◌, length, map, take, drop, Option, None, Some, refl, ap, ap₂, ◌∙◌, inl, inr, arith, length-append, length-drop, length-take-le}
use Rattle.std.proofs.lemmas.Bool.{cases_lt}
use Rattle.std.proofs.lemmas.List.{length-map, get_or-replicate, get_or_past, get_or_append_left, get_or-append_right, get_or-drop, length-replicate}
use Rattle.std.specs.Prelude.{slice_index_or, replicate, is_some, nat_lt, if◌then◌else◌}
use Rattle.std.specs.List.{list_all}
use Rattle.cmdcodec.specs.declared.raw.Raw.{Raw}
use Rattle.ringcore.specs.declared.world.event.Who.TheVariants.{Consumer}
use Rattle.ringcore.specs.declared.world.event.Half.{Half}
use Rattle.ringcore.specs.declared.world.event.Half.TheVariants.{Lo, Hi}
use Rattle.ringcore.specs.declared.world.event.Event.TheVariants.{Look, Won, Lost, Write, Flip, Test, Read, Advance, Close, Acknowledge, Ask}
use Rattle.ringcore.specs.declared.machine.consumer_view.ReadHalves.{ReadHalves}
use Rattle.ringcore.specs.declared.machine.step_fault.StepFault.{StepFault}
use Rattle.ringcore.specs.declared.machine.step_fault.StepFault.TheVariants.{NotSeenReady, HalfMissing}
use Rattle.ringcore.specs.world.Trails.{Trail, Run, trail_of, half_read}
use Rattle.ringcore.specs.machine.Open.{all_below}
use Rattle.ringcore.specs.machine.Faults.{advance_fault}
use Rattle.ringcore.specs.world.World.{taken_as, head, world}
use Rattle.ringcore.specs.machine.ConsumerViews.{ConsumerValue, KnowsTaken, ConsumerKnows, unread, AreUnread, AreReadBelow, read_half, halves_at, SendersLeaveIt, ConsumersLookLeavesIt, AcknowledgementLeavesIt}
use Rattle.ringcore.proofs.MachineLemmas.SomeAndAllBelow.{all_is}

-- ---- if nothing is read

-- of as many commands as are unread
pub all_unread : (many : ℕ) → AreUnread (replicate many unread)
all_unread many k = elim (cases_lt k many) [
  | inl low ↦ get_or-replicate many k unread unread low
  | inr high ↦ get_or_past (replicate many unread) k unread (omega (arith, high, length-replicate many unread))
]

pub length_below : (end : ℕ) (commands : List ReadHalves) → AreReadBelow end commands → length (take end commands) ≡ end
length_below end commands are = let within = are.within in let places = are.places in length-take-le end commands (omega (arith, within, places))

-- If nothing is read of the commands from an offset on, nothing is once those below it are cleared.
pub cleared : (end : ℕ) (commands : List ReadHalves) → AreReadBelow end commands → AreUnread (replicate end unread ++ drop end commands)
cleared end commands are k = elim (cases_lt k end) [
  | inl low ↦
      get_or_append_left (replicate end unread) (drop end commands) unread k (omega (arith, low, length-replicate end unread)) ∙ get_or-replicate end k unread unread low
  | inr high ↦
      get_or-append_right (replicate end unread) (drop end commands) end k unread (length-replicate end unread) high ∙ get_or-drop end commands (k - end) unread
      ∙ ap (λ n. slice_index_or commands n unread) (let e : end + (k - end) ≡ k = omega (arith, high) in e) ∙ are.behind k high
]

pub cleared_below : (end : ℕ) (commands : List ReadHalves) → AreReadBelow end commands → AreReadBelow 0 (replicate end unread ++ drop end commands)
cleared_below end commands are = record {
  places =
      let within = are.within in
      let places = are.places in
      let rest = length-drop end commands in
      let all = length-append (replicate end unread) (drop end commands) in
      omega (arith, within, places, rest, all, length-replicate end unread);
  within = omega arith;
  behind = λ k from. cleared end commands are k;
}

nothing : (commands : List ReadHalves) → AreUnread commands → (k : ℕ) (half : Half) → read_half half (slice_index_or commands k unread) ≡ None
nothing commands are k half = ap (read_half half) (are k) ∙ none half
  where
    none : (half : Half) → read_half half unread ≡ None
    none Lo = refl
    none Hi = refl

pub new_known : ConsumerKnows [] (record { taken = 0; found = 0; read = replicate 64 unread })
new_known = record { taken_is = refl; found_is = refl; read_is = λ k half low. nothing (replicate 64 unread) (all_unread 64) k half }

pub tested_known : (run : Run) (view new : ConsumerValue) (limit found : ℕ) → new.taken ≡ view.taken → new.found ≡ found → AreUnread new.read
    → ConsumerKnows run view → ConsumerKnows ((Consumer, Test limit found) ∷ run) new
tested_known run view new limit found taken_is found_is are known =
    record { taken_is = taken_is ∙ known.taken_is; found_is = found_is; read_is = λ k half low. nothing new.read are k half }

pub advanced_known : (run : Run) (view new : ConsumerValue) (count : ℕ) (raws : List Raw) → length raws ≡ count
    → new.taken ≡ view.taken + count → new.found ≡ 0 → AreUnread new.read
    → ConsumerKnows run view → ConsumerKnows ((Consumer, Advance raws) ∷ run) new
advanced_known run view new count raws long taken_is found_is are known = record {
  taken_is =
      let was : view.taken ≡ head (world run) = known.taken_is in
      let grown = length-append (world run).taken (map taken_as raws) in
      let many = length-map raws taken_as in
      omega (arith, was, grown, many, long, taken_is);
  found_is = found_is;
  read_is = λ k half low. nothing new.read are k half;
}

-- ---- what an advance is refused for

abbrev pub all_read_of : List ReadHalves → Bool
all_read_of = list_all (λ (halves : ReadHalves). is_some halves.lo && is_some halves.hi)

abbrev pub both_read : Trail → ℕ → Bool
both_read mine k = is_some (half_read k Lo mine) && is_some (half_read k Hi mine)

pub all_read_known : (run : Run) (view : ConsumerValue) → ConsumerKnows run view → length view.read ≡ 64 → (count : ℕ) → count ≤ 64
    → all_read_of (take count view.read) ≡ all_below count (both_read (trail_of Consumer run))
all_read_known run view known places count few =
    all_is (λ (halves : ReadHalves). is_some halves.lo && is_some halves.hi) unread view.read 0 count (both_read (trail_of Consumer run)) (omega (arith, few, places))
    (λ k low. let inner : k < 64 = omega (arith, low, few) in
    ap says_read (zero_plus k) ∙ ap₂ (λ (a b : Option ℕ). is_some a && is_some b) (known.read_is k Lo inner) (known.read_is k Hi inner))
  where
    says_read : ℕ → Bool
    says_read k = is_some (halves_at view k).lo && is_some (halves_at view k).hi

    zero_plus : (k : ℕ) → 0 + k ≡ k
    zero_plus k = omega arith

-- as the view says it
abbrev pub fault_seen : Bool → Bool → Option StepFault
fault_seen over all = if over then Some NotSeenReady else if all then None else Some HalfMissing

pub fault_known : (run : Run) (view : ConsumerValue) → ConsumerKnows run view → length view.read ≡ 64 → (count : ℕ) → count ≤ 64
    → fault_seen (nat_lt view.found count) (all_read_of (take count view.read)) ≡ advance_fault (trail_of Consumer run) count
fault_known run view known places count few =
    ap₂ fault_seen (ap (λ n. nat_lt n count) known.found_is) (all_read_known run view known places count few)

-- ---- what leaves it

kept : (run : Run) (view : ConsumerValue) → ConsumerKnows run view → KnowsTaken (trail_of Consumer run) (head (world run)) view
kept run view known = known

pub senders_leave : SendersLeaveIt
senders_leave ring run s view (Look found) a known = kept run view known
senders_leave ring run s view (Won body number) a known = kept run view known
senders_leave ring run s view (Lost body closes found) a known = kept run view known
senders_leave ring run s view (Write offset half) a known = kept run view known
senders_leave ring run s view (Flip offset count) a known = kept run view known
senders_leave ring run s view (Test limit found) a known = absurd a
senders_leave ring run s view (Read offset half word) a known = absurd a
senders_leave ring run s view (Advance raws) a known = absurd a
senders_leave ring run s view Close a known = kept run view known
senders_leave ring run s view (Acknowledge sender number) a known = absurd a
senders_leave ring run s view (Ask found) a known = kept run view known

pub look_leaves : ConsumersLookLeavesIt
look_leaves run found view known = record { taken_is = known.taken_is; found_is = known.found_is; read_is = known.read_is }

pub acknowledgement_leaves : AcknowledgementLeavesIt
acknowledgement_leaves run s number view known = record { taken_is = known.taken_is; found_is = known.found_is; read_is = known.read_is }
