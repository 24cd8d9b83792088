-- What the definitions say of a guest's commands on their way.
use Rattle.std.proofs.Common.{◌≡◌, ℕ, ◌≤◌, ◌<◌, Bool, true, List, [], ◌∷◌, ◌++◌, ◌+◌, length, take, All, Some, None, refl, ap, arith}
use Rattle.std.specs.Prelude.{slice_get}
use Rattle.std.specs.FinMap as finite
use Rattle.cmdcodec.specs.declared.raw.Raw.{Raw}
use Rattle.cmdcodec.specs.declared.command.Command.{Command}
use Rattle.cmdcodec.specs.Legality.{first_ill}
use Rattle.caches.specs.declared.tag.Tag.{Tag}
use Rattle.caches.specs.declared.tag.Entry.{Entry}
use Rattle.caches.specs.Covers.{covers}
use Rattle.caches.specs.Held.{Entries}
use Rattle.engine.specs.Settled.{IsSettled}
use Rattle.range_hints.specs.declared.ttl.Ttl.{Ttl}
use Rattle.range_hints.specs.Hints.{SpellsWithHint}
use Rattle.ring.specs.Rings.{RingValue}
use Rattle.ring.specs.Runs.{Who, Sender, Event, Won, Applied, Run, numbers_given, batches, world, joined}
use Rattle.ring.specs.table.Histories.{AreApplied}
use Rattle.ring.specs.declared.sender.cause.Refused.{Refused}
use Rattle.ring.specs.sender.Senders.{SenderValue, ReceiptValue, HasAsked}
use Rattle.ring.specs.sender.Sending.{IsSent, IsGivenUpWith}
use Rattle.detachment.specs.Order.{HasReserved, HasApplied}
use Rattle.guest_commands.specs.Mappings.{Mapping}
use Rattle.guest_commands.specs.Entries.{IsImage}
use Rattle.guest_commands.specs.Theorems.{IsReachedBy, IsIsolated, Reaches}
use Rattle.guest_commands.specs.Conversions.{Conversion, IsConverted, words_for}
use Rattle.guest_forwarding.specs.declared.forwarded.Forwarded.{Forwarded}
use Rattle.guest_forwarding.specs.Consumed.{Consumed, consumed_by, host_commands}
use Rattle.guest_forwarding.specs.Values.{ForwardingValue, before_any, behind_batch, IsForwarding}
use Rattle.guest_forwarding.specs.Carrying.{IsReservedBehind, IsUpTo, AreOnTheirWay, HasConsumed, IsAppliedBehind, AreCarriedOut, IsCarriedOut, IsAllCarriedOut}
use Rattle.guest_forwarding.specs.Forwarding.{IsTaken, IsOwn, AreConsumed, IsLast, IsSentIfAny, AreSent, IsUnsent}
use Rattle.guest_forwarding.specs.Asking.{HasAskedFor, AreToldFor}
use Rattle.guest_forwarding.specs.Laws.{HasReached, CarriedOutIsApplied, NoOlderEntryIsHeld}

-- ---- what is kept

pub no_batch_at_first : (s : SenderValue) → before_any s ≡ record { last = None; sender = s }
no_batch_at_first s = refl

pub the_last_batch_is_kept : (receipt : ReceiptValue) (s : SenderValue) → behind_batch receipt s ≡ record { last = Some receipt; sender = s }
the_last_batch_is_kept receipt s = refl

pub a_receipt_of_its_own : (receipt : ReceiptValue) (s : SenderValue) → IsForwarding (behind_batch receipt s) → (receipt.sender ≡ s.number) × (receipt.number ≤ numbers_given s.trail)
a_receipt_of_its_own receipt s is = (is.own, is.given)

-- ---- what is reserved

pub nothing_is_up_to_no_batch : (number : ℕ) → ¬ IsUpTo None number
nothing_is_up_to_no_batch number is = is

pub a_later_batch_is_not_up_to_an_earlier : ¬ IsUpTo (Some record { sender = 0; number = 3 }) 4
a_later_batch_is_not_up_to_an_earlier is = omega (arith, is)

pub up_to_itself : IsUpTo (Some record { sender = 0; number = 3 }) 3
up_to_itself = omega arith

nothing_is_more : {A : Type 0} (ahead : List A) (x : A) (behind : List A) → ¬ ([] ≡ ahead ++ x ∷ behind)
nothing_is_more [] x behind is = absurd (cc)
nothing_is_more (y ∷ ahead) x behind is = absurd (cc)

abbrev rest_of : {A : Type 0} → List A → List A
rest_of [] = []
rest_of (x ∷ xs) = xs

abbrev knowing : RingValue → Run → SenderValue
knowing ring run = record { ring = ring; number = 0; trail = []; history = run }

-- A batch that was reserved already isn't behind what is known.
pub what_was_reserved_is_not_behind : (ring : RingValue) (words : List Raw) → ¬ IsReservedBehind ((Sender 0, Won words (Some 1)) ∷ []) words 1 (knowing ring ((Sender 0, Won words (Some 1)) ∷ []))
what_was_reserved_is_not_behind ring words is = two_of_one is.reserved.later is.between is.reserved.run_is
  where
    x : Who × Event
    x = (Sender 0, Won words (Some 1))

    some : (between : Run) → ¬ ([] ≡ between ++ x ∷ [])
    some between is = nothing_is_more between x [] is

    two_of_one : (later between : Run) → ¬ (x ∷ [] ≡ later ++ x ∷ (between ++ x ∷ []))
    two_of_one [] between is = some between (ap rest_of is)
    two_of_one (y ∷ later) between is = nothing_is_more later x (between ++ x ∷ []) (ap rest_of is)

pub words_are_on_their_way : (f : ForwardingValue) (known : Run) (word : Raw) (words : List Raw) → AreOnTheirWay f known (word ∷ words)
    → (number : ℕ) × IsUpTo f.last number × IsReservedBehind known (word ∷ words) number f.sender
words_are_on_their_way f known word words are = are

pub reserved_by_this_sender : (known : Run) (words : List Raw) (number : ℕ) (s : SenderValue) → IsReservedBehind known words number s
    → (between : Run) × HasReserved s.number words number (between ++ known) s.history
reserved_by_this_sender known words number s is = (is.between, is.reserved)

pub consumed_by_legal_words : (f : ForwardingValue) (c : Consumed) → HasConsumed f c
    → (words : List Raw) × All (λ raw. first_ill raw ≡ None) words × IsReachedBy c.mapping words c.raw × AreOnTheirWay f c.known words
consumed_by_legal_words f c is = (is.words, is.legal, is.reached, is.sent)

-- ---- what is carried out

pub applied_by_this_sender : (known : Run) (words : List Raw) (s : SenderValue) → IsAppliedBehind known words s
    → (number : ℕ) × IsReservedBehind known words number s × (applied : HasApplied s.number words number s.history)
    × (length (joined (batches known)) ≤ length (joined applied.sync.completed.ahead))
applied_by_this_sender known words s is = (is.number, is.reserved, is.applied, is.late)

pub words_are_carried_out : (known : Run) (word : Raw) (words : List Raw) (s : SenderValue) → AreCarriedOut known (word ∷ words) s → IsAppliedBehind known (word ∷ words) s
words_are_carried_out known word words s are = are

pub carried_out_by_words_that_reach : (s : SenderValue) (c : Consumed) → IsCarriedOut s c → (words : List Raw) × IsReachedBy c.mapping words c.raw × AreCarriedOut c.known words s
carried_out_by_words_that_reach s c is = (is.words, is.reached, is.done)

pub each_is_carried_out : (f : ForwardingValue) (s : SenderValue) (c : Consumed) → IsAllCarriedOut f s → HasConsumed f c → IsCarriedOut s c
each_is_carried_out f s c all consumed = all c consumed

pub reached_by_what_was_applied : (command : Command) (ttl : Ttl) (image : Tag) (known : Run) (s : SenderValue) → HasReached command ttl image known s
    → (words : List Raw) × (host : Raw) × (index : ℕ) × (behind : IsAppliedBehind known words s) × (slice_get words index ≡ Some host) × Reaches command ttl image host
    × (slice_get (world s.history).taken (length (joined behind.applied.sync.completed.ahead) + index) ≡ Some record { raw = host; outcome = Applied })
reached_by_what_was_applied command ttl image known s is = (is.words, is.host, is.index, is.behind, is.among, is.covers, is.applied)

pub each_entry_is_reached : CarriedOutIsApplied → (s : SenderValue) (c : Consumed) → IsCarriedOut s c → (command : Command) (ttl : Ttl) (tag image : Tag)
    → SpellsWithHint c.raw command ttl → covers command tag ≡ true → IsImage c.mapping tag image → HasReached command ttl image c.known s
each_entry_is_reached law s c is command ttl tag image spelled covered imaged = law s c is command ttl tag image spelled covered imaged

pub each_entry_is_younger : NoOlderEntryIsHeld → (s : SenderValue) (c : Consumed) → IsCarriedOut s c → (newer : Run) (entries : Entries)
    → IsSettled entries (world (newer ++ s.history)).taken → (command : Command) (ttl : Ttl) (tag image : Tag)
    → SpellsWithHint c.raw command ttl → covers command tag ≡ true → IsImage c.mapping tag image → (entry : Entry) → finite.get entries image ≡ Some entry
    → (reached : HasReached command ttl image c.known s) × (length (joined reached.behind.applied.sync.completed.ahead) + reached.index < entry.born)
each_entry_is_younger law s c is newer entries settled command ttl tag image spelled covered imaged entry held =
    law s c is newer entries settled command ttl tag image spelled covered imaged entry held

-- ---- what is consumed

pub each_with_its_mapping : (mapping : Mapping) (known : Run) (one other : Raw)
    → consumed_by mapping known (one ∷ other ∷ []) ≡ record { mapping = mapping; raw = one; known = known } ∷ record { mapping = mapping; raw = other; known = known } ∷ []
each_with_its_mapping mapping known one other = refl

pub host_commands_in_order : (mapping : Mapping) (one other : Raw) → host_commands mapping (one ∷ other ∷ []) ≡ words_for mapping one ++ (words_for mapping other ++ [])
host_commands_in_order mapping one other = refl

pub taken_as_converted : (mapping : Mapping) (raws : List Raw) (f : Forwarded) → IsTaken mapping raws f
    → IsConverted mapping raws record { guest = mapping; commands = host_commands mapping (take f.consumed raws); taken = f.consumed; ended = f.ended }
taken_as_converted mapping raws f is = is

pub own_words : (mapping : Mapping) (raws : List Raw) (f : Forwarded) → IsOwn mapping raws f → All (IsIsolated mapping) (host_commands mapping (take f.consumed raws))
own_words mapping raws f is = is

pub all_are_consumed : (mapping : Mapping) (raws : List Raw) (s : SenderValue) (f : ForwardingValue) (forwarded : Forwarded) → AreConsumed mapping raws s f forwarded
    → All (HasConsumed f) (consumed_by mapping s.history (take forwarded.consumed raws))
all_are_consumed mapping raws s f forwarded are = are

-- ---- what is sent

pub the_batch_is_the_last : (words : List Raw) (tries : ℕ) (s t : SenderValue) (f : ForwardingValue) → IsLast words tries s t f
    → (receipt : ReceiptValue) × IsSent words tries s t receipt × (f ≡ behind_batch receipt t)
the_batch_is_the_last words tries s t f is = (is.receipt, is.sent, is.kept)

pub nothing_to_send : (tries : ℕ) (s t : SenderValue) (old new : ForwardingValue) → IsSentIfAny [] tries s t old new → (t ≡ s) × (new ≡ old)
nothing_to_send tries s t old new is = is

pub something_to_send : (word : Raw) (words : List Raw) (tries : ℕ) (s t : SenderValue) (old new : ForwardingValue) → IsSentIfAny (word ∷ words) tries s t old new
    → IsLast (word ∷ words) tries s t new
something_to_send word words tries s t old new is = is

pub the_hosts_commands_are_sent : (mapping : Mapping) (raws : List Raw) (tries : ℕ) (s : SenderValue) (old new : ForwardingValue) (f : Forwarded) → AreSent mapping raws tries s old new f
    → IsSentIfAny (host_commands mapping (take f.consumed raws)) tries s f.sender old new
the_hosts_commands_are_sent mapping raws tries s old new f are = are

pub some_command_was_refused : (mapping : Mapping) (raws : List Raw) (tries : ℕ) (s : SenderValue) (answer : Refused) → IsUnsent mapping raws tries s answer
    → (conversion : Conversion) × IsConverted mapping raws conversion × (1 ≤ length conversion.commands) × IsGivenUpWith conversion.commands true tries s answer
some_command_was_refused mapping raws tries s answer is = (is.conversion, is.converted, is.some, is.refused)

-- ---- what is asked

pub no_batch_asks_nothing : (old new : SenderValue) (answer : Bool) → HasAskedFor None old new answer → (new ≡ old) × (answer ≡ true)
no_batch_asks_nothing old new answer has = has

pub the_last_is_asked_for : (receipt : ReceiptValue) (old new : SenderValue) (answer : Bool) → HasAskedFor (Some receipt) old new answer → HasAsked receipt.number old new answer
the_last_is_asked_for receipt old new answer has = has

pub told_of_all_up_to_the_last : (receipt : ReceiptValue) (s : SenderValue) → AreToldFor (Some receipt) s → AreApplied s.history s.number receipt.number
told_of_all_up_to_the_last receipt s are = are
