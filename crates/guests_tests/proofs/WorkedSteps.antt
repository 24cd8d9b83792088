-- Runs in which a stream isn't as far as one might think.
use Rattle.std.proofs.Common.{Bool, ◌≡◌, ℕ, suc, true, false, List, [], ◌∷◌, ◌++◌, Some, None, refl, sym, ap, ◌∙◌, subst, arith}
use Rattle.std.specs.Prelude.{slice_get, length, is_some, Option, ◌+◌}
use Rattle.cmdcodec.specs.Words.{encoding}
use Rattle.cmdcodec.specs.Opcodes.{opcode_named}
use Rattle.ring.specs.Rings.{RingValue}
use Rattle.ring.specs.Runs.{Raw, Who, Consumer, Sender, Event, Won, Advance, Run, Taken, Outcome, Applied, Replaced, Batch, batches, Begins, joined, advanced, sync_raw, world}
use Rattle.ring.specs.declared.sender.cause.Refused.{Refused}
use Rattle.ring.specs.sender.Senders.{SenderValue, ReceiptValue}
use Rattle.ring.specs.sender.Sending.{IsSent, IsGivenUp}
use Rattle.detachment.specs.Commands.{Stream, has_ats, configuration_words, endpoint_words}
use Rattle.detachment.specs.Order.{HasReserved, AreAppliedFrom, HasApplied, IsConfiguringIn, IsConfiguredIn, IsLeavingIn, HasLeftIn, IsDetachedIn}
use Rattle.detachment.specs.Values.{ConfigurationValue, EndpointValue, DetachedValue, configuration_value, endpoint_value, detached_value, IsOwn, IsConfiguring, IsConfigured, IsLeaving, IsDetached}
use Rattle.guests_tests.proofs.Streams.{stream, without_ats}
use Rattle.detachment.specs.Sending.{HasSentConfiguration, HasSentEndpoint, ConfigurationIsUnsent, EndpointIsUnsent}

-- ---- lists with one element, or none

nothing_is_more : {A : Type 0} (ahead : List A) (x : A) (behind : List A) → ¬ ([] ≡ ahead ++ x ∷ behind)
nothing_is_more [] x behind is = absurd (cc)
nothing_is_more (y ∷ ahead) x behind is = absurd (cc)

only_one : {A : Type 0} (x y : A) (ahead behind : List A) → x ∷ [] ≡ ahead ++ y ∷ behind → (x ≡ y) × (ahead ≡ [])
only_one x y [] behind is = (cc, refl)
only_one x y (z ∷ ahead) behind is = let rest : [] ≡ ahead ++ y ∷ behind = cc in absurd (nothing_is_more ahead y behind rest)

abbrev first_or : {A : Type 0} → List A → A → A
first_or [] other = other
first_or (x ∷ xs) other = x

abbrev rest_of : {A : Type 0} → List A → List A
rest_of [] = []
rest_of (x ∷ xs) = xs

-- ---- what an event says

abbrev sender_of : Who × Event → ℕ
sender_of (Sender s, e) = s
sender_of (Consumer, e) = 99

abbrev number_of : Who × Event → ℕ
number_of (who, Won words (Some number)) = number
number_of x = 0

abbrev first_low : List Raw → ℕ
first_low [] = 0
first_low (raw ∷ raws) = raw.lo

abbrev low_of : Who × Event → ℕ
low_of (who, Won words number) = first_low words
low_of x = 0

abbrev or_0 : Option ℕ → ℕ
or_0 None = 0
or_0 (Some number) = number

abbrev newest_sender : Run → ℕ
newest_sender [] = 98
newest_sender (x ∷ run) = sender_of x

abbrev newest_number : Run → ℕ
newest_number [] = 0
newest_number (x ∷ run) = number_of x

abbrev first_number : List Batch → ℕ
first_number [] = 0
first_number (b ∷ bs) = or_0 b.number

abbrev outcome_in : Option Taken → Outcome
outcome_in None = Replaced
outcome_in (Some taken) = taken.outcome

-- sender 0's batch for the configuration of stream 5, or of 6, and the one for the endpoint of stream 5
abbrev first : Who × Event
first = (Sender 0, Won (configuration_words (stream 5)) (Some 1))

abbrev of_six : Who × Event
of_six = (Sender 0, Won (configuration_words (stream 6)) (Some 1))

abbrev second : Who × Event
second = (Sender 0, Won (endpoint_words (stream 5)) (Some 2))

-- all of the first batch is taken
abbrev taken_first : Who × Event
taken_first = (Consumer, Advance (configuration_words (stream 5) ++ sync_raw 0 1 ∷ []))

-- ---- what is reserved

pub not_by_another_sender : ¬ HasReserved 1 (configuration_words (stream 5)) 1 [] (first ∷ [])
not_by_another_sender is = let same = ap sender_of (only_one first (Sender 1, Won (configuration_words (stream 5)) (Some 1)) is.later [] is.run_is).0 in omega (arith, same)

pub not_with_another_number : ¬ HasReserved 0 (configuration_words (stream 5)) 2 [] (first ∷ [])
not_with_another_number is = let same = ap number_of (only_one first (Sender 0, Won (configuration_words (stream 5)) (Some 2)) is.later [] is.run_is).0 in omega (arith, same)

pub not_with_other_words : ¬ HasReserved 0 (configuration_words (stream 5)) 1 [] (of_six ∷ [])
unfolding encoding
not_with_other_words is = let same = ap low_of (only_one of_six first is.later [] is.run_is).0 in omega (arith, same)

pub not_behind_another_run : ¬ HasReserved 0 (configuration_words (stream 5)) 1 (first ∷ []) (first ∷ [])
not_behind_another_run is = two_of_one is.later is.run_is
  where
    two_of_one : (later : Run) → ¬ (first ∷ [] ≡ later ++ first ∷ (first ∷ []))
    two_of_one [] is = let none : [] ≡ first ∷ [] = ap rest_of is in absurd (cc)
    two_of_one (x ∷ later) is = nothing_is_more later first (first ∷ []) (ap rest_of is)

pub not_of_another_stream : ¬ IsConfiguringIn (stream 5) 0 1 (of_six ∷ [])
unfolding encoding
not_of_another_stream is = let same = ap low_of (only_one of_six first is.reserved.later is.earlier is.reserved.run_is).0 in omega (arith, same)

-- ---- what is applied

pub not_replaced : (raw : Raw) → ¬ AreAppliedFrom 0 (raw ∷ []) (record { raw = raw; outcome = Replaced } ∷ [])
not_replaced raw are = let no : Replaced ≡ Applied = ap outcome_in (are 0 raw refl) in absurd (cc)

pub not_elsewhere : (raw : Raw) → ¬ AreAppliedFrom 1 (raw ∷ []) (record { raw = raw; outcome = Applied } ∷ [])
not_elsewhere raw are = let no : false ≡ true = ap is_some (are 0 raw refl) in absurd (cc)

-- the batch for stream 6, and all of it taken
abbrev six_taken : Run
six_taken = (Consumer, Advance (configuration_words (stream 6) ++ sync_raw 0 1 ∷ [])) ∷ of_six ∷ []

abbrev batch_of : ℕ → List Raw → Batch
batch_of number words = record { sender = 0; number = Some number; body = words }

pub not_applied_for_another : ¬ IsConfiguredIn (stream 5) 0 1 six_taken
unfolding encoding
not_applied_for_another is =
    let completed = is.sync.completed in
    let one = only_one (batch_of 1 (configuration_words (stream 6))) (batch_of 1 completed.body) completed.ahead completed.behind completed.reserved in
    let words = ap (λ (b : Batch). b.body) one.0 in
    let same = ap first_low (words ∙ is.words_are) in omega (arith, same)

-- an illegal command, which is replaced, and its CMD_SYNC, which is applied
abbrev illegal : Raw
illegal = record { lo = 0xff; hi = 0 }

abbrev illegal_taken : Run
illegal_taken = (Consumer, Advance (illegal ∷ sync_raw 0 1 ∷ [])) ∷ (Sender 0, Won (illegal ∷ []) (Some 1)) ∷ []

pub replaced_is_not_applied : ¬ HasApplied 0 (illegal ∷ []) 1 illegal_taken
unfolding opcode_named
replaced_is_not_applied is =
    let completed = is.sync.completed in
    let one = only_one (batch_of 1 (illegal ∷ [])) (batch_of 1 completed.body) completed.ahead completed.behind completed.reserved in
    let at =
    subst (λ (ahead : List Batch). slice_get (world illegal_taken).taken (length (joined ahead) + 0) ≡ Some record { raw = illegal; outcome = Applied }) one.1
    (is.each 0 illegal refl) in
    let no : Replaced ≡ Applied = ap outcome_in at in absurd (cc)

-- ---- the order

-- both batches are reserved before any of their commands is taken
abbrev too_early : Run
too_early = (Consumer, Advance ((configuration_words (stream 5) ++ sync_raw 0 1 ∷ []) ++ (endpoint_words (stream 5) ++ sync_raw 0 2 ∷ []))) ∷ second ∷ first ∷ []

nothing_taken : (between earlier : Run) → first ∷ [] ≡ between ++ earlier → advanced earlier ≡ []
nothing_taken [] earlier is = ap advanced (sym is)
nothing_taken (x ∷ []) earlier is = ap advanced (sym (ap rest_of is))
nothing_taken (x ∷ y ∷ between) earlier is = let none : [] ≡ y ∷ (between ++ earlier) = ap rest_of is in absurd (cc)

before_the_second : (later between earlier : Run) → too_early ≡ later ++ second ∷ (between ++ earlier) → advanced earlier ≡ []
before_the_second [] between earlier is = let same = ap newest_sender is in absurd (omega (arith, same))
before_the_second (x ∷ []) between earlier is = nothing_taken between earlier (ap (λ (run : Run). rest_of (rest_of run)) is)
before_the_second (x ∷ y ∷ []) between earlier is = let same = ap (λ (run : Run). newest_number (rest_of (rest_of run))) is in absurd (omega (arith, same))
before_the_second (x ∷ y ∷ z ∷ later) between earlier is =
    absurd (nothing_is_more later second (between ++ earlier) (ap (λ (run : Run). rest_of (rest_of (rest_of run))) is))

not_configured_by_nothing : (of : Stream) (run : Run) → advanced run ≡ [] → ¬ IsConfiguredIn of 0 1 run
not_configured_by_nothing of run none is =
    let completed = is.sync.completed in
    let no : false ≡ true =
    ap is_some (subst (λ (raws : List Raw). slice_get raws (length (joined completed.ahead ++ completed.body)) ≡ Some (sync_raw 0 1)) none completed.sync) in absurd (cc)

pub sent_too_early_is_not_behind : ¬ IsLeavingIn (stream 5) 0 1 2 too_early
sent_too_early_is_not_behind is =
    not_configured_by_nothing (stream 5) is.earlier (before_the_second is.reserved.later is.between is.earlier is.reserved.run_is) is.configured

pub sent_too_early_is_not_detached : ¬ IsDetachedIn (stream 5) 0 1 (Some 2) too_early
sent_too_early_is_not_detached is = sent_too_early_is_not_behind is.behind

-- the first is taken, and the second is reserved behind that
abbrev in_order : Run
in_order = second ∷ taken_first ∷ first ∷ []

abbrev has_fourth : List Raw → Bool
has_fourth (a ∷ b ∷ c ∷ d ∷ raws) = true
has_fourth raws = false

too_few_taken : (ahead behind : List Batch) (body : List Raw) → batches in_order ≡ ahead ++ batch_of 2 body ∷ behind → ¬ Begins (joined ahead ++ body) (advanced in_order)
too_few_taken [] behind body is begins = let same = ap first_number is in omega (arith, same)
too_few_taken (b ∷ []) behind body is begins =
    let one : batch_of 1 (configuration_words (stream 5)) ≡ b = cc in
    let two : batch_of 2 (endpoint_words (stream 5)) ≡ batch_of 2 body = ap (λ (bs : List Batch). first_or bs (batch_of 2 body)) (ap rest_of is) in
    let all =
    subst (λ (c : Batch). Begins (joined (c ∷ []) ++ endpoint_words (stream 5)) (advanced in_order)) (sym one)
    (subst (λ (ws : List Raw). Begins (joined (b ∷ []) ++ ws) (advanced in_order)) (sym (ap (λ (c : Batch). c.body) two)) begins) in
    let no : false ≡ true = ap has_fourth all.1 in absurd (cc)
too_few_taken (b ∷ c ∷ ahead) behind body is begins = nothing_is_more ahead (batch_of 2 body) behind (ap (λ (bs : List Batch). rest_of (rest_of bs)) is)

pub reserved_is_not_detached : ¬ IsDetachedIn (stream 5) 0 1 (Some 2) in_order
reserved_is_not_detached is =
    let completed = is.applied.sync.completed in too_few_taken completed.ahead completed.behind completed.body completed.reserved completed.all_ahead

-- ---- with ATS, and without

pub not_detached_without_its_endpoint : (run : Run) → ¬ IsDetachedIn (stream 5) 0 1 None run
not_detached_without_its_endpoint run is = let no : true ≡ false = is.uncached in absurd (cc)

pub not_leaving_without_ats : (run : Run) → ¬ IsLeavingIn (without_ats 5) 0 1 2 run
not_leaving_without_ats run is = let no : false ≡ true = is.cached in absurd (cc)

pub reserved_without_ats_is_not_detached : ¬ IsDetachedIn (without_ats 5) 0 1 None (first ∷ [])
reserved_without_ats_is_not_detached is = not_configured_by_nothing (without_ats 5) (first ∷ []) refl is.configured

-- ---- what each step keeps

-- sender 0, who knows this run
abbrev knowing : RingValue → Run → SenderValue
knowing ring run = record { ring = ring; number = 0; trail = []; history = run }

abbrev receipt : ℕ → ReceiptValue
receipt number = record { sender = 0; number = number }

abbrev pub configuration_known : RingValue → Run → ConfigurationValue
configuration_known ring run = record { stream = stream 5; configuration = receipt 1; sender = knowing ring run }

abbrev endpoint_known : RingValue → Run → EndpointValue
endpoint_known ring run = record { stream = stream 5; configuration = receipt 1; endpoint = receipt 2; sender = knowing ring run }

abbrev pub detached_known : RingValue → Run → DetachedValue
detached_known ring run = record { stream = stream 5; configuration = receipt 1; endpoint = Some (receipt 2); sender = knowing ring run }

abbrev pub configured_without_ats : RingValue → Run → ConfigurationValue
configured_without_ats ring run = record { stream = without_ats 5; configuration = receipt 1; sender = knowing ring run }

pub parts_for_the_configuration : (s : SenderValue) → configuration_value (stream 5) (receipt 1) s ≡ record { stream = stream 5; configuration = receipt 1; sender = s }
parts_for_the_configuration s = refl

pub parts_for_the_endpoint : (s : SenderValue) → endpoint_value (stream 5) (receipt 1) (receipt 2) s ≡ record { stream = stream 5; configuration = receipt 1; endpoint = receipt 2; sender = s }
parts_for_the_endpoint s = refl

pub parts_of_a_detached_stream : (s : SenderValue) → detached_value (stream 5) (receipt 1) None s ≡ record { stream = stream 5; configuration = receipt 1; endpoint = None; sender = s }
parts_of_a_detached_stream s = refl

pub receipt_of_another_sender : (s : SenderValue) → ¬ IsOwn (record { sender = suc s.number; number = 1 }) s
receipt_of_another_sender s own = omega (arith, own)

pub not_configuring : (ring : RingValue) → ¬ IsConfiguring (configuration_known ring (of_six ∷ []))
not_configuring ring is = not_of_another_stream is.order

pub not_configured : (ring : RingValue) → ¬ IsConfigured (configuration_known ring six_taken)
not_configured ring is = not_applied_for_another is.order

pub not_leaving : (ring : RingValue) → ¬ IsLeaving (endpoint_known ring too_early)
not_leaving ring is = sent_too_early_is_not_behind is.order

pub not_detached : (ring : RingValue) → ¬ IsDetached (detached_known ring in_order)
not_detached ring is = reserved_is_not_detached is.order

pub own_configuring : (c : ConfigurationValue) → IsConfiguring c → IsOwn c.configuration c.sender
own_configuring c is = is.own

pub own_leaving : (e : EndpointValue) → IsLeaving e → IsOwn e.endpoint e.sender
own_leaving e is = is.own

pub not_configured_without_ats : (ring : RingValue) (run : Run) → ¬ IsConfigured (configured_without_ats ring run)
not_configured_without_ats ring run is = let no : false ≡ true = is.cached in absurd (cc)

-- ---- what is sent

pub sent_for_its_stream : (tries : ℕ) (old new : SenderValue) (c : ConfigurationValue) → HasSentConfiguration (stream 5) tries old new c
    → (c.stream ≡ stream 5) × (c.sender ≡ new) × IsSent (configuration_words (stream 5)) tries old new c.configuration
sent_for_its_stream tries old new c did = (did.stream_is, did.sender_is, did.sent)

pub sent_for_its_endpoint : (c : ConfigurationValue) (tries : ℕ) (old new : SenderValue) (e : EndpointValue) → HasSentEndpoint c tries old new e
    → (e.stream ≡ c.stream) × (e.configuration ≡ c.configuration) × (e.sender ≡ new) × IsSent (endpoint_words c.stream) tries old new e.endpoint
sent_for_its_endpoint c tries old new e did = (did.stream_is, did.configuration_is, did.sender_is, did.sent)

pub configuration_refused_with_its_sync : (tries : ℕ) (s : SenderValue) (refused : Refused) → ConfigurationIsUnsent (stream 5) tries s refused
    → IsGivenUp (configuration_words (stream 5)) true tries s refused.cause refused.sender
configuration_refused_with_its_sync tries s refused is = is

pub endpoint_refused_with_its_sync : (c : ConfigurationValue) (tries : ℕ) (s : SenderValue) (refused : Refused) → EndpointIsUnsent c tries s refused
    → IsGivenUp (endpoint_words c.stream) true tries s refused.cause refused.sender
endpoint_refused_with_its_sync c tries s refused is = is
