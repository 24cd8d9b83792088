-- What the consumer's own trail says is true in the world.
use Rattle.std.proofs.Common.{◌+◌, cond, ◌==◌, [], ◌∷◌, ◌++◌, map, length, refl, sym, ap, ◌∙◌, subst, length-append}
use Rattle.std.proofs.lemmas.List.{length-map, map-append}
use Rattle.ringcore.specs.declared.world.event.Who.TheVariants.{Consumer, Sender}
use Rattle.ringcore.specs.declared.world.event.Event.TheVariants.{Look, Won, Lost, Write, Flip, Test, Read, Advance, Close, Acknowledge, Ask}
use Rattle.ringcore.specs.world.Trails.{Trail, Run, trail_of, raws_by}
use Rattle.ringcore.specs.world.World.{taken_as}
use Rattle.ringcore.specs.world.Allowed.{Ring, IsRun}
use Rattle.ringcore.specs.world.Laws.{EveryRun, syncs_in, SyncsAreInOrder}
use Rattle.ringcore.specs.world.ConsumerLaws.{TellsTheHead, TellsTheNumbers, TellsWhatIsAdvanced, TellsTheOutcomes, RawsAreCounted, SyncsOfRawsAreCounted, TookSyncsInOrder, FoundIsReady, ReadsAreOfItems}
use Rattle.ringcore.proofs.WorldLemmas.Reading.{raws_taken, taken_again, is_read}
use Rattle.ringcore.proofs.WorldLemmas.Sound.{sound}
use Rattle.ringcore.proofs.WorldLemmas.SyncCounts.{syncs_append}
use Rattle.ringcore.proofs.WorldLemmas.SyncOrder.{come_in_order}

-- ---- what is taken and acknowledged

-- Both at once, event by event.
abbrev Tells : Run → Type 0
Tells run = TellsTheOutcomes run × TellsTheNumbers run

tells : (ring : Ring) (run : Run) → IsRun ring run → Tells run
tells ring [] ok = (refl, λ s. refl)
tells ring ((Consumer, Look found) ∷ xs) ok = tells ring xs ok.0
tells ring ((Consumer, Won body number) ∷ xs) ok = absurd ok.1
tells ring ((Consumer, Lost body closes found) ∷ xs) ok = absurd ok.1
tells ring ((Consumer, Write offset half) ∷ xs) ok = absurd ok.1
tells ring ((Consumer, Flip offset count) ∷ xs) ok = absurd ok.1
tells ring ((Consumer, Test limit found) ∷ xs) ok = tells ring xs ok.0
tells ring ((Consumer, Read offset half word) ∷ xs) ok = tells ring xs ok.0
tells ring ((Consumer, Advance raws) ∷ xs) ok =
    let before = tells ring xs ok.0 in
    (ap (λ l. l ++ map taken_as raws) before.0 ∙ sym (map-append taken_as (raws_by (trail_of Consumer xs)) raws), before.1)
tells ring ((Consumer, Close) ∷ xs) ok = absurd ok.1
tells ring ((Consumer, Acknowledge sender number) ∷ xs) ok =
    let before = tells ring xs ok.0 in (before.0, λ s. ap (λ n. cond (s == sender) number n) (before.1 s))
tells ring ((Consumer, Ask found) ∷ xs) ok = absurd ok.1
tells ring ((Sender s, Look found) ∷ xs) ok = tells ring xs ok.0
tells ring ((Sender s, Won body number) ∷ xs) ok = tells ring xs ok.0
tells ring ((Sender s, Lost body closes found) ∷ xs) ok = tells ring xs ok.0
tells ring ((Sender s, Write offset half) ∷ xs) ok = tells ring xs ok.0
tells ring ((Sender s, Flip offset count) ∷ xs) ok = tells ring xs ok.0
tells ring ((Sender s, Test limit found) ∷ xs) ok = absurd ok.1
tells ring ((Sender s, Read offset half word) ∷ xs) ok = absurd ok.1
tells ring ((Sender s, Advance raws) ∷ xs) ok = absurd ok.1
tells ring ((Sender s, Close) ∷ xs) ok = tells ring xs ok.0
tells ring ((Sender s, Acknowledge sender number) ∷ xs) ok = absurd ok.1
tells ring ((Sender s, Ask found) ∷ xs) ok = tells ring xs ok.0

pub outcomes : EveryRun TellsTheOutcomes
outcomes ring run ok = (tells ring run ok).0

pub numbers : EveryRun TellsTheNumbers
numbers ring run ok = (tells ring run ok).1

pub advanced_is : EveryRun TellsWhatIsAdvanced
advanced_is ring run ok = sym (is_read run).taken ∙ ap raws_taken (outcomes ring run ok) ∙ taken_again (raws_by (trail_of Consumer run))

-- ---- counts of a trail

pub raws_counted : RawsAreCounted
raws_counted [] = refl
raws_counted (Look found ∷ es) = raws_counted es
raws_counted (Won body number ∷ es) = raws_counted es
raws_counted (Lost body closes found ∷ es) = raws_counted es
raws_counted (Write offset half ∷ es) = raws_counted es
raws_counted (Flip offset count ∷ es) = raws_counted es
raws_counted (Test limit found ∷ es) = raws_counted es
raws_counted (Read offset half word ∷ es) = raws_counted es
raws_counted (Advance raws ∷ es) = length-append (raws_by es) raws ∙ ap (λ n. n + length raws) (raws_counted es)
raws_counted (Close ∷ es) = raws_counted es
raws_counted (Acknowledge sender number ∷ es) = raws_counted es
raws_counted (Ask found ∷ es) = raws_counted es

pub syncs_of_raws : SyncsOfRawsAreCounted
syncs_of_raws s [] = refl
syncs_of_raws s (Look found ∷ es) = syncs_of_raws s es
syncs_of_raws s (Won body number ∷ es) = syncs_of_raws s es
syncs_of_raws s (Lost body closes found ∷ es) = syncs_of_raws s es
syncs_of_raws s (Write offset half ∷ es) = syncs_of_raws s es
syncs_of_raws s (Flip offset count ∷ es) = syncs_of_raws s es
syncs_of_raws s (Test limit found ∷ es) = syncs_of_raws s es
syncs_of_raws s (Read offset half word ∷ es) = syncs_of_raws s es
syncs_of_raws s (Advance raws ∷ es) = syncs_append s (raws_by es) raws ∙ ap (λ n. n + syncs_in s raws) (syncs_of_raws s es)
syncs_of_raws s (Close ∷ es) = syncs_of_raws s es
syncs_of_raws s (Acknowledge sender number ∷ es) = syncs_of_raws s es
syncs_of_raws s (Ask found ∷ es) = syncs_of_raws s es

pub head_is : EveryRun TellsTheHead
head_is ring run ok =
    let t : Trail = trail_of Consumer run in ap length (outcomes ring run ok) ∙ length-map (raws_by t) taken_as ∙ raws_counted t

pub took_in_order : TookSyncsInOrder
took_in_order ring senders run only ok = subst (SyncsAreInOrder senders) (advanced_is ring run ok) (come_in_order ring senders run only ok)

-- ---- what is ready and read

pub found_is_ready : EveryRun FoundIsReady
found_is_ready ring run ok offset found =
    let is = sound ring run ok in
    let flipped = is.ready offset found in
    record { flipped = flipped; reserved = is.flipped_below _ flipped }

pub reads_are : EveryRun ReadsAreOfItems
reads_are ring run ok offset half word read =
    let is = (sound ring run ok).reading offset half word read in record { item = is.0; there = is.1; word_is = is.2 }
