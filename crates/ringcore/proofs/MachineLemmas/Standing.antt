-- What a machine stands for after an event of a sender.
use Rattle.std.proofs.Common.{◌≡◌, ◌≢◌, ℕ, zero, suc, ◌^◌, ◌<◌, ◌≤◌, false, List, [], ◌∷◌, length, Some, ◌⊎◌, inl, inr, refl, sym, ap, ◌∙◌, subst, arith}
use Rattle.std.proofs.lemmas.Option.{same_Some}
use Rattle.std.proofs.lemmas.Bool.{cases_eq}
use Rattle.std.specs.Prelude.{None, Option, slice_get, slice_set}
use Rattle.std.specs.Option.{SomeIff, IsSome}
use Rattle.qindex.specs.declared.control.Control.{Control}
use Rattle.qindex.specs.ControlWord.{control_in}
use Rattle.qindex.specs.Laws.{QueuesHaveAControl, WordsSayTheirControl}
use Rattle.ringcore.specs.declared.world.event.Who.TheVariants.{Sender}
use Rattle.ringcore.specs.declared.world.event.Event.{Event}
use Rattle.ringcore.specs.declared.world.event.Event.TheVariants.{Look, Won, Lost, Write, Flip, Test, Read, Advance, Close, Acknowledge, Ask}
use Rattle.ringcore.specs.world.Trails.{Trail, Run, trail_of}
use Rattle.ringcore.specs.world.World.{World, tail, world, control}
use Rattle.ringcore.specs.world.Allowed.{Ring, Allowed}
use Rattle.ringcore.specs.world.Laws.{OnlyOf}
use Rattle.ringcore.specs.memory.Layout.{control_word}
use Rattle.ringcore.specs.memory.Shadow.{AreAfter}
use Rattle.ringcore.specs.memory.WordStores.{WordsValue, word_at}
use Rattle.ringcore.specs.machine.SenderViews.{SenderValue, Knows}
use Rattle.ringcore.specs.machine.SyncTallies.{is_advance}
use Rattle.ringcore.specs.machine.Core.{CoreValue, ring_with, ring_of, AllKnow, StandsAfter, IsMachine}
use Rattle.ringcore.proofs.WorldLemmas.Bound.{reserved_bound}
use Rattle.ringcore.proofs.MachineLemmas.ConsumerKnows.{senders_leave}
use Rattle.ringcore.proofs.MachineLemmas.SenderKnows.{others}
use Rattle.ringcore.proofs.WorldLemmas.Sound.{sound}
use Rattle.ringcore.proofs.MemoryLemmas.ControlWord.{found_is}
use Rattle.ringcore.proofs.MachineLemmas.Tallies.{others_dont_count}

-- ---- one view among all

-- what is found after an element was set: that element, or what was there
pub get_set : {A : Type 0} (xs : List A) (i t : ℕ) (y v : A) → slice_get (slice_set xs i y) t ≡ Some v
    → ((t ≡ i) × (y ≡ v)) ⊎ ((t ≢ i) × (slice_get xs t ≡ Some v))
get_set [] i t y v e = absurd (cc)
get_set (x ∷ xs) zero zero y v e = inl (refl, same_Some y v e)
get_set (x ∷ xs) zero (suc t) y v e = inr (λ is. cc, e)
get_set (x ∷ xs) (suc i) zero y v e = inr (λ is. cc, e)
get_set (x ∷ xs) (suc i) (suc t) y v e = elim (get_set xs i t y v e) [
  | inl same ↦ inl (ap suc same.0, same.1)
  | inr other ↦ inr (λ is. other.0 cc, other.1)
]

-- Only the sender whose event it was changes its view.
pub all_know : (run : Run) (s : ℕ) (e : Event) (views : List SenderValue) (view : SenderValue) → AllKnow run views → Knows ((Sender s, e) ∷ run) s view
    → AllKnow ((Sender s, e) ∷ run) (slice_set views s view)
all_know run s e views view all own t v at = elim (get_set views s t view v at) [
  | inl same ↦ subst (λ n. Knows ((Sender s, e) ∷ run) n v) (sym same.0) (subst (Knows ((Sender s, e) ∷ run) s) same.1 own)
  | inr other ↦ others run t v (Sender s) e (λ is. other.0 (one_sender is)) (all t v other.1)
]
  where
    one_sender : Sender s ≡ Sender t → t ≡ s
    one_sender is = cc

-- An event that leaves its sender's view leaves all.
pub all_left : (run : Run) (s : ℕ) (e : Event) (views : List SenderValue) → ((view : SenderValue) → Knows run s view → Knows ((Sender s, e) ∷ run) s view)
    → AllKnow run views → AllKnow ((Sender s, e) ∷ run) views
all_left run s e views own all t view at = elim (cases_eq s t) [
  | inl is ↦ subst (λ n. Knows ((Sender s, e) ∷ run) n view) is (own view (subst (λ n. Knows run n view) (sym is) (all t view at)))
  | inr not ↦ others run t view (Sender s) e (λ is. not (one_sender is)) (all t view at)
]
  where
    one_sender : Sender s ≡ Sender t → s ≡ t
    one_sender is = cc

-- ---- an event of a sender

not_advance : (ring : Ring) (w : World) (mine : Trail) (s : ℕ) (e : Event) → Allowed ring w mine (Sender s) e → is_advance e ≡ false
not_advance ring w mine s (Look found) a = refl
not_advance ring w mine s (Won body number) a = refl
not_advance ring w mine s (Lost body closes found) a = refl
not_advance ring w mine s (Write offset half) a = refl
not_advance ring w mine s (Flip offset count) a = refl
not_advance ring w mine s (Test limit found) a = refl
not_advance ring w mine s (Read offset half word) a = refl
not_advance ring w mine s (Advance raws) a = absurd a
not_advance ring w mine s Close a = refl
not_advance ring w mine s (Acknowledge sender number) a = refl
not_advance ring w mine s (Ask found) a = refl

-- The consumer and the tallies stay as they are.
pub sender_stands : (old : CoreValue) (run : Run) (s : ℕ) (e : Event) → StandsAfter old run → s < old.words.senders
    → (words : WordsValue) → ring_with words.geometry words.senders ≡ ring_of old → AreAfter (ring_of old) ((Sender s, e) ∷ run) words.words
    → (views : List SenderValue) → AllKnow ((Sender s, e) ∷ run) views
    → StandsAfter (record { words = words; senders = views; consumer = old.consumer; tallies = old.tallies }) ((Sender s, e) ∷ run)
sender_stands old run s e stands low words ring are views know =
    let allowed = are.run_is.1 in record {
      words_are = subst (λ r. AreAfter r ((Sender s, e) ∷ run) words.words) (sym ring) are;
      only = subst (λ r. OnlyOf r.senders ((Sender s, e) ∷ run)) (sym ring) (low, stands.only);
      senders_know = know;
      consumer_knows = senders_leave (ring_of old) run s old.consumer e allowed stands.consumer_knows;
      tallies_are = others_dont_count run (Sender s) e old.tallies (not_advance (ring_of old) (world run) (trail_of (Sender s) run) s e allowed) stands.tallies_are;
    }

-- A machine stays one if it stands for a longer run.
pub stays_machine : (old new : CoreValue) → IsMachine old → ring_of new ≡ ring_of old
    → length new.senders ≡ length old.senders → length new.tallies ≡ length old.tallies
    → (run : Run) → StandsAfter new run → IsMachine new
stays_machine old new is ring views counts run stands = record {
  few = subst (λ r. r.senders ≤ 256) (sym ring) is.few;
  views = views ∙ is.views ∙ sym (ap (λ r. r.senders) ring);
  counts = counts ∙ is.counts ∙ sym (ap (λ r. r.senders) ring);
  run = run;
  stands = stands;
}

-- Few enough commands are reserved that their positions fit a word.
pub few_reserved : (core : CoreValue) → IsMachine core → (run : Run) → StandsAfter core run → tail (world run) ≤ 2 ^ 46
few_reserved core is run stands =
    let bound = reserved_bound (ring_of core) core.words.senders run stands.only stands.words_are.run_is in
    let few = is.few in omega (arith, bound, few)

-- ---- what the control word says

pub is_there : {A : Type 0} (o : Option A) (P : Type 0) (v : A) → SomeIff o P v → P → IsSome o
is_there None P v iff p = absurd (iff p)
is_there (Some x) P v iff p = refl

pub that_there : {A : Type 0} (o : Option A) (P : Type 0) (v x : A) → SomeIff o P v → o ≡ Some x → x ≡ v
that_there None P v x iff e = absurd (cc)
that_there (Some y) P v x iff e = same_Some x y (sym e) ∙ iff.1

-- What the control word says after a run is what a look finds then.
pub control_found : WordsSayTheirControl → QueuesHaveAControl → (core : CoreValue) (run : Run) (found : Control) → StandsAfter core run
    → found ≡ control_in core.words.geometry (word_at core.words control_word) → found ≡ control core.words.geometry (world run)
control_found said queue core run found stands is = is ∙ found_is (ring_of core) run core.words.words stands.words_are said queue

-- So a sender's last reservation starts at a position that fits too.
pub start_fits : (core : CoreValue) → IsMachine core → (run : Run) → StandsAfter core run → (s : ℕ) → (world run).start s ≤ 2 ^ 46
start_fits core is run stands s =
    let within = (sound (ring_of core) run stands.words_are.run_is).each_within s in
    let few = few_reserved core is run stands in omega (arith, within, few)
