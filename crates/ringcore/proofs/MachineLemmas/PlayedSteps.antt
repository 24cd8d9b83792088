-- How far a machine has come that plays a list of steps.
use Rattle.std.proofs.Common.{◌≡◌, ℕ, zero, suc, ◌+◌, ◌<◌, List, [], ◌∷◌, ◌++◌, Some, None, ◌⊎◌, inl, inr, length, drop, refl, sym, ap, ◌∙◌, subst, arith}
use Rattle.std.proofs.lemmas.Option.{same_Some}
use Rattle.std.proofs.lemmas.List.{drop_more, get_or-replicate, get_or_past, length-replicate}
use Rattle.std.proofs.lemmas.Bool.{cases_lt}
use Rattle.std.specs.Prelude.{replicate, slice_get, slice_index, slice_index_or}
use Rattle.ringcore.specs.declared.machine.step.Step.{Step}
use Rattle.ringcore.specs.declared.machine.step.Seen.{Seen}
use Rattle.ringcore.specs.declared.machine.step_fault.StepFault.{StepFault}
use Rattle.ringcore.specs.world.Trails.{Run}
use Rattle.ringcore.specs.world.World.{world}
use Rattle.qindex.specs.Indexes.{IsGeometry}
use Rattle.ringcore.specs.memory.Layout.{words_of}
use Rattle.ringcore.specs.world.Delivery.{TakenInOrder, NumberedInOrder, NoneAfterClose, ToldWhenCompleted, IsOrderedDelivery}
use Rattle.ringcore.specs.world.Laws.{EveryRun}
use Rattle.ringcore.specs.world.Allowed.{Ring}
use Rattle.ringcore.specs.memory.Shadow.{AreAfter}
use Rattle.ringcore.specs.memory.StepLaws.{OpensAllZero}
use Rattle.ringcore.specs.memory.WordStores.{WordsValue}
use Rattle.ringcore.specs.machine.ConsumerViews.{ConsumerKnows}
use Rattle.ringcore.specs.machine.SyncTallies.{AreTallies}
use Rattle.ringcore.specs.machine.Faults.{fault_of}
use Rattle.ringcore.specs.machine.StepAnswers.{event_of, seen_of}
use Rattle.ringcore.specs.machine.Played.{Played, played_from, played, unless_refused, with_answer}
use Rattle.ringcore.specs.machine.SenderViews.{SenderValue, Knows}
use Rattle.ringcore.specs.machine.Core.{CoreValue, ring_with, ring_of, AllKnow, StandsAfter, IsTaken, IsRefused}

-- This many steps were taken, none refused, and the rest is played from there on.
pub record HasReached (ring : Ring) (steps : List Step) (core : CoreValue) (place : ℕ) : Type 0 where
  pub ring_is : ring_of core ≡ ring
  pub run : Run
  pub stands : StandsAfter core run
  pub same_run : (played_from ring run place (drop place steps)).run ≡ (played ring steps).run
  pub same_refused : (played_from ring run place (drop place steps)).refused ≡ (played ring steps).refused

module _ (ring : Ring) (steps : List Step) (core : CoreValue) (place : ℕ) (reached : HasReached ring steps core place)
    (inside : place < length steps) (step : Step) (at : step ≡ slice_index_or steps place step) where
  abbrev rest : List Step
  rest = drop (place + 1) steps

  left : drop place steps ≡ step ∷ rest
  left = drop_more steps place step inside ∙ ap (λ x. x ∷ rest) (sym at)

  abbrev run : Run
  run = reached.run

  -- what is played of this step and those after it, by whether it is refused
  abbrev later : Played
  later = with_answer (seen_of ring (world run) (event_of ring run step).0 (event_of ring run step).1) (played_from ring (event_of ring run step ∷ run) (suc place) rest)

  next : suc place ≡ place + 1
  next = omega arith

  pub reaches_further : (new : CoreValue) (seen : Seen) → IsTaken core new step seen → ring_of new ≡ ring_of core → HasReached ring steps new (place + 1)
  reaches_further new seen taken same =
      let takes = taken run reached.stands in
      let none : fault_of ring run step ≡ None = ap (λ r. fault_of r run step) (sym reached.ring_is) ∙ takes.no_fault in
      let went : played_from ring run place (drop place steps) ≡ later = ap (played_from ring run place) left ∙ ap (λ f. unless_refused f run place later) none in record {
        ring_is = same ∙ reached.ring_is;
        run = event_of ring run step ∷ run;
        stands = subst (λ r. StandsAfter new (event_of r run step ∷ run)) reached.ring_is takes.stands;
        same_run = ap (λ n. (played_from ring (event_of ring run step ∷ run) n rest).run) (sym next) ∙ sym (ap (λ (p : Played). p.run) went) ∙ reached.same_run;
        same_refused = ap (λ n. (played_from ring (event_of ring run step ∷ run) n rest).refused) (sym next) ∙ sym (ap (λ (p : Played). p.refused) went) ∙ reached.same_refused;
      }

  pub record IsAtFault (fault : StepFault) : Type 0 where
    pub stands : StandsAfter core (played ring steps).run
    pub refused : Some (place, fault) ≡ (played ring steps).refused

  pub stops_there : (fault : StepFault) → IsRefused core step fault → IsAtFault fault
  stops_there fault refused =
      let some : fault_of ring run step ≡ Some fault = ap (λ r. fault_of r run step) (sym reached.ring_is) ∙ refused run reached.stands in
      let went : played_from ring run place (drop place steps) ≡ unless_refused (Some fault) run place later =
      ap (played_from ring run place) left ∙ ap (λ f. unless_refused f run place later) some in record {
        stands = subst (StandsAfter core) (sym (ap (λ (p : Played). p.run) went) ∙ reached.same_run) reached.stands;
        refused = sym (ap (λ (p : Played). p.refused) went) ∙ reached.same_refused;
      }

pub record IsAtEnd (ring : Ring) (steps : List Step) (core : CoreValue) : Type 0 where
  pub stands : StandsAfter core (played ring steps).run
  pub refused : None ≡ (played ring steps).refused

pub ends : (ring : Ring) (steps : List Step) (core : CoreValue) (place : ℕ) → HasReached ring steps core place → drop place steps ≡ [] → IsAtEnd ring steps core
ends ring steps core place reached none = record {
  stands = subst (StandsAfter core) (sym (ap (λ l. (played_from ring reached.run place l).run) none) ∙ reached.same_run) reached.stands;
  refused = sym (ap (λ l. (played_from ring reached.run place l).refused) none) ∙ reached.same_refused;
}

-- ---- the views of a new machine

get_last : {A : Type 0} (xs : List A) (y v : A) (i : ℕ) → slice_get (xs ++ y ∷ []) i ≡ Some v → (slice_get xs i ≡ Some v) ⊎ (y ≡ v)
get_last [] y v zero e = inr (same_Some y v e)
get_last [] y v (suc i) e = inl e
get_last (x ∷ xs) y v zero e = inl e
get_last (x ∷ xs) y v (suc i) e = get_last xs y v i e

pub one_more_knows : (views : List SenderValue) (view : SenderValue) → AllKnow [] views → ((s : ℕ) → Knows [] s view) → AllKnow [] (views ++ view ∷ [])
one_more_knows views view all knows s v at = elim (get_last views view v s at) [
  | inl old ↦ all s v old
  | inr last ↦ subst (Knows [] s) last (knows s)
]

-- ---- a new machine

zeros : (n i : ℕ) → slice_index (replicate n 0) i ≡ 0
zeros n i = elim (cases_lt i n) [
  | inl low ↦ get_or-replicate n i 0 0 low
  | inr high ↦ let many = length-replicate {A = ℕ} n 0 in get_or_past (replicate n 0) i 0 (omega (arith, high, many))
]

-- All its words are 0, and its seats know nothing.
pub opened : OpensAllZero → (core : CoreValue) (g n : ℕ) → IsGeometry g
    → core.words ≡ record { geometry = g; senders = n; words = replicate (words_of g n) 0 }
    → AllKnow [] core.senders → ConsumerKnows [] core.consumer → AreTallies [] core.tallies
    → (ring_of core ≡ ring_with g n) × StandsAfter core []
opened law core g n is_geometry words know consumer tallies =
    let ring : ring_of core ≡ ring_with g n = ap (λ (w : WordsValue). ring_with w.geometry w.senders) words in (
      ring,
      record {
        words_are = subst (λ (w : WordsValue). AreAfter (ring_with w.geometry w.senders) [] w.words) (sym words)
            (law (ring_with g n) (replicate (words_of g n) 0) is_geometry refl (length-replicate (words_of g n) 0) (zeros (words_of g n)));
        only = tt;
        senders_know = know;
        consumer_knows = consumer;
        tallies_are = tallies;
      },
    )

-- ---- ordered delivery of what was played

pub delivered : EveryRun TakenInOrder → EveryRun NumberedInOrder → EveryRun NoneAfterClose → EveryRun ToldWhenCompleted
    → (core : CoreValue) (run : Run) → StandsAfter core run → IsOrderedDelivery run
delivered taken numbered closed told core run stands =
    let ok = stands.words_are.run_is in
    let ring = ring_of core in record {
      taken = taken ring run ok;
      numbered = numbered ring run ok;
      closed = closed ring run ok;
      told = told ring run ok;
    }
