-- What the joined seat shows.
use Rattle.std.proofs.Common.{◌≡◌, ℕ, zero, suc, ◌+◌, ◌-◌, ◌*◌, ◌<◌, ◌≤◌, List, [], ◌∷◌, ◌++◌, append-nil, map, length, length-append, Option, Some, None, refl, sym, ap, ◌∙◌, subst, append_assoc, arith}
use Rattle.std.specs.Prelude.{slice_get, slice_index, SomeIff}
use Rattle.std.specs.Option.{IsSome}
use Rattle.std.proofs.lemmas.List.{nil_from_length}
use Rattle.std.proofs.lemmas.Nat.{mul-le}
use mathlib.Core.Option.{some, some-injective, some-ne-none}
use lib.ListN.{get_elem?}
use Rattle.ring.specs.table.{Final, Seen, Participant, participant, WentOn, IsIn, HasTrails, RuleHolds}
use Rattle.ring.specs.Runs.{Raw, Control, Consumer, Sender, Run, trail_of, raws_by, taken_by, tail, head, world, control, Ring, IsRun, Begins, TakenInOrder, NumberedInOrder, NoneAfterClose}
use Rattle.ring.specs.Runs.{ToldWhenCompleted, batches, joined, advanced, EveryRun, NeverMoreThanFull, ToldOfAllUpTo, AllOfBatches, ClosedByAClose, BatchesHaveOwners, SendersOrderIsKept, own_batches}
use Rattle.ring.specs.Runs.{TellsTheHead, TellsWhatIsAdvanced, TellsTheOutcomes, RawsAreCounted, SawDrained, DrainedIsTheEnd}
use Rattle.qindex.specs.Indexes.{distance}
use Rattle.qindex.specs.ControlWord.{IsControl, IsControlWord, control_in}
use Rattle.qindex.specs.Laws.{QueuesHaveAControl, IndexesTellTheQueue, WordsSayTheirControl}
use Rattle.ringcore.specs.memory.StepLaws.{Always, HasAControlWord}
use Rattle.ring.specs.Rings.{RingValue}
use Rattle.ring.specs.sender.{SenderValue}
use Rattle.ring.specs.consumer.{ConsumerValue, taken_of}
use Rattle.ring.specs.Finishing.{AreAll, sender_in, all_in, IsRunOf, IsEnd}
use Rattle.progress.specs.Contention.{all_losses, changes, ChangesAreFew, AllLossesArePaidFor}
use Rattle.ring.proofs.Lists.{at_end}
use Rattle.ring.proofs.FinishLemmas.Told.{was_told}

pub is_there : {A : Type 0} (o : Option A) (P : Type 0) (v : A) → SomeIff o P v → P → IsSome o
is_there None P v iff p = absurd (iff p)
is_there (Some x) P v iff p = refl

pub that_there : {A : Type 0} (o : Option A) (P : Type 0) (v x : A) → SomeIff o P v → o ≡ Some x → x ≡ v
that_there None P v x iff e = absurd (cc)
that_there (Some y) P v x iff e = (let same : y ≡ x = cc in sym same) ∙ iff.1

-- A beginning that is as long as the whole is the whole.
beginning_is_whole : {A : Type 0} (xs ys : List A) → Begins xs ys → length xs ≡ length ys → xs ≡ ys
beginning_is_whole xs ys (rest, is) same =
    let none : rest ≡ [] = nil_from_length rest (omega (arith, same, ap length is ∙ length-append xs rest)) in sym (is ∙ ap (λ l. xs ++ l) none ∙ append-nil xs)

-- ---- the seats, one after the other

pub last_ring : (ring : RingValue) (all items new done : List SenderValue) (s : SenderValue) → AreAll ring all → all ≡ items ++ done → items ≡ new ++ s ∷ [] → s.ring ≡ ring
last_ring ring all items new done s ok whole last =
    (ok.each (length new) s (ap (λ (l : List SenderValue). slice_get l (length new)) (whole ∙ ap (λ (l : List SenderValue). l ++ done) last ∙ append_assoc new (s ∷ []) done) ∙ at_end new s done)).0

-- what the run has of the k-th of the senders
its_trail : (ring : Ring) (run : Run) (all : List SenderValue) (rest : List Participant) (k : ℕ) (s : SenderValue) → slice_get all k ≡ Some s → HasTrails ring run (map sender_in all ++ rest) → IsIn ring run (sender_in s)
its_trail ring run [] rest k s at has = absurd (cc)
its_trail ring run (x ∷ xs) rest zero s at has = let e : x ≡ s = cc in subst (λ (y : SenderValue). IsIn ring run (sender_in y)) e has.0
its_trail ring run (x ∷ xs) rest (suc k) s at has = its_trail ring run xs rest k s at has.1

rest_trails : (ring : Ring) (run : Run) (all : List SenderValue) (rest : List Participant) → HasTrails ring run (map sender_in all ++ rest) → HasTrails ring run rest
rest_trails ring run [] rest has = has
rest_trails ring run (x ∷ xs) rest has = rest_trails ring run xs rest has.1

first_is : (l : List ℕ) (x : ℕ) → get_elem? l 0 ≡ some x → slice_index l 0 ≡ x
first_is [] x e = absurd (some-ne-none x (sym e))
first_is (y ∷ l) x e = some-injective y x e

-- ---- once the table is closed

module _ {D : Type 0} (ring : RingValue) (senders : List SenderValue) (consumer : ConsumerValue D) (id : ℕ) (v : List Participant) (ws : List ℕ) (ss : List (Unit {0}))
    (closed : Final (Seen (RuleHolds ring.made_with) id v) ws ss) (v_is : v ≡ all_in ring.made_with consumer.trail consumer.history senders) (all : AreAll ring senders) where
  abbrev key : Ring
  key = ring.made_with

  abbrev k : RuleHolds key closed.0
  k = closed.1.0

  abbrev run : Run
  run = k.run

  ok : IsRun key run
  ok = k.after.run_is

  has : HasTrails key run (all_in key consumer.trail consumer.history senders)
  has = subst (HasTrails key run) v_is (k.seated id v closed.1.1).1

  device : HasTrails key run (participant key Consumer consumer.trail consumer.history ∷ [])
  device = rest_trails key run senders (participant key Consumer consumer.trail consumer.history ∷ []) has

  word_at : (word : ℕ) → get_elem? ws 0 ≡ some word → slice_index closed.0.words 0 ≡ word
  word_at word at = ap (λ (l : List ℕ). slice_index l 0) closed.2 ∙ first_is ws word at

  pub is_control_word : Always HasAControlWord → (word : ℕ) → get_elem? ws 0 ≡ some word → IsControlWord key.geometry word
  is_control_word law word at = subst (IsControlWord key.geometry) (word_at word at) (law key run closed.0.words k.after)

  run_of : IsRunOf ring senders consumer run
  run_of = record {
    run_is = ok;
    only = k.only;
    of_senders = λ j s there. ap (λ (x : ℕ). trail_of (Sender x) run) (sym (all.each j s there).1) ∙ (its_trail key run senders (participant key Consumer consumer.trail consumer.history ∷ []) j s there has).trail;
    of_consumer = device.0.trail;
    known_to_senders = λ j s there. subst (λ (x : ℕ). WentOn (Sender x) s.history run) (all.each j s there).1 (its_trail key run senders (participant key Consumer consumer.trail consumer.history ∷ []) j s there has).went_on;
    known_to_consumer = device.0.went_on;
  }

  pub end_is : EveryRun TakenInOrder → EveryRun NumberedInOrder → EveryRun NoneAfterClose → EveryRun ToldWhenCompleted → NeverMoreThanFull → EveryRun ToldOfAllUpTo
      → EveryRun SendersOrderIsKept → EveryRun AllOfBatches → EveryRun ClosedByAClose → BatchesHaveOwners
      → EveryRun TellsTheHead → EveryRun TellsWhatIsAdvanced → EveryRun TellsTheOutcomes → RawsAreCounted → DrainedIsTheEnd
      → WordsSayTheirControl → QueuesHaveAControl → IndexesTellTheQueue → ChangesAreFew → AllLossesArePaidFor
      → (word taken far : ℕ) (c : Control) → get_elem? ws 0 ≡ some word → c ≡ control_in key.geometry word → taken ≡ taken_by consumer.trail → far ≡ distance c.prod c.cons
      → IsEnd ring senders consumer record { reserved = taken + far; taken = taken; closed = c.closed }
  end_is in_order numbered none_after told within told_of_all kept all_of closed_by owners tells_head tells_raws tells_outcomes counted the_end said queue tells few paid word taken far c at c_is taken_is far_is =
      let w = world run in let g : ℕ = key.geometry in
      let i = within key run ok in
      let good : IsControl g (control g w) = queue g (tail w) (head w) w.closed k.after.geometry_is i.behind i.within in
      let same : c ≡ control g w = c_is ∙ ap (control_in g) (sym (word_at word at) ∙ k.after.shadow.control_is) ∙ (said g (control g w) good).says in
      let d : far ≡ tail w - head w = far_is ∙ ap (λ (x : Control). distance x.prod x.cons) same ∙ (tells g (tail w) (head w) k.after.geometry_is i.behind i.within).distance in
      let h : head w ≡ taken = tells_head key run ok ∙ ap taken_by device.0.trail ∙ sym taken_is in
      let t : tail w ≡ length (joined (batches run)) = all_of key run ok in
      let behind = i.behind in
      let raws : advanced run ≡ raws_by consumer.trail = tells_raws key run ok ∙ ap raws_by device.0.trail in
      let begins : Begins (raws_by consumer.trail) (joined (batches run)) = subst (λ (l : List Raw). Begins l (joined (batches run))) raws (in_order key run ok) in
      let reserved_is : taken + far ≡ length (joined (batches run)) = omega (arith, d, h, t, behind) in
      let many : taken ≡ length (raws_by consumer.trail) = taken_is ∙ sym (counted consumer.trail) in
      record {
        run = run;
        run_of = run_of;
        delivery = record { taken = in_order key run ok; numbered = numbered key run ok; closed = none_after key run ok; told = told key run ok };
        merge = record {
          each = λ j s there. kept key run ok j ∙ ap (own_batches j) (run_of.of_senders j s there);
          only = λ j b there. subst (λ (n : ℕ). b.sender < n) (sym all.many) (owners key.senders run k.only j b there);
        };
        taken_in_order = begins;
        taken_list = tells_outcomes key run ok ∙ ap taken_of device.0.trail;
        told = λ j s there newer older number at. was_told run j (told_of_all key run ok) newer older number (run_of.of_senders j s there ∙ at);
        reserved = reserved_is;
        taken = many;
        closed = ap (λ (x : Control). x.closed) same ∙ closed_by key run ok;
        drained = λ saw.
            let all_taken = the_end key run k.after.geometry_is ok (subst SawDrained (sym device.0.trail) saw) in
            let agree : head w ≡ tail w = all_taken.whole in
            (ap (λ (x : Control). x.closed) same ∙ all_taken.closed, omega (arith, agree, h, t, reserved_is));
        lost =
            let each : all_losses run ≤ key.senders * changes run = paid key key.senders run k.only ok in
            let all_changes : changes run ≤ taken + far + taken + 1 = (let n = few key run ok in omega (arith, n, t, h, reserved_is)) in
            let many : key.senders * changes run ≤ key.senders * (taken + far + taken + 1) = mul-le _ _ _ _ (omega arith) all_changes in
            subst (λ (n : ℕ). all_losses run ≤ n * (taken + far + taken + 1)) (sym all.many) (omega (arith, each, many));
        whole = λ agree. beginning_is_whole (raws_by consumer.trail) (joined (batches run)) begins (sym many ∙ agree ∙ reserved_is);
      }
