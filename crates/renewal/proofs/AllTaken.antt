-- If nobody took a step since the look, what it found holds at the end.
use Rattle.std.proofs.Common.{◌≡◌, ◌<◌, ◌-◌, ℕ, zero, suc, Bool, cond, List, [], ◌∷◌, ◌++◌, length, Some, refl, sym, ap, ◌∙◌, subst, length-append, eq-eqb, arith}
use Rattle.std.specs.Prelude.{slice_get}
use Rattle.qindex.specs.declared.control.Control.{Control}
use Rattle.qindex.specs.Positions.{IndexValue, index_of}
use Rattle.qindex.specs.Indexes.{IsGeometry, distance}
use Rattle.qindex.specs.Laws.{IndexesTellTheQueue}
use Rattle.ringcore.specs.declared.world.event.Who.{Who}
use Rattle.ringcore.specs.declared.world.event.Who.TheVariants.{Consumer, Sender}
use Rattle.ringcore.specs.world.Trails.{Run, Trail, same, trail_of, taken_by}
use Rattle.ringcore.specs.world.World.{head, tail, world, control}
use Rattle.ringcore.specs.world.Allowed.{Ring, IsRun}
use Rattle.ringcore.specs.world.Laws.{EveryRun, NeverMoreThanFull, AllOfBatches, OnlyOf}
use Rattle.ringcore.specs.world.ConsumerLaws.{TellsTheHead, RawsAreCounted}
use Rattle.ring.specs.Rings.{RingValue}
use Rattle.ring.specs.sender.Senders.{SenderValue}
use Rattle.ring.specs.consumer.Consumers.{ConsumerValue}
use Rattle.ring.specs.Finishing.{SummaryValue, AreAll, IsEnd}
use Rattle.renewal.specs.Queues.{HasInIt}
use Rattle.renewal.proofs.OneMoreMet.{trail-append}

-- ---- what is added to a run

none_of : (t : Trail) → length t ≡ 0 → t ≡ []
none_of [] h = refl
none_of (e ∷ es) h = absurd (omega arith)

only_newer : (senders : ℕ) (newer older : Run) → OnlyOf senders (newer ++ older) → OnlyOf senders newer
only_newer senders [] older only = tt
only_newer senders (x ∷ newer) older only = (only.0, only_newer senders newer older only.1)

-- A participant whose whole trail was in the run already took no step since.
none_since : (who : Who) (trail : Trail) (newer then run : Run) → run ≡ newer ++ then → HasInIt who trail then → trail_of who run ≡ trail → trail_of who newer ≡ []
none_since who trail newer then run run_is had whole =
    let all = ap (λ (r : Run). length (trail_of who r)) run_is ∙ ap length (trail-append who newer then) ∙ length-append (trail_of who newer) (trail_of who then) in
    let part = ap (λ (r : Run). length (trail_of who r)) had.run_is ∙ ap length (trail-append who had.newer had.older) ∙ length-append (trail_of who had.newer) (trail_of who had.older) in
    let before = ap length had.trail_is in
    let now = ap length whole in
    none_of (trail_of who newer) (omega (arith, all, part, before, now))

-- If nobody took one, nothing is new.
nothing_new : (senders : ℕ) (newer : Run) → OnlyOf senders newer → trail_of Consumer newer ≡ [] → ((k : ℕ) → k < senders → trail_of (Sender k) newer ≡ []) → newer ≡ []
nothing_new senders [] only own others = refl
nothing_new senders ((Consumer, e) ∷ newer) only own others = absurd (cc)
nothing_new senders ((Sender k, e) ∷ newer) only own others =
    let its : cond (same (Sender k) (Sender k)) (e ∷ trail_of (Sender k) newer) (trail_of (Sender k) newer) ≡ [] = others k only.0 in
    let first : e ∷ trail_of (Sender k) newer ≡ [] = sym (ap (λ (b : Bool). cond b (e ∷ trail_of (Sender k) newer) (trail_of (Sender k) newer)) (eq-eqb k k refl)) ∙ its in
    absurd (cc)

is_there : (xs : List SenderValue) (k : ℕ) → k < length xs → (s : SenderValue) × (slice_get xs k ≡ Some s)
is_there [] k h = absurd (omega arith)
is_there (x ∷ xs) zero h = (x, refl)
is_there (x ∷ xs) (suc k) h = is_there xs k (omega arith)

-- If prod and cons are equal, all that is reserved is taken.
ends_tell : NeverMoreThanFull → IndexesTellTheQueue → (ring : Ring) (run : Run) → IsRun ring run → IsGeometry ring.geometry
    → (control ring.geometry (world run)).prod.number ≡ (control ring.geometry (world run)).cons.number → head (world run) ≡ tail (world run)
ends_tell within tells ring run ok sized at =
    let w = world run in let g : ℕ = ring.geometry in
    let i = within ring run ok in let behind = i.behind in
    let apart : distance (index_of g (tail w)) (index_of g (head w)) ≡ tail w - head w = (tells g (tail w) (head w) sized i.behind i.within).distance in
    let none : distance (index_of g (head w)) (index_of g (head w)) ≡ head w - head w = (tells g (head w) (head w) sized (omega arith) (omega arith)).distance in
    let one : distance (index_of g (tail w)) (index_of g (head w)) ≡ distance (index_of g (head w)) (index_of g (head w)) =
    ap (λ (n : ℕ). let p : IndexValue = record { geometry = g; number = n } in distance p (index_of g (head w))) at in
    omega (arith, apart, none, one, behind)

-- ---- the end

module _ {D : Type 0} (ring : RingValue) (senders : List SenderValue) (consumer : ConsumerValue D) (end : SummaryValue) (is : IsEnd ring senders consumer end)
    (all : AreAll ring senders) (known : (k : ℕ) (s : SenderValue) → slice_get senders k ≡ Some s → HasInIt (Sender k) s.trail consumer.history) where
  -- The run is still the one that the consumer knew.
  still : is.run ≡ consumer.history
  still =
      let on = is.run_of.known_to_consumer in
      let none : on.newer ≡ [] =
      nothing_new ring.made_with.senders on.newer
      (only_newer ring.made_with.senders on.newer consumer.history (subst (OnlyOf ring.made_with.senders) on.run_is is.run_of.only))
      on.of_others
      (λ k below.
      let s = is_there senders k (let many = all.many in omega (arith, many, below)) in
      none_since (Sender k) s.0.trail on.newer consumer.history is.run on.run_is (known k s.0 s.1) (is.run_of.of_senders k s.0 s.1)) in
      on.run_is ∙ ap (λ (r : Run). r ++ consumer.history) none

  pub all_taken : NeverMoreThanFull → IndexesTellTheQueue → EveryRun AllOfBatches → EveryRun TellsTheHead → RawsAreCounted → IsGeometry ring.made_with.geometry
      → (found : Control) → found ≡ control ring.made_with.geometry (world consumer.history) → found.prod.number ≡ found.cons.number → end.taken ≡ end.reserved
  all_taken within tells all_of heads counted sized found found_is at =
      let now : found ≡ control ring.made_with.geometry (world is.run) = found_is ∙ ap (λ (r : Run). control ring.made_with.geometry (world r)) (sym still) in
      let same_place : (control ring.made_with.geometry (world is.run)).prod.number ≡ (control ring.made_with.geometry (world is.run)).cons.number =
      sym (ap (λ (c : Control). c.prod.number) now) ∙ at ∙ ap (λ (c : Control). c.cons.number) now in
      let whole = ends_tell within tells ring.made_with is.run is.run_of.run_is sized same_place in
      is.taken ∙ counted consumer.trail ∙ ap taken_by (sym is.run_of.of_consumer) ∙ sym (heads ring.made_with is.run is.run_of.run_is) ∙ whole ∙ all_of ring.made_with is.run is.run_of.run_is
      ∙ sym is.reserved
