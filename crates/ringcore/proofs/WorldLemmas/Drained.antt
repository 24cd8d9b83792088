-- If the consumer saw the ring closed and empty, all that is reserved is taken.
use Rattle.std.proofs.Common.{◌≡◌, ℕ, ◌<◌, ◌≤◌, [], ◌∷◌, map, length-append, refl, subst, arith, ⊎_elim}
use Rattle.qindex.specs.declared.control.Control.{Control}
use Rattle.qindex.specs.Indexes.{IsGeometry}
use Rattle.qindex.specs.Laws.{IndexesTellTheQueue}
use Rattle.ringcore.specs.declared.world.event.Who.TheVariants.{Consumer, Sender}
use Rattle.ringcore.specs.declared.world.event.Event.TheVariants.{Look, Won, Lost, Write, Flip, Test, Read, Advance, Close, Acknowledge, Ask}
use Rattle.ringcore.specs.world.Trails.{Run, trail_of}
use Rattle.ringcore.specs.world.World.{taken_as, tail, head, world, control}
use Rattle.ringcore.specs.world.Allowed.{Ring, IsRun}
use Rattle.ringcore.specs.world.ConsumerLaws.{IsDrained, SawDrained, IsAllTaken}
use Rattle.ringcore.proofs.WorldLemmas.SteadyHead.{indexes_differ}
use Rattle.ringcore.proofs.WorldLemmas.Sound.{sound}

by_order : (h t : ℕ) → h ≤ t → ¬ (h < t) → h ≡ t
by_order h t behind never = omega (arith, behind, never)

module _ (queue : IndexesTellTheQueue) (ring : Ring) (is_geometry : IsGeometry ring.geometry) where
  found_drained : (run : Run) (c : Control) → IsRun ring run → c ≡ control ring.geometry (world run) → IsDrained c → IsAllTaken (world run)
  found_drained run c ok is drained =
      let here : IsDrained (control ring.geometry (world run)) = subst IsDrained is drained in
      let s = sound ring run ok in
      record {
        closed = here.0;
        whole = by_order (head (world run)) (tail (world run)) s.behind
            (λ some. indexes_differ queue ring.geometry (world run) is_geometry some s.within here.1);
      }

  pub drained : (run : Run) → IsRun ring run → SawDrained (trail_of Consumer run) → IsAllTaken (world run)
  drained [] ok saw = absurd saw
  drained ((Consumer, Look c) ∷ xs) ok saw =
      ⊎_elim
      (λ (here : IsDrained c). found_drained xs c ok.0 ok.1 here)
      (λ (old : SawDrained (trail_of Consumer xs)). drained xs ok.0 old)
      saw
  drained ((Consumer, Won body number) ∷ xs) ok saw = absurd ok.1
  drained ((Consumer, Lost body closes found) ∷ xs) ok saw = absurd ok.1
  drained ((Consumer, Write offset half) ∷ xs) ok saw = absurd ok.1
  drained ((Consumer, Flip offset count) ∷ xs) ok saw = absurd ok.1
  drained ((Consumer, Test limit found) ∷ xs) ok saw = drained xs ok.0 saw
  drained ((Consumer, Read offset half word) ∷ xs) ok saw = drained xs ok.0 saw
  drained ((Consumer, Advance raws) ∷ xs) ok saw =
      let old = drained xs ok.0 saw in
      let now = (sound ring ((Consumer, Advance raws) ∷ xs) ok).behind in
      let more = length-append (world xs).taken (map taken_as raws) in
      let whole = old.whole in
      record { closed = old.closed; whole = omega (arith, whole, now, more) }
  drained ((Consumer, Close) ∷ xs) ok saw = absurd ok.1
  drained ((Consumer, Acknowledge sender number) ∷ xs) ok saw = let old = drained xs ok.0 saw in record { closed = old.closed; whole = old.whole }
  drained ((Consumer, Ask found) ∷ xs) ok saw = absurd ok.1
  drained ((Sender s, Look found) ∷ xs) ok saw = drained xs ok.0 saw
  drained ((Sender s, Won body number) ∷ xs) ok saw = let closed = (drained xs ok.0 saw).closed in let unclosed = ok.1.unclosed in absurd (cc)
  drained ((Sender s, Lost body closes found) ∷ xs) ok saw = drained xs ok.0 saw
  drained ((Sender s, Write offset half) ∷ xs) ok saw = let old = drained xs ok.0 saw in record { closed = old.closed; whole = old.whole }
  drained ((Sender s, Flip offset count) ∷ xs) ok saw = let old = drained xs ok.0 saw in record { closed = old.closed; whole = old.whole }
  drained ((Sender s, Test limit found) ∷ xs) ok saw = absurd ok.1
  drained ((Sender s, Read offset half word) ∷ xs) ok saw = absurd ok.1
  drained ((Sender s, Advance raws) ∷ xs) ok saw = absurd ok.1
  drained ((Sender s, Close) ∷ xs) ok saw = let old = drained xs ok.0 saw in record { closed = refl; whole = old.whole }
  drained ((Sender s, Acknowledge sender number) ∷ xs) ok saw = absurd ok.1
  drained ((Sender s, Ask found) ∷ xs) ok saw = drained xs ok.0 saw
