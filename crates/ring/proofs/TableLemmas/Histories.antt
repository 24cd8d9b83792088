-- What a seat knows of the run.
use Rattle.std.proofs.Common.{◌≡◌, ℕ, ◌≤◌, ap, ◌∙◌, subst, arith, zero, suc, List, ◌+◌, ◌<◌, ◌^◌}
use Rattle.ring.specs.table.{TableId, Holding, ring_of, who_of, trail_of_first, history_of_first, IsAlone, Stands, port_of, PortValue}
use Rattle.ring.specs.Runs.{Who, Consumer, Trail, Run, raws_by, taken_by, found_ready, World, head, tail, world, Ring, EveryRun, ListsAreShort, SyncsAreInOrder, TellsTheHead, IsReadyAt, FoundIsReady}
use Rattle.ring.specs.Runs.{TookSyncsInOrder, IsSteady, ConsumerIsSteady}
use Rattle.ring.specs.consumer.{KnowsItsSteps}

-- ---- the consumer's steps, by the laws of every run

module _ (short : ListsAreShort) (tells : EveryRun TellsTheHead) (finds : EveryRun FoundIsReady) (order : TookSyncsInOrder) (steady : ConsumerIsSteady) where
  within : (found : ℕ) (w : World) → tail w ≤ 2 ^ 46 → head w ≤ 2 ^ 46 → ((offset : ℕ) → offset < found → IsReadyAt w offset) → head w + found ≤ 2 ^ 46
  within zero w reserved taken ready = omega (arith, taken)
  within (suc k) w reserved taken ready = let last = (ready k (omega arith)).reserved in omega (arith, reserved, last)

  knows_in_a_run : (ring : Ring) (trail : Trail) (run : Run) (words : List ℕ) → Stands ring Consumer trail run words → KnowsItsSteps ring trail
  knows_in_a_run ring trail run words now =
      let ok = now.after.run_is in
      let few = short ring run now.limits.senders now.limits.batches now.only ok in
      let h : head (world run) ≡ taken_by trail = tells ring run ok ∙ ap taken_by now.trail_is in
      let ready = subst (λ (t : Trail). (offset : ℕ) → offset < found_ready t → IsReadyAt (world run) offset) now.trail_is (finds ring run ok) in record {
        few = subst (λ (n : ℕ). n ≤ 2 ^ 46) h few.taken;
        with_ready = subst (λ (n : ℕ). n + found_ready trail ≤ 2 ^ 46) h (within (found_ready trail) (world run) few.reserved few.taken ready);
        order = subst (λ (t : Trail). SyncsAreInOrder ring.senders (raws_by t)) now.trail_is (order ring ring.senders run now.only ok);
        steady = subst IsSteady now.trail_is (steady ring run now.after.geometry_is ok);
      }

  -- as its port has it
  pub knows_its_steps : (table : TableId) (me : Holding) (p : PortValue) → port_of table me ≡ p → IsAlone me (who_of me.0) → p.who ≡ Consumer → KnowsItsSteps p.ring.made_with p.trail
  knows_its_steps table me p is alone who = subst (λ (q : PortValue). q.who ≡ Consumer → KnowsItsSteps q.ring.made_with q.trail) is
      (λ w. knows_in_a_run (ring_of me.0) (trail_of_first me.0) (history_of_first me.0) alone.words
      (subst (λ (u : Who). Stands (ring_of me.0) u (trail_of_first me.0) (history_of_first me.0) alone.words) w alone.stands)) who
