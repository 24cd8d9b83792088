-- What is so at the end of a tracked engine.
use Rattle.std.proofs.Common.{◌≡◌, true, List, [], ◌∷◌, Some, refl, sym, subst, ◌∙◌, leb-true}
use Rattle.std.specs.Prelude.{slice_get}
use Rattle.std.specs.FinMap as finite
use Rattle.cmdcodec.specs.declared.raw.Raw.{Raw}
use Rattle.cmdcodec.specs.declared.command.Command.TheVariants.{CfgiSte}
use Rattle.cmdcodec.specs.Opcodes.{opcode_named}
use Rattle.ringcore.specs.world.World.{Taken, taken_as, world}
use Rattle.caches.specs.declared.tag.Tag.TheVariants.{Ste}
use Rattle.caches.specs.declared.tag.Entry.{Entry}
use Rattle.ring.specs.Rings.{RingValue}
use Rattle.ring.specs.sender.Senders.{SenderValue}
use Rattle.ring.specs.Finishing.{SummaryValue}
use Rattle.engine.specs.Settled.{IsSettled}
use Rattle.engine.specs.Counting.{taken}
use Rattle.transactions.specs.Tracking.{TrackedValue}
use Rattle.transactions.specs.Told.{WasToldAllFully}
use Rattle.tracked_engine.specs.TrackedEngines.{TrackedEngineValue}
use Rattle.tracked_engine.specs.TrackedEnds.{IsTrackedEnd}

-- CMD_CFGI_STE of stream 5 with Leaf 1
abbrev five : Raw
five = record { lo = 0x500000003; hi = 1 }

-- the entry of stream 5 that was filled before the first command
abbrev old_entry : Entry
old_entry = record { tag = Ste 5; value = 0; born = 0 }

module _ (ring : RingValue) (senders : List SenderValue) (engine : TrackedEngineValue) (summary : SummaryValue) (t : TrackedValue) (end : IsTrackedEnd ring senders engine summary t) where
  -- What is told at the end is told of every sender: of sender 1 too.
  pub end_tells_each_sender : (s : SenderValue) → slice_get senders 1 ≡ Some s → WasToldAllFully end.end_is.run t s
  end_tells_each_sender s at = end.told 1 s at

  -- No entry is held that a command of the run should have removed.
  pub end_holds_nothing_stale : (world end.end_is.run).taken ≡ taken_as five ∷ [] → ¬ (finite.get t.unit.caches.entries (Ste 5) ≡ Some old_entry)
  unfolding opcode_named
  end_holds_nothing_stale taken_is held =
      let settled : IsSettled t.unit.caches.entries (taken_as five ∷ []) = subst (λ (l : List Taken). IsSettled t.unit.caches.entries l) taken_is end.tracked_is.settled in
      (settled (Ste 5) old_entry held).uncovered 0 (taken_as five) refl (leb-true 0 0 refl) (record { applied = refl; command = CfgiSte 5 true; spelled = ((refl, refl, refl), refl); covered = refl })

  pub end_counts_all_that_was_taken : summary.taken ≡ 3 → taken t.unit.counts ≡ 3
  end_counts_all_that_was_taken three = sym end.taken_are ∙ three
