-- What was reserved before a closing sync that a sender was told of.
use Rattle.std.proofs.Common.{◌≡◌, ◌≤◌, ◌<◌, ℕ, true, List, length, map, Some, sym, ap, subst, ◌∙◌, arith}
use Rattle.std.specs.Prelude.{slice_get, ◌==◌}
use Rattle.std.proofs.lemmas.Option.{slice_get_within}
use Rattle.cmdcodec.specs.declared.raw.Raw.{Raw}
use Rattle.cmdcodec.specs.Opcodes.{is_sync, opcode_of}
use Rattle.cmdcodec.specs.Words.{encoding}
use Rattle.ringcore.specs.declared.world.event.Outcome.TheVariants.{Applied}
use Rattle.ringcore.specs.declared.world.event.Who.TheVariants.{Consumer}
use Rattle.ringcore.specs.world.Trails.{Run, Trail}
use Rattle.ringcore.specs.world.World.{Taken, taken_as, sync_raw, world}
use Rattle.ringcore.specs.world.Allowed.{Ring}
use Rattle.ringcore.specs.world.Delivery.{advanced, Begins}
use Rattle.ringcore.specs.world.Laws.{EveryRun, IsApplied}
use Rattle.ringcore.specs.world.ConsumerLaws.{TellsTheOutcomes}
use Rattle.ring.specs.Finishing.{WasTold, WasToldAll}
use Rattle.ring.specs.sender.Senders.{SenderValue}
use Rattle.ring.specs.table.Histories.{IsHistory}
use Rattle.ring.specs.consumer.Completing.{taken_of}
use Rattle.engine.specs.Ends.{reserved_ahead, WasToldTruly}
use Rattle.engine.proofs.Advanced.{begun_at, taken_at, legal_is_applied, world_taken}
use Rattle.engine.proofs.Ending.{begins_now, taken_is, told_truly}
use Rattle.transactions.specs.Tracking.{TrackedValue, IsTracked}
use Rattle.transactions.specs.Told.{NoOutstandingIsOlder, WasToldFully, WasToldAllFully}

-- A closing sync is a CMD_SYNC.
sync_is_sync : (s number : ℕ) → is_sync (sync_raw s number) ≡ true
unfolding encoding
sync_is_sync s number = let opcode : opcode_of (sync_raw s number) ≡ 0x46 = omega arith in ap (λ n. n == 0x46) opcode

-- The closing sync is taken at the place behind all that was reserved before it.
pub none_outstanding : (t : TrackedValue) (list : List Taken) (all : List Raw) → IsTracked t list → list ≡ map taken_as all
    → (earlier : Run) (s number : ℕ) (applied : IsApplied earlier s number) → Begins (advanced earlier) all → (world earlier).taken ≡ map taken_as (advanced earlier)
    → NoOutstandingIsOlder t.outstanding (reserved_ahead applied)
none_outstanding t list all is list_is earlier s number applied up_to_now outcomes slot outstanding there_is place raw command at legal spelled covered =
    sooner place outstanding.born (λ from. is.on_time slot outstanding there_is (record {
      place = place;
      taken = taken_as raw;
      at = in_list place raw (begun_at first (advanced earlier) applied.completed.all_ahead place raw at);
      since = from;
      concerned = record { applied = legal_is_applied raw legal; command = command; spelled = spelled; concerned = covered };
      later = length first;
      sync = taken_as (sync_raw s number);
      at_later = in_list (length first) (sync_raw s number) applied.completed.sync;
      after = slice_get_within first place raw at;
      applied = ap (λ (u : Taken). u.outcome) (inner (taken_as (sync_raw s number)) (record { raw = sync_raw s number; outcome = Applied })
          (sym (taken_at (advanced earlier) (length first) (sync_raw s number) applied.completed.sync) ∙ sym (ap (λ (l : List Taken). slice_get l (length first)) outcomes) ∙ applied.applied));
      is_sync = sync_is_sync s number;
    }))
  where
    first : List Raw
    first = reserved_ahead applied

    sooner : (a b : ℕ) → ¬ (b ≤ a) → a < b
    sooner a b never = omega (arith, never)

    inner : (a b : Taken) → Some a ≡ Some b → a ≡ b
    inner a b is = cc

    in_list : (i : ℕ) (x : Raw) → slice_get (advanced earlier) i ≡ Some x → slice_get list i ≡ Some (taken_as x)
    in_list i x there = ap (λ (l : List Taken). slice_get l i) list_is ∙ taken_at all i x (begun_at (advanced earlier) all up_to_now i x there)

-- Whatever was told in a run that has taken what the unit is tracked for was true.
pub told_number_fully : (run : Run) (t : TrackedValue) → IsTracked t (world run).taken → (s told : ℕ) (older : Trail) → WasTold run s told older → WasToldFully run t s told older
told_number_fully run t tracked s told older was =
    let truly : WasToldTruly run t.unit.caches.entries s told older = told_truly run t.unit.caches.entries tracked.settled s told older was in
    let at = truly.was_told in
    record {
      truly = truly;
      none_outstanding = λ number some most.
          none_outstanding t (world run).taken (advanced run) tracked (world_taken run) at.earlier s number (at.applied number some most) (begins_now run s told older at) (world_taken at.earlier);
    }

-- While the ring runs: a run that has the consumer's steps.
pub told_fully : EveryRun TellsTheOutcomes → (ring : Ring) (run : Run) (trail : Trail) (t : TrackedValue) → IsHistory ring Consumer trail run → IsTracked t (taken_of trail)
    → (sender : SenderValue) → WasToldAll run sender.number sender.trail → WasToldAllFully run t sender
told_fully outcomes ring run trail t is tracked sender was newer older told at =
    told_number_fully run t (subst (IsTracked t) (sym (taken_is outcomes ring run trail is)) tracked) sender.number told older (was newer older told at)
