-- What a sender's number tells of the hardware.
use Rattle.std.proofs.Common.{◌≡◌, ℕ, zero, suc, ◌+◌, Bool, true, false, List, [], ◌∷◌, ◌++◌, length, map, Some, refl, sym, ap, subst, ◌∙◌, arith, length-append, append_assoc}
use Rattle.std.proofs.lemmas.List.{map-append}
use Rattle.std.specs.Prelude.{slice_get, drop, if◌then◌else◌}
use Rattle.cmdcodec.specs.declared.raw.Raw.{Raw}
use Rattle.cmdcodec.specs.Opcodes.{is_sync}
use Rattle.ringcore.specs.declared.world.event.Event.TheVariants.{Ask}
use Rattle.ringcore.specs.declared.world.event.Outcome.{Outcome}
use Rattle.ringcore.specs.declared.world.event.Outcome.TheVariants.{Applied}
use Rattle.ringcore.specs.declared.world.event.Who.TheVariants.{Sender}
use Rattle.ringcore.specs.world.Trails.{Run, Trail}
use Rattle.ringcore.specs.world.World.{Taken, taken_as, outcome_of, world, sync_raw}
use Rattle.ringcore.specs.world.Allowed.{Ring, IsRun}
use Rattle.ringcore.specs.world.Delivery.{advanced, Begins}
use Rattle.ringcore.specs.world.Laws.{EveryRun, SyncsTellTheirBatch}
use Rattle.ringcore.specs.world.ConsumerLaws.{TellsWhatIsAdvanced, TellsTheOutcomes}
use Rattle.ring.specs.Finishing.{reserved_ahead, WasToldOfSettled, AllToldOfSettled}
use Rattle.hardware_queue.specs.Queues.{QueueValue, plain_sync, IsSyncAt, SyncsComplete}
use Rattle.hardware_queue.specs.Flights.{hardware_form, passed_as, passed_on, HasConsumedAll, NoSyncIsLost}
use Rattle.hardware_queue.specs.Forwarders.{IsCarriedOut, WasToldTruly, WasToldAllTruly}
use Rattle.hardware_queue.proofs.Forwards.{passed_on-append}

-- ---- lists

get_map : (xs : List Raw) (i : ℕ) (x : Raw) → slice_get xs i ≡ Some x → slice_get (map taken_as xs) i ≡ Some (taken_as x)
get_map [] i x at = absurd (cc)
get_map (y ∷ xs) zero x at = ap (λ (r : Raw). Some (taken_as r)) (inner y x at)
  where
    inner : (a b : Raw) → Some a ≡ Some b → a ≡ b
    inner a b is = cc
get_map (y ∷ xs) (suc i) x at = get_map xs i x at

-- what comes behind a beginning, from its first
behind : (xs rest : List Raw) (x : Raw) → slice_get (xs ++ rest) (length xs) ≡ Some x → rest ≡ x ∷ drop 1 rest
behind [] [] x at = absurd (cc)
behind [] (y ∷ rest) x at = let same : y ≡ x = cc in ap (λ (z : Raw). z ∷ rest) same
behind (y ∷ xs) rest x at = behind xs rest x at

at_seam : (xs ys : List Raw) (y : Raw) → slice_get (xs ++ (y ∷ ys)) (length xs) ≡ Some y
at_seam [] ys y = refl
at_seam (x ∷ xs) ys y = at_seam xs ys y

-- ---- a CMD_SYNC behind them was consumed

sync_is_sync : (b : Bool) (x : Raw) → b ≡ true → is_sync (if b then plain_sync else x) ≡ true
sync_is_sync true x e = refl
sync_is_sync false x e = absurd (cc)

same_some_raw : (a b : Raw) → Some a ≡ Some b → a ≡ b
same_some_raw a b is = cc

neither : (b : Bool) → b ≡ true → b ≡ false → ⊥
neither b one other = absurd (cc)

carried_out : (HasEffect : ℕ → Type 0) (q : QueueValue) (first all : List Raw) (sync : Raw) → NoSyncIsLost q → SyncsComplete HasEffect q → HasConsumedAll q (map taken_as all)
    → Begins first all → slice_get all (length first) ≡ Some sync → outcome_of sync ≡ Applied → is_sync sync ≡ true → IsCarriedOut HasEffect q first
carried_out HasEffect q first all sync none completes settled (rest, all_is) at applied is =
    let more : List Raw = drop 1 rest in
    let rest_is : rest ≡ sync ∷ more = behind first rest sync (subst (λ (l : List Raw). slice_get l (length first) ≡ Some sync) all_is at) in
    let p : List Raw = passed_on (map taken_as first) in
    let r : List Raw = passed_on (map taken_as more) in
    let one : passed_on (map taken_as (sync ∷ more)) ≡ hardware_form sync ∷ r = ap (λ (o : Outcome). passed_as o sync ++ r) applied in
    let whole : passed_on (map taken_as all) ≡ p ++ (hardware_form sync ∷ r) =
    ap (λ (l : List Raw). passed_on (map taken_as l)) (all_is ∙ ap (λ (l : List Raw). first ++ l) rest_is)
    ∙ ap passed_on (map-append taken_as first (sync ∷ more))
    ∙ passed_on-append (map taken_as first) (map taken_as (sync ∷ more))
    ∙ ap (λ (l : List Raw). p ++ l) one in
    let shown : q.shown ≡ p ++ (hardware_form sync ∷ (r ++ settled.rest)) =
    settled.shown ∙ ap (λ (l : List Raw). l ++ settled.rest) whole ∙ append_assoc p (hardware_form sync ∷ r) settled.rest in
    let long : length (passed_on (map taken_as all)) ≡ length p + length (hardware_form sync ∷ r) = ap (λ (l : List Raw). length l) whole ∙ length-append p (hardware_form sync ∷ r) in
    let c = settled.consumed in
    let there : slice_get q.shown (length p) ≡ Some (hardware_form sync) = ap (λ (l : List Raw). slice_get l (length p)) shown ∙ at_seam p (r ++ settled.rest) (hardware_form sync) in
    let form : is_sync (hardware_form sync) ≡ true = sync_is_sync (is_sync sync) sync is in
    let here : IsSyncAt q (length p) = record {
      raw = hardware_form sync;
      shown = there;
      sync = form;
      stands = λ lost. let other = none (length p) lost in neither (is_sync (hardware_form sync)) form (ap is_sync (same_some_raw _ _ (sym there ∙ other.shown)) ∙ other.other);
    } in
    record {
      rest = hardware_form sync ∷ (r ++ settled.rest);
      shown = shown;
      sync = here;
      passed = omega (arith, long, c);
      effect = λ position inside unlost answered. completes position (length p) inside (omega (arith, long, c)) here unlost answered;
    }

-- ---- a sender was told

earlier_run : (ring : Ring) (later earlier : Run) → IsRun ring (later ++ earlier) → IsRun ring earlier
earlier_run ring [] earlier is = is
earlier_run ring (x ∷ later) earlier is = earlier_run ring later earlier is.0

same_some : (a b : Taken) → Some a ≡ Some b → a ≡ b
same_some a b is = cc

module _ (words : SyncsTellTheirBatch) (advances : EveryRun TellsWhatIsAdvanced) (outcomes : EveryRun TellsTheOutcomes) (ring : Ring) (run : Run) (settled : List Raw)
    (HasEffect : ℕ → Type 0) (q : QueueValue) (is_a_run : IsRun ring run) (none : NoSyncIsLost q) (consumed : HasConsumedAll q (map taken_as settled)) (completes : SyncsComplete HasEffect q) where
  told_truly : (s told : ℕ) (older : Trail) → WasToldOfSettled settled run s told older → WasToldTruly HasEffect q run s told older
  told_truly s told older was = record {
    was_told = was.was_told;
    carried_out = λ number some most.
        let before = was.was_told in
        let applied = before.applied number some most in
        let first : List Raw = reserved_ahead applied in
        let sync : Raw = sync_raw s number in
        let begins = was.settled_are number some most in
        let whole : settled ≡ first ++ (sync ∷ begins.0) = begins.1 ∙ append_assoc first (sync ∷ []) begins.0 in
        let at : slice_get settled (length first) ≡ Some sync = ap (λ (l : List Raw). slice_get l (length first)) whole ∙ at_seam first begins.0 sync in
        let is_run : IsRun ring before.earlier =
        (earlier_run ring before.later ((Sender s, Ask told) ∷ before.earlier) (subst (IsRun ring) before.run_is is_a_run)).0 in
        let taken_earlier : (world before.earlier).taken ≡ map taken_as (advanced before.earlier) =
        outcomes ring before.earlier is_run ∙ ap (map taken_as) (sym (advances ring before.earlier is_run)) in
        let both : taken_as sync ≡ record { raw = sync; outcome = Applied } =
        same_some (taken_as sync) (record { raw = sync; outcome = Applied }) (sym (get_map (advanced before.earlier) (length first) sync applied.completed.sync)
        ∙ sym (ap (λ (l : List Taken). slice_get l (length first)) taken_earlier) ∙ applied.applied) in
        carried_out HasEffect q first settled sync none completes consumed (sync ∷ begins.0, whole) at (ap (λ (t : Taken). t.outcome) both) ((words s number).opcode);
  }

  pub told_all_truly : (s : ℕ) (mine : Trail) → AllToldOfSettled settled run s mine → WasToldAllTruly HasEffect q run s mine
  told_all_truly s mine was newer older number at = told_truly s number older (was newer older number at)
