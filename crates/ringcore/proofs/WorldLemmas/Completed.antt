-- A sender is told a number only after all up to its closing sync was taken.
use Rattle.std.proofs.Common.{◌≡◌, ℕ, ◌+◌, ◌<◌, List, [], ◌∷◌, ◌++◌, length, Some, sym, ap, ap₂, ◌∙◌, subst, arith, append_assoc}
use Rattle.std.proofs.lemmas.List.{length-map}
use Rattle.std.specs.Prelude.{slice_get}
use Rattle.cmdcodec.specs.declared.raw.Raw.{Raw}
use Rattle.ringcore.specs.declared.world.event.Who.TheVariants.{Sender}
use Rattle.ringcore.specs.declared.world.event.Event.TheVariants.{Won, Ask}
use Rattle.ringcore.specs.world.Trails.{Run}
use Rattle.ringcore.specs.world.World.{Item, Taken, sync_raw, head, world}
use Rattle.ringcore.specs.world.Allowed.{Ring, SyncIsTaken, IsRun}
use Rattle.ringcore.specs.world.Delivery.{Batch, batches, joined, advanced, Begins, TakenInOrder, NoneAfterClose, IsCompleted, ToldWhenCompleted}
use Rattle.ringcore.specs.world.Laws.{BatchesAreUnbroken}
use Rattle.ringcore.proofs.WorldLemmas.Lists.{get_longer, get_behind, get_begun, begins_shorter}
use Rattle.ringcore.proofs.WorldLemmas.Reading.{batch_items, all_items, all_items_append, joined_append, length_of_all, is_read, reserved_raws}
use Rattle.ringcore.proofs.WorldLemmas.Numbering.{is_kept}
use Rattle.ringcore.proofs.WorldLemmas.Syncs.{sync_opcode, batch_of_sync}
use Rattle.ringcore.proofs.WorldLemmas.Sound.{sound}
use Rattle.ringcore.proofs.WorldLemmas.Acknowledged.{acknowledged}

-- ---- closed

pub earlier_run : (ring : Ring) (later earlier : Run) → IsRun ring (later ++ earlier) → IsRun ring earlier
earlier_run ring [] earlier ok = ok
earlier_run ring (x ∷ later) earlier ok = earlier_run ring later earlier ok.0

pub none_after_close : (ring : Ring) (run : Run) → IsRun ring run → NoneAfterClose run
none_after_close ring run ok later earlier s body number is =
    let won = earlier_run ring later ((Sender s, Won body number) ∷ earlier) (subst (IsRun ring) is ok) in sym (is_read earlier).closed ∙ won.1.unclosed

-- ---- taken

pub taken_in_order : (ring : Ring) (run : Run) → IsRun ring run → TakenInOrder run
taken_in_order ring run ok =
    let d = (sound ring run ok).delivered in
    (d.0, sym (reserved_raws run) ∙ d.1 ∙ ap (λ l. l ++ d.0) (is_read run).taken)

-- ---- completed

-- What is taken of batches in which this one comes after these, if more is taken than all before its sync.
completed : (run : Run) (s number : ℕ) (body : List Raw) (ahead behind : List Batch) → Begins (advanced run) (joined (batches run))
    → batches run ≡ ahead ++ record { sender = s; number = Some number; body = body } ∷ behind
    → length (joined ahead ++ body) < length (advanced run) → IsCompleted run s number
completed run s number body ahead behind taken is less =
    let b : Batch = record { sender = s; number = Some number; body = body } in
    let raw = sync_raw s number in
    let front = joined ahead ++ body in
    let whole : joined (batches run) ≡ front ++ (raw ∷ joined behind) =
    ap joined is ∙ joined_append ahead (b ∷ behind)
    ∙ ap (λ l. joined ahead ++ l) (append_assoc body (raw ∷ []) (joined behind))
    ∙ sym (append_assoc (joined ahead) body (raw ∷ joined behind)) in
    let at : slice_get (front ++ (raw ∷ joined behind)) (length front) ≡ Some raw =
    ap (slice_get (front ++ (raw ∷ joined behind))) (let z : length front ≡ length front + 0 = omega arith in z) ∙ get_behind front (raw ∷ joined behind) 0 in
    record {
      ahead = ahead;
      body = body;
      behind = behind;
      reserved = is;
      sync = sym (get_begun (advanced run) (joined (batches run)) taken (length front) less) ∙ ap (λ l. slice_get l (length front)) whole ∙ at;
      all_ahead = begins_shorter front (advanced run) (joined (batches run)) (raw ∷ joined behind, whole) taken (omega (arith, less));
    }

-- A sync below the head is that of a batch.
pub of_taken : (ring : Ring) (run : Run) → IsRun ring run → (s number : ℕ) → SyncIsTaken (world run) s number → IsCompleted run s number
of_taken ring run ok s number t =
    let read = is_read run in
    let item : Item = record { sender = s; number = Some number; place = t.place; raw = sync_raw s number } in
    let at = ap (λ l. slice_get l t.position) (sym read.reserved) ∙ t.there in
    let r = batch_of_sync (batches run) (is_kept ring run ok).bodies t.position item at (sync_opcode s number) in
    let b : r.batch ≡ record { sender = s; number = Some number; body = r.batch.body } = (λ j. record { sender = sym r.sender_is j; number = sym r.number_is j; body = r.batch.body }) in
    let below = t.below in
    let many : length (advanced run) ≡ head (world run) = sym (ap length read.taken) ∙ length-map (world run).taken (λ (x : Taken). x.raw) in
    let position = r.position_is in
    completed run s number r.batch.body r.ahead r.behind (taken_in_order ring run ok)
    (r.whole ∙ ap (λ (x : Batch). r.ahead ++ x ∷ r.behind) b)
    (omega (arith, below, many, position))

pub told : (ring : Ring) (run : Run) → IsRun ring run → ToldWhenCompleted run
told ring run ok later earlier s number is some =
    let ask = earlier_run ring later ((Sender s, Ask number) ∷ earlier) (subst (IsRun ring) is ok) in
    let found = ask.1 in
    of_taken ring earlier ask.0 s number (acknowledged ring earlier ask.0 s number some (omega (arith, found)))

-- ---- batches

pub unbroken : (run : Run) → BatchesAreUnbroken run
unbroken run ahead behind b is place item at =
    let whole : (world run).reserved ≡ all_items ahead ++ (batch_items b ++ all_items behind) =
    (is_read run).reserved ∙ ap all_items is ∙ all_items_append ahead (b ∷ behind) in
    let start : length (joined ahead) + place ≡ length (all_items ahead) + place = ap (λ n. n + place) (sym (length_of_all ahead)) in
    ap₂ slice_get whole start
    ∙ get_behind (all_items ahead) (batch_items b ++ all_items behind) place
    ∙ get_longer (batch_items b) (all_items behind) place item at
