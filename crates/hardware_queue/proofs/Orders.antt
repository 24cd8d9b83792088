-- What the hardware was shown is a beginning of what was reserved, in its order.
use Rattle.std.proofs.Common.{◌≡◌, List, ◌++◌, ap, sym, ◌∙◌}
use Rattle.cmdcodec.specs.declared.raw.Raw.{Raw}
use Rattle.ringcore.specs.declared.world.event.Who.TheVariants.{Consumer}
use Rattle.ringcore.specs.world.Trails.{Run, Trail, raws_by}
use Rattle.ringcore.specs.world.Allowed.{Ring, IsRun}
use Rattle.ringcore.specs.world.Delivery.{advanced, batches, joined, Begins, TakenInOrder}
use Rattle.ringcore.specs.world.Laws.{EveryRun}
use Rattle.ringcore.specs.world.ConsumerLaws.{TellsWhatIsAdvanced}
use Rattle.ring.specs.consumer.Completing.{taken_of}
use Rattle.ring.specs.table.Histories.{IsHistory}
use Rattle.hardware_queue.specs.Queues.{QueueValue}
use Rattle.hardware_queue.specs.Flights.{passed_on, passed_for, IsInOrder}
use Rattle.hardware_queue.proofs.Forwards.{passed_for-append}

-- What was shown is what the hardware gets for all that was taken, which begins what was reserved.
pub in_order_once_taken : (q : QueueValue) (run : Run) (trail : Trail) → q.shown ≡ passed_on (taken_of trail) → Begins (raws_by trail) (joined (batches run)) → IsInOrder q run
in_order_once_taken q run trail shown (rest, is) = (
  passed_for rest,
  ap passed_for is ∙ passed_for-append (raws_by trail) rest ∙ ap (λ (l : List Raw). l ++ passed_for rest) (sym shown),
)

pub in_order : EveryRun TakenInOrder → EveryRun TellsWhatIsAdvanced → (q : QueueValue) (ring : Ring) (run : Run) (trail : Trail) → IsHistory ring Consumer trail run
    → q.shown ≡ passed_on (taken_of trail) → IsInOrder q run
in_order taken advances q ring run trail is shown =
    let is_run : IsRun ring run = is.stands.after.run_is in
    let all : advanced run ≡ raws_by trail = advances ring run is_run ∙ ap raws_by is.stands.trail_is in
    let begins = taken ring run is_run in
    in_order_once_taken q run trail shown (begins.0, begins.1 ∙ ap (λ (l : List Raw). l ++ begins.0) all)
