-- Names for what clauses say of runs, from the crates below: the words of a command and of the queue,
-- participants and their events, trails, runs and worlds, which runs are allowed, and what every run keeps.
pub use Rattle.cmdcodec.specs.declared.raw.Raw.{Raw}
pub use Rattle.qindex.specs.declared.control.Control.{Control}
pub use Rattle.ringcore.specs.declared.world.event.Who.{Who}
pub use Rattle.ringcore.specs.declared.world.event.Who.TheVariants.{Consumer, Sender}
pub use Rattle.ringcore.specs.declared.world.event.Half.{Half}
pub use Rattle.ringcore.specs.declared.world.event.Half.TheVariants.{Lo, Hi}
pub use Rattle.ringcore.specs.declared.world.event.Outcome.{Outcome}
pub use Rattle.ringcore.specs.declared.world.event.Outcome.TheVariants.{Applied, Replaced}
pub use Rattle.ringcore.specs.declared.world.event.Event.{Event}
pub use Rattle.ringcore.specs.declared.world.event.Event.TheVariants.{Look, Won, Lost, Write, Flip, Test, Read, Advance, Close, Acknowledge, Ask}
pub use Rattle.ringcore.specs.world.Trails.{Trail, Run, same, same_half, trail_of, looked, batches_made, numbers_given, batch_length, reserved_length}
pub use Rattle.ringcore.specs.world.Trails.{is_among, has_written, has_flipped, IsSettled, prod_of, start_index, found_ready, half_read, head_read}
pub use Rattle.ringcore.specs.world.Trails.{raws_by, taken_by, acknowledged_by}
pub use Rattle.ringcore.specs.world.World.{Item, sync_raw, commands, outcome_of, Taken, taken_as, World, tail, head, world, control, half_of}
pub use Rattle.ringcore.specs.world.Allowed.{Ring, ShareAWord, IsRunLength, IsNextNumber, MayTry, MayWin, length_with, MayLose, MayWrite, MayFlip}
pub use Rattle.ringcore.specs.world.Allowed.{FindsReady, MayRead, MayAdvance, SyncIsTaken, Allowed, IsRun}
pub use Rattle.ringcore.specs.world.Delivery.{Batch, batches, joined, advanced, has_close, Begins, TakenInOrder, NumberedInOrder, NoneAfterClose}
pub use Rattle.ringcore.specs.world.Delivery.{ToldWhenCompleted, IsOrderedDelivery}
pub use Rattle.ringcore.specs.world.Laws.{EveryRun, NeverMoreThanFull, AcknowledgedAreTaken, IsApplied, ToldOfAllUpTo}
pub use Rattle.ringcore.specs.world.Laws.{AllOfBatches, ClosedByAClose, batches_of, own_batches, SendersOrderIsKept, IsOne, OnlyOf, BatchesHaveOwners}
pub use Rattle.ringcore.specs.world.Laws.{ListsAreShort, is_sync_to, syncs_in, SyncsTellTheirBatch, syncs_taken, SyncsAddUp, SyncsAreCounted}
pub use Rattle.ringcore.specs.world.Laws.{NumbersAreFew, IsNextSync, SyncsAreInOrder}
pub use Rattle.ringcore.specs.world.ConsumerLaws.{TellsTheHead, TellsTheNumbers, TellsWhatIsAdvanced, TellsTheOutcomes, RawsAreCounted}
pub use Rattle.ringcore.specs.world.ConsumerLaws.{SyncsOfRawsAreCounted, TookSyncsInOrder, IsReadyAt, FoundIsReady, IsSteady, ConsumerIsSteady}
pub use Rattle.ringcore.specs.world.ConsumerLaws.{SawDrained, DrainedIsTheEnd}
