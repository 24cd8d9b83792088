use Rattle.std.proofs.Common.{arith}
use Rattle.cmdcodec.specs.declared.ill.Ill.TheVariants.{UnknownOpcode, SecureStream, ReservedSignal, OversizedSpan}
use Rattle.caches.specs.declared.fault.CacheFault.TheVariants as cache
use Rattle.batch.specs.declared.fault.BatchFault.TheVariants as batch
use Rattle.ring.specs.declared.sender.cause.Cause.TheVariants as cause
use Rattle.ringcore.specs.declared.ring_fault.RingFault.TheVariants as ring
use Rattle.engine.specs.declared.remedy.AckFault.TheVariants.{NoError, OtherBit}
use Rattle.guest_commands.specs.declared.fault.AttachFault.TheVariants as attach
use Rattle.smmuq_c.specs.declared.status.Status.TheVariants.{Done, Illegal, Cache, Batch, Refused, Waiting, Ring, Acknowledgement, Attachment, EmptyHandle, WrongHandle, BadField, ShortBuffer, NoMemory, NotHeld, OpenReservation, NoReservation, StillStopped, OtherCommand, Exhausted, RingEmpty, RingDrained, RingUnwritten, Replaced, SyncWaiting, Overtaken, TooOld, OtherWalk, TransactionsFull, NotOutstanding, Unsupported, QueueFull, QueueStopped, QueueBroken, NotIllegal, SyncStays}
use Rattle.smmuq_c.proofs.status_words.numbered.Goals as goal

pub returns-in_default : goal.returns-in_default
returns-in_default c Done is = omega arith
returns-in_default c (Illegal UnknownOpcode) is = omega arith
returns-in_default c (Illegal SecureStream) is = omega arith
returns-in_default c (Illegal ReservedSignal) is = omega arith
returns-in_default c (Illegal OversizedSpan) is = omega arith
returns-in_default c (Cache cache.Full) is = omega arith
returns-in_default c (Cache cache.BadBlock) is = omega arith
returns-in_default c (Cache cache.NoMemory) is = omega arith
returns-in_default c (Cache cache.BadCapacity) is = omega arith
returns-in_default c (Batch batch.Full) is = omega arith
returns-in_default c (Batch batch.SyncInside) is = omega arith
returns-in_default c (Batch batch.NoPages) is = omega arith
returns-in_default c (Batch batch.PastEnd) is = omega arith
returns-in_default c (Batch batch.Empty) is = omega arith
returns-in_default c (Refused cause.Closed) is = omega arith
returns-in_default c (Refused cause.Full) is = omega arith
returns-in_default c (Refused cause.Contended) is = omega arith
returns-in_default c (Refused cause.TooLong) is = omega arith
returns-in_default c (Refused cause.Exhausted) is = omega arith
returns-in_default c Waiting is = omega arith
returns-in_default c (Ring ring.Size) is = omega arith
returns-in_default c (Ring ring.Senders) is = omega arith
returns-in_default c (Ring ring.Batches) is = omega arith
returns-in_default c (Ring (ring.Memory error)) is = omega arith
returns-in_default c (Acknowledgement NoError) is = omega arith
returns-in_default c (Acknowledgement OtherBit) is = omega arith
returns-in_default c (Attachment attach.OutOfRange) is = omega arith
returns-in_default c (Attachment attach.Used) is = omega arith
returns-in_default c (Attachment attach.Full) is = omega arith
returns-in_default c (Attachment attach.NoMemory) is = omega arith
returns-in_default c EmptyHandle is = omega arith
returns-in_default c WrongHandle is = omega arith
returns-in_default c BadField is = omega arith
returns-in_default c ShortBuffer is = omega arith
returns-in_default c NoMemory is = omega arith
returns-in_default c NotHeld is = omega arith
returns-in_default c OpenReservation is = omega arith
returns-in_default c NoReservation is = omega arith
returns-in_default c Unsupported is = omega arith
returns-in_default c StillStopped is = omega arith
returns-in_default c OtherCommand is = omega arith
returns-in_default c Exhausted is = omega arith
returns-in_default c RingEmpty is = omega arith
returns-in_default c RingDrained is = omega arith
returns-in_default c RingUnwritten is = omega arith
returns-in_default c Replaced is = omega arith
returns-in_default c SyncWaiting is = omega arith
returns-in_default c Overtaken is = omega arith
returns-in_default c TooOld is = omega arith
returns-in_default c OtherWalk is = omega arith
returns-in_default c TransactionsFull is = omega arith
returns-in_default c NotOutstanding is = omega arith
returns-in_default c QueueFull is = omega arith
returns-in_default c QueueStopped is = omega arith
returns-in_default c QueueBroken is = omega arith
returns-in_default c NotIllegal is = omega arith
returns-in_default c SyncStays is = omega arith
