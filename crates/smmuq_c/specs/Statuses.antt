-- The number that C gets of each status.
use Rattle.std.specs.Prelude.{ℕ}
use Rattle.cmdcodec.specs.declared.ill.Ill.{Ill}
use Rattle.cmdcodec.specs.declared.ill.Ill.TheVariants.{UnknownOpcode, SecureStream, ReservedSignal, OversizedSpan}
use Rattle.caches.specs.declared.fault.CacheFault.{CacheFault}
use Rattle.caches.specs.declared.fault.CacheFault.TheVariants as cache
use Rattle.batch.specs.declared.fault.BatchFault.{BatchFault}
use Rattle.batch.specs.declared.fault.BatchFault.TheVariants as batch
use Rattle.ring.specs.declared.sender.cause.Cause.{Cause}
use Rattle.ring.specs.declared.sender.cause.Cause.TheVariants as cause
use Rattle.ringcore.specs.declared.ring_fault.RingFault.{RingFault}
use Rattle.ringcore.specs.declared.ring_fault.RingFault.TheVariants as ring
use Rattle.engine.specs.declared.remedy.AckFault.{AckFault}
use Rattle.engine.specs.declared.remedy.AckFault.TheVariants.{NoError, OtherBit}
use Rattle.guest_commands.specs.declared.fault.AttachFault.{AttachFault}
use Rattle.guest_commands.specs.declared.fault.AttachFault.TheVariants as attach
use Rattle.smmuq_c.specs.declared.status.Status.{Status}
use Rattle.smmuq_c.specs.declared.status.Status.TheVariants.{Done, Illegal, Cache, Batch, Refused, Waiting, Ring, Acknowledgement, Attachment, EmptyHandle, WrongHandle, BadField, ShortBuffer, NoMemory, NotHeld, OpenReservation, NoReservation, StillStopped, OtherCommand, Exhausted, RingEmpty, RingDrained, RingUnwritten, Replaced, SyncWaiting, Overtaken, TooOld, OtherWalk, TransactionsFull, NotOutstanding, Unsupported, QueueFull, QueueStopped, QueueBroken, NotIllegal, SyncStays}

abbrev pub ill_number : Ill → ℕ
ill_number UnknownOpcode = 1
ill_number SecureStream = 2
ill_number ReservedSignal = 3
ill_number OversizedSpan = 4

abbrev pub cache_number : CacheFault → ℕ
cache_number cache.Full = 0x11
cache_number cache.BadBlock = 0x12
cache_number cache.NoMemory = 0x13
cache_number cache.BadCapacity = 0x14

abbrev pub batch_number : BatchFault → ℕ
batch_number batch.Full = 0x21
batch_number batch.SyncInside = 0x22
batch_number batch.NoPages = 0x23
batch_number batch.PastEnd = 0x24
batch_number batch.Empty = 0x25

abbrev pub cause_number : Cause → ℕ
cause_number cause.Closed = 0x31
cause_number cause.Full = 0x32
cause_number cause.Contended = 0x33
cause_number cause.TooLong = 0x34
cause_number cause.Exhausted = 0x35

abbrev pub ring_number : RingFault → ℕ
ring_number ring.Size = 0x41
ring_number ring.Senders = 0x42
ring_number ring.Batches = 0x43
ring_number (ring.Memory error) = 0x44

abbrev pub acknowledgement_number : AckFault → ℕ
acknowledgement_number NoError = 0x51
acknowledgement_number OtherBit = 0x52

abbrev pub attachment_number : AttachFault → ℕ
attachment_number attach.OutOfRange = 0x81
attachment_number attach.Used = 0x82
attachment_number attach.Full = 0x83
attachment_number attach.NoMemory = 0x84

abbrev pub number_of : Status → ℕ
number_of Done = 0
number_of (Illegal ill) = ill_number ill
number_of (Cache fault) = cache_number fault
number_of (Batch fault) = batch_number fault
number_of (Refused cause) = cause_number cause
number_of Waiting = 0x36
number_of (Ring fault) = ring_number fault
number_of (Acknowledgement fault) = acknowledgement_number fault
number_of (Attachment fault) = attachment_number fault
number_of EmptyHandle = 0x60
number_of WrongHandle = 0x61
number_of BadField = 0x62
number_of ShortBuffer = 0x63
number_of NoMemory = 0x64
number_of NotHeld = 0x65
number_of OpenReservation = 0x66
number_of NoReservation = 0x67
number_of Unsupported = 0x68
number_of StillStopped = 0x70
number_of OtherCommand = 0x71
number_of Exhausted = 0x72
number_of RingEmpty = 0x73
number_of RingDrained = 0x74
number_of RingUnwritten = 0x75
number_of Replaced = 0x76
number_of SyncWaiting = 0x77
number_of Overtaken = 0x78
number_of TooOld = 0x79
number_of OtherWalk = 0x7a
number_of TransactionsFull = 0x7b
number_of NotOutstanding = 0x7c
number_of QueueFull = 0x7d
number_of QueueStopped = 0x7e
number_of QueueBroken = 0x7f
number_of NotIllegal = 0x53
number_of SyncStays = 0x54
