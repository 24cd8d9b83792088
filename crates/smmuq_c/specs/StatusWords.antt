-- What each status is called.
use Rattle.std.specs.Prelude.{◌≡◌, ℕ, List, codes, Option, Some, None}
use Rattle.cmdcodec.specs.declared.ill.Ill.TheVariants.{UnknownOpcode, SecureStream, ReservedSignal, OversizedSpan}
use Rattle.caches.specs.declared.fault.CacheFault.TheVariants as cache
use Rattle.batch.specs.declared.fault.BatchFault.TheVariants as batch
use Rattle.ring.specs.declared.sender.cause.Cause.TheVariants as cause
use Rattle.ringcore.specs.declared.ring_fault.RingFault.TheVariants as ring
use Rattle.engine.specs.declared.remedy.AckFault.TheVariants.{NoError, OtherBit}
use Rattle.guest_commands.specs.declared.fault.AttachFault.TheVariants as attach
use Rattle.smmuq_c.specs.declared.status.Status.{Status}
use Rattle.smmuq_c.specs.declared.status.Status.TheVariants.{Done, Illegal, Cache, Batch, Refused, Waiting, Ring, Acknowledgement, Attachment, EmptyHandle, WrongHandle, BadField, ShortBuffer, NoMemory, NotHeld, OpenReservation, NoReservation, StillStopped, OtherCommand, Exhausted, RingEmpty, RingDrained, RingUnwritten, Replaced, SyncWaiting, Overtaken, TooOld, OtherWalk, TransactionsFull, NotOutstanding, Unsupported, QueueFull, QueueStopped, QueueBroken, NotIllegal, SyncStays}
use Rattle.smmuq_c.specs.Statuses.{number_of}
use Rattle.smmuq_c.specs.Texts.{IsCopied}

-- its label, if it has one, and what it means
abbrev pub words_of : Status → List ℕ
words_of Done = codes "done"
words_of (Illegal UnknownOpcode) = codes "ILL1: unknown opcode"
words_of (Illegal SecureStream) = codes "ILL2: a Secure stream"
words_of (Illegal ReservedSignal) = codes "ILL3: a reserved completion signal"
words_of (Illegal OversizedSpan) = codes "ILL4: an oversized span"
words_of (Cache cache.Full) = codes "C1: the caches are full"
words_of (Cache cache.BadBlock) = codes "C2: the block isn't well formed"
words_of (Cache cache.NoMemory) = codes "C3: out of memory"
words_of (Cache cache.BadCapacity) = codes "C4: the capacity isn't 1 to 65,536"
words_of (Batch batch.Full) = codes "B1: more than 63 commands"
words_of (Batch batch.SyncInside) = codes "B2: a CMD_SYNC among the commands"
words_of (Batch batch.NoPages) = codes "B3: no page"
words_of (Batch batch.PastEnd) = codes "B4: pages past the last one"
words_of (Batch batch.Empty) = codes "B5: no command"
words_of (Refused cause.Closed) = codes "Q1: the ring is closed"
words_of (Refused cause.Full) = codes "Q2: too little room"
words_of (Refused cause.Contended) = codes "Q3: another changed the ring first"
words_of (Refused cause.TooLong) = codes "Q4: the batch is longer than the ring"
words_of (Refused cause.Exhausted) = codes "Q5: the sender has no batch left"
words_of Waiting = codes "Q6: a command waits to be taken"
words_of (Ring ring.Size) = codes "N1: the ring isn't of 2 to 524,288 slots"
words_of (Ring ring.Senders) = codes "N2: the senders aren't 1 to 256"
words_of (Ring ring.Batches) = codes "N3: a sender may reserve no batch"
words_of (Ring (ring.Memory error)) = codes "N4: out of memory"
words_of (Acknowledgement NoError) = codes "G1: no error is active"
words_of (Acknowledgement OtherBit) = codes "G2: CMDQ_ERR isn't that of SMMU_GERROR"
words_of (Attachment attach.OutOfRange) = codes "V1: the host's SMMU doesn't have this stream"
words_of (Attachment attach.Used) = codes "V2: the host's stream is in use already"
words_of (Attachment attach.Full) = codes "V3: the guest's stream is 63 streams already"
words_of (Attachment attach.NoMemory) = codes "V4: out of memory"
words_of EmptyHandle = codes "the handle is empty"
words_of WrongHandle = codes "the handle is of another kind"
words_of BadField = codes "a field is out of range"
words_of ShortBuffer = codes "the buffer is too short"
words_of NoMemory = codes "out of memory"
words_of NotHeld = codes "no entry has this tag"
words_of OpenReservation = codes "the sender's reservation is open"
words_of NoReservation = codes "the sender has no open reservation"
words_of Unsupported = codes "the SMMU lacks the stage, the granule or ATS"
words_of StillStopped = codes "consumption is stopped"
words_of OtherCommand = codes "another command than the one at which it stopped"
words_of Exhausted = codes "as many commands as may be were taken"
words_of RingEmpty = codes "nothing is reserved"
words_of RingDrained = codes "nothing is reserved, and nothing will be"
words_of RingUnwritten = codes "the command at the head isn't handed over"
words_of Replaced = codes "an illegal command was taken without effect"
words_of SyncWaiting = codes "the CMD_SYNC has to wait for transactions"
words_of Overtaken = codes "a command that covers the tag was taken since the walk began"
words_of TooOld = codes "more than 64 invalidations were taken since the walk began"
words_of OtherWalk = codes "the walk isn't one of this unit since its last reset"
words_of TransactionsFull = codes "as many transactions are outstanding as there is room for"
words_of NotOutstanding = codes "no transaction of this number is outstanding"
words_of QueueFull = codes "as many commands as the hardware's queue has slots are in flight"
words_of QueueStopped = codes "the hardware is stopped by an error"
words_of QueueBroken = codes "no working queue can have these words in its registers"
words_of NotIllegal = codes "the error isn't CERROR_ILL"
words_of SyncStays = codes "a CMD_SYNC isn't replaced"

-- It is the status of this number, or there is none.
abbrev pub IsNumbered : ℕ → Option Status → Type 0
IsNumbered number None = (status : Status) → ¬ (number_of status ≡ number)
IsNumbered number (Some status) = number_of status ≡ number

-- The words of the status of this number are copied; or there is none, and the buffer stays.
abbrev pub HasToldStatus : ℕ → List ℕ → List ℕ → ℕ → Status → Type 0
HasToldStatus number old new told BadField = IsNumbered number None × (new ≡ old)
HasToldStatus number old new told status = (named : Status) × IsNumbered number (Some named) × IsCopied (words_of named) old new told status
