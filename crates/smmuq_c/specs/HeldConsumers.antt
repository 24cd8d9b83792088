-- A consumer of the caller's own that a handle holds, as contracts see it.
use Rattle.ring.specs.consumer.Pendings.{PendingValue}
use Rattle.smmuq_c.specs.declared.seated_consumer.CallersDevice.{CallersDevice}

-- The consumer, and the commands that its last look found ready and that are neither completed nor looked for again.
abbrev pub HeldConsumer : Type 0
HeldConsumer = PendingValue CallersDevice
