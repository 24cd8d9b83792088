-- A forwarder that a handle holds, as contracts see it.
use Rattle.hardware_queue.specs.Queues.{QueueValue}
use Rattle.hardware_queue.specs.Steps.{ForwarderValue}

-- It has the copy of a queue whose memory and registers are the caller's.
abbrev pub HeldForwarder : Type 0
HeldForwarder = ForwarderValue QueueValue
