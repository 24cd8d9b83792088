-- A sender that a handle holds with its ring: it is there between two calls.
use Rattle.std.specs.Prelude.{◌≡◌, [], Option, None, Some}
use Rattle.ring.specs.Rings.{RingValue}
use Rattle.ring.specs.sender.Senders.{SenderValue}
use Rattle.engine.specs.Engines.{nobody}

abbrev pub no_sender : SenderValue
no_sender = record { ring = nobody.ring; number = 0; trail = []; history = [] }

abbrev pub sender_in : Option SenderValue → SenderValue
sender_in None = no_sender
sender_in (Some sender) = sender

abbrev pub IsSeated : RingValue → Option SenderValue → Type 0
IsSeated ring None = ⊥
IsSeated ring (Some sender) = sender.ring ≡ ring
