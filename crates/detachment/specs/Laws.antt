-- What the commands of both lists cover and are together, and how a sender goes on.
use Rattle.std.specs.Prelude.{◌≡◌, ◌↔◌, ◌==◌, true, List, ◌++◌, Any}
use Rattle.cmdcodec.specs.declared.command.Command.{Command}
use Rattle.batch.specs.Detaching.{detach_commands}
use Rattle.caches.specs.declared.tag.Tag.{Tag}
use Rattle.caches.specs.Covers.{covers, of_streams, endpoints}
use Rattle.caches.specs.Laws.{IsInRange}
use Rattle.ring.specs.sender.Senders.{SenderValue}
use Rattle.ring.specs.sender.GoingOn.{WentOn}
use Rattle.detachment.specs.Commands.{Stream, configuration_commands, endpoint_commands}

-- One of the commands covers the tag.
abbrev pub IsCovered : List Command → Tag → Type 0
IsCovered commands tag = Any (λ command. covers command tag ≡ true) commands

-- The commands for the configuration cover exactly the stream table entry and the context descriptors of the
-- stream, with stage 1 or without.
abbrev pub ConfigurationIsCovered : Type 0
ConfigurationIsCovered =
    (stream : Stream) (tag : Tag) → IsCovered (configuration_commands stream) tag ↔ (of_streams (λ sid. sid == stream.sid) tag ≡ true)

-- Those for the endpoint cover exactly what it caches, of any page, for any substream and for none.
abbrev pub EndpointIsCovered : Type 0
EndpointIsCovered =
    (stream : Stream) (tag : Tag) → IsInRange tag
    → IsCovered (endpoint_commands stream) tag ↔ (endpoints (λ sid substream pages. sid == stream.sid) tag ≡ true)

-- With stage 1 both lists one behind the other are the commands of a batch that detaches the stream at once.
abbrev pub BothDetach : Type 0
BothDetach =
    (stream : Stream) → stream.smmu.stage_1 ≡ true → detach_commands stream.sid ≡ configuration_commands stream ++ endpoint_commands stream

-- A sender that did nothing has gone on, and so has one that went on and went on again: whatever it does between
-- two steps of a stream.
abbrev pub NothingIsGoingOn : Type 0
NothingIsGoingOn = (s : SenderValue) → WentOn s s

abbrev pub GoingOnAddsUp : Type 0
GoingOnAddsUp = (s t u : SenderValue) → WentOn s t → WentOn t u → WentOn s u
