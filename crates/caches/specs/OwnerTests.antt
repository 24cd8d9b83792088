-- What is held of a stream, and of a virtual machine.
use Rattle.std.specs.Prelude.{◌==◌, Bool, false}
use Rattle.caches.specs.declared.tag.Tag.{Tag}
use Rattle.caches.specs.declared.tag.Tag.TheVariants.{Ste, Cd, S1, S2, Atc}
use Rattle.caches.specs.declared.tag_owner.OfStream.{OfStream}
use Rattle.caches.specs.declared.tag_owner.OfMachine.{OfMachine}

-- its stream table entry, its context descriptors, and its endpoint's translations of any substream or none
abbrev pub is_of_stream : OfStream → Tag → Bool
is_of_stream stream (Ste sid) = sid == stream.0
is_of_stream stream (Cd sid ssid) = sid == stream.0
is_of_stream stream (Atc sid ssid page span) = sid == stream.0
is_of_stream stream other = false

-- its translations of both stages, for any address space or for all
abbrev pub is_of_machine : OfMachine → Tag → Bool
is_of_machine machine (S1 vmid scope page span) = vmid == machine.0
is_of_machine machine (S2 vmid page span) = vmid == machine.0
is_of_machine machine other = false
