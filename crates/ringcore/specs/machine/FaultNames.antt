-- The labels of the faults of a step.
use Rattle.std.specs.Prelude.{ℕ, List, codes}
use Rattle.ringcore.specs.declared.machine.step_fault.StepFault.{StepFault}
use Rattle.ringcore.specs.declared.machine.step_fault.StepFault.TheVariants.{AnotherSenders, NotReserved, Flipped, HalfMissing, NotTheHead, NotSeenReady, NotNext, NoSuchPlace, NoRoom, NotSettled, BadBody}

abbrev pub label_of : StepFault → List ℕ
label_of AnotherSenders = codes "F1"
label_of NotReserved = codes "F2"
label_of Flipped = codes "F3"
label_of HalfMissing = codes "F4"
label_of NotTheHead = codes "F5"
label_of NotSeenReady = codes "F6"
label_of NotNext = codes "F7"
label_of NoSuchPlace = codes "F8"
label_of NoRoom = codes "F9"
label_of NotSettled = codes "F10"
label_of BadBody = codes "F11"
