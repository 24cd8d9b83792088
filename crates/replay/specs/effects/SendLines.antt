-- What the lines that send do.
use Rattle.std.specs.Prelude.{ℕ, List, [], map, Result, Ok, Err, if◌then◌else◌}
use Rattle.cmdcodec.specs.declared.raw.Raw.{Raw}
use Rattle.cmdcodec.specs.Words.{encoding}
use Rattle.batch.specs.declared.fault.BatchFault.{BatchFault}
use Rattle.batch.specs.Faults.{label_of}
use Rattle.batch.specs.Refusals.{unless, list_refusal, range_refusal}
use Rattle.batch.specs.Ranges.{range_commands}
use Rattle.batch.specs.Detaching.{detach_commands}
use Rattle.ring.specs.declared.sender.cause.Cause.{Cause}
use Rattle.ring.specs.FaultNames.{cause_label}
use Rattle.script.specs.Effects.{Effect, answers}
use Rattle.simulator.specs.declared.queue.reserved.Reserved.{Reserved}
use Rattle.simulator.specs.State.{State, Answered}
use Rattle.simulator.specs.Seats.{reserved, published_by}
use Rattle.replay.specs.declared.request.Content.{Content}
use Rattle.replay.specs.declared.request.Content.TheVariants.{Commands, Range, Detach}
use Rattle.replay.specs.declared.request.Sending.{Sending}
use Rattle.replay.specs.texts.Refusals.{refused_text}
use Rattle.replay.specs.texts.SendLines.{sent_text, opened_text}
use Rattle.replay.specs.effects.Answering.{tells}
use Rattle.replay.specs.effects.SenderFaults.{settled_fault, unless_fault}

-- the commands of a batch, or why they are refused
abbrev pub body_of : Content → Result (List Raw) BatchFault
body_of (Commands raws) = unless (list_refusal raws) raws
body_of (Range vmid asid page pages) = unless (range_refusal [] vmid asid page pages) (map encoding (range_commands vmid asid page pages))
body_of (Detach sid) = Ok (map encoding (detach_commands sid))

-- What was reserved is published, if the line says so.
abbrev pub reserved_effect : Sending → Reserved → State → Effect State
reserved_effect sending told state =
    if sending.publishes then tells (sent_text sending.sender) (published_by sending.sender state)
    else answers (opened_text sending.sender told.number told.first.number) state

-- A refusal leaves a look behind, if one was taken.
abbrev pub tried_effect : Sending → Result Reserved Cause → State → Effect State
tried_effect sending (Ok told) state = reserved_effect sending told state
tried_effect sending (Err cause) state = answers (refused_text (cause_label cause)) state

abbrev pub after_try : Sending → Answered (Result Reserved Cause) → Effect State
after_try sending tried = tried_effect sending tried.answer tried.state

abbrev pub body_effect : Sending → Result (List Raw) BatchFault → State → Effect State
body_effect sending (Ok body) state = after_try sending (reserved sending.sender body sending.closes state)
body_effect sending (Err fault) state = answers (refused_text (label_of fault)) state

abbrev pub send_effect : ℕ → Sending → State → Effect State
send_effect number sending state = unless_fault number (settled_fault sending.sender state) state (body_effect sending (body_of sending.content) state)
