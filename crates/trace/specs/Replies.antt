-- The texts that lines are answered with, and what a model should have done.
use Rattle.std.specs.Prelude.{ℕ, List, [], ◌++◌, Option, Some, None, codes, decimal}
use Rattle.caches.specs.Faults.{label_of}
use Rattle.engine.specs.Stops.{label_of as acknowledgement_label}
use Rattle.engine.specs.declared.answer.StepAnswer.TheVariants.{Applied, Replaced}
use Rattle.transactions.specs.declared.walk.WalkFault.{WalkFault}
use Rattle.transactions.specs.declared.walk.WalkFault.TheVariants.{Overtaken, TooOld, OtherUnit, Refused}
use Rattle.replay.specs.texts.Refusals.{refused_text}
use Rattle.replay.specs.texts.UnitLines.{step_text, acknowledged_text}
use Rattle.trace.specs.declared.log_fault.LogFault.{LogFault}
use Rattle.trace.specs.declared.log_fault.LogFault.TheVariants.{Memory, NoWalk, AccessOpen, NoAccess, TooManyAccesses, OtherCommand, Wrong}
use Rattle.trace.specs.declared.reply.Reply.{Reply}
use Rattle.trace.specs.declared.reply.Reply.TheVariants.{Nothing, Walking, Filled, NotFilled, Using, NotHeld, Ended, Step, Waiting, Acknowledged, NotAcknowledged, Right, Unjudged}
use Rattle.trace.specs.declared.request.Conduct.{Conduct}
use Rattle.trace.specs.declared.request.Conduct.TheVariants as did

-- ---- what a model did, or should have done

abbrev pub conduct_text : Conduct → List ℕ
conduct_text did.Filled = codes "filled"
conduct_text did.Overtaken = codes "overtaken"
conduct_text (did.Used value) = codes "used value=" ++ decimal value
conduct_text did.Missed = codes "missed"
conduct_text did.Completed = codes "completed"
conduct_text did.Waited = codes "waited"

-- What a model should have done with a line that was answered so, given the same of the line
-- before: a comment changes nothing. Without it, nothing that the model did can be judged.
abbrev pub right_after : Reply → Option Conduct → Option Conduct
right_after Nothing before = before
right_after Filled before = Some did.Filled
right_after (NotFilled Overtaken) before = Some did.Overtaken
right_after (Using value) before = Some (did.Used value)
right_after NotHeld before = Some did.Missed
right_after (Step (Applied command removed)) before = Some did.Completed
right_after (Step (Replaced ill)) before = Some did.Completed
right_after (Waiting transactions) before = Some did.Waited
right_after other before = None

-- ---- the answer to a line

abbrev pub not_filled_text : WalkFault → List ℕ
not_filled_text Overtaken = codes "overtaken\n"
not_filled_text TooOld = codes "too old\n"
not_filled_text OtherUnit = codes "other unit\n"
not_filled_text (Refused fault) = refused_text (label_of fault)

abbrev pub reply_text : Reply → List ℕ
reply_text Nothing = []
reply_text Walking = codes "walking\n"
reply_text Filled = codes "filled\n"
reply_text (NotFilled fault) = not_filled_text fault
reply_text (Using value) = codes "used value=" ++ decimal value ++ codes "\n"
reply_text NotHeld = codes "not held\n"
reply_text Ended = codes "ended\n"
reply_text (Step answer) = step_text answer
reply_text (Waiting transactions) = codes "waiting " ++ decimal transactions ++ codes "\n"
reply_text Acknowledged = acknowledged_text
reply_text (NotAcknowledged fault) = refused_text (acknowledgement_label fault)
reply_text Right = codes "right\n"
reply_text Unjudged = codes "unjudged\n"

-- ---- a line that ends the run

abbrev pub fault_name : LogFault → List ℕ
fault_name Memory = codes "no memory"
fault_name NoWalk = codes "no walk"
fault_name AccessOpen = codes "access open"
fault_name NoAccess = codes "no access"
fault_name TooManyAccesses = codes "too many accesses"
fault_name OtherCommand = codes "other command"
fault_name (Wrong conduct) = codes "wrong: " ++ conduct_text conduct ++ codes " is right"
