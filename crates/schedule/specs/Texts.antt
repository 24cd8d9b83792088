-- The texts that the steps of a schedule are answered with.
use Rattle.std.specs.Prelude.{ℕ, zero, suc, ◌/◌, ◌%◌, List, [], ◌++◌, Bool, false, Option, Some, None, codes, decimal, if◌then◌else◌}
use Rattle.std.specs.Fmt.{digits}
use Rattle.qindex.specs.declared.control.Control.{Control}
use Rattle.ringcore.specs.declared.machine.step.Step.{Step}
use Rattle.ringcore.specs.declared.machine.step.Step.TheVariants as steps
use Rattle.ringcore.specs.declared.machine.step.Seen.{Seen}
use Rattle.ringcore.specs.declared.machine.step.Seen.TheVariants.{Word, Reserved, Lost, Written, Flipped, Ready, Half, Acknowledged, Done}

-- `PROD CONS open` or `PROD CONS closed`
abbrev pub control_text : Control → List ℕ
control_text control =
    decimal control.prod.number ++ codes " " ++ decimal control.cons.number ++ (if control.closed then codes " closed" else codes " open")

-- `count` flags as digits, that of bit 0 first
abbrev pub flags_text : ℕ → ℕ → List ℕ
flags_text zero flags = []
flags_text (suc count) flags = decimal (flags % 2) ++ flags_text count (flags / 2)

abbrev pub number_text : Option ℕ → List ℕ
number_text None = codes " bare"
number_text (Some number) = codes " number " ++ decimal number

abbrev pub ready_text : Bool → ℕ → List ℕ
ready_text is_counted zero = codes "not ready"
ready_text is_counted (suc more) = if is_counted then codes "ready " ++ decimal (suc more) else codes "ready"

-- the name of the control word in a step's answer
abbrev pub word_name : Step → List ℕ
word_name (steps.Advance count) = codes "advanced "
word_name (steps.Close sender) = codes "closed "
word_name step = codes "control "

-- how many flags a step turns
abbrev pub flags_of : Step → ℕ
flags_of (steps.Flip sender slot count) = count
flags_of step = 0

-- what a step with such a word name and so many flags saw
abbrev pub seen_text : List ℕ → ℕ → Bool → Seen → List ℕ
seen_text name flags is_counted (Word control) = name ++ control_text control
seen_text name flags is_counted (Reserved first number) = codes "reserved " ++ decimal first.number ++ number_text number
seen_text name flags is_counted (Lost found) = codes "lost " ++ control_text found
seen_text name flags is_counted Written = codes "written"
seen_text name flags is_counted (Flipped new_flags) = codes "flipped " ++ flags_text flags new_flags
seen_text name flags is_counted (Ready found) = ready_text is_counted found
seen_text name flags is_counted (Half word) = codes "word 0x" ++ digits 16 false word
seen_text name flags is_counted Acknowledged = codes "acknowledged"
seen_text name flags is_counted (Done number) = codes "done " ++ decimal number

-- the line that answers a step; `is_counted` says whether its own line has a COUNT
abbrev pub answer_line : Step → Bool → Seen → List ℕ
answer_line step is_counted seen = seen_text (word_name step) (flags_of step) is_counted seen ++ codes "\n"
