-- What is written for an invalidation: a text, and whether there is no fault.
use Rattle.std.specs.Prelude.{ℕ, List, Bool, true, false, Result, Ok, Err, codes}
use Rattle.invalidations.specs.Plans.{Plan, commands_of}
use Rattle.ranges.specs.declared.asked.Asked.{Asked}
use Rattle.ranges.specs.declared.fault.RangeFault.{RangeFault}
use Rattle.ranges.specs.declared.fault.RangeFault.TheVariants.{BadVmid, BadAsid, BadAddress, BadLength, BadGranule, PastEnd}
use Rattle.ranges.specs.Meanings.{plan_asked}
use Rattle.ranges.specs.Lines.{lines_of}

abbrev pub fault_line : RangeFault → List ℕ
fault_line BadVmid = codes "bad vmid\n"
fault_line BadAsid = codes "bad asid\n"
fault_line BadAddress = codes "bad address\n"
fault_line BadLength = codes "bad length\n"
fault_line BadGranule = codes "bad granule\n"
fault_line PastEnd = codes "past the end\n"

abbrev pub answer_to : Result Plan RangeFault → List ℕ × Bool
answer_to (Err fault) = (fault_line fault, false)
answer_to (Ok plan) = (lines_of plan.request.target (commands_of plan), true)

abbrev pub range_text : Asked → List ℕ × Bool
range_text asked = answer_to (plan_asked asked)
