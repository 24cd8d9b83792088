-- The lines of a report.
use Rattle.std.specs.Prelude.{ℕ, ◌-◌, ◌*◌, suc, Bool, true, false, List, [], ◌∷◌, ◌++◌, codes, decimal}
use Rattle.stress.specs.declared.fault.StressFault.{StressFault}
use Rattle.stress.specs.declared.fault.StressFault.TheVariants.{NoMemory, Unfinished}
use Rattle.stress.specs.Reports.{ReportValue}

-- a name and a number
abbrev pub number_line : List ℕ → ℕ → List ℕ
number_line name n = name ++ codes " " ++ decimal n ++ codes "\n"

abbrev pub yes_or_no : Bool → List ℕ
yes_or_no true = codes "yes"
yes_or_no false = codes "no"

abbrev pub closed_line : Bool → List ℕ
closed_line closed = codes "closed " ++ yes_or_no closed ++ codes "\n"

-- a sender, how many batches it was to send, and what its ask found
abbrev pub sender_line : ℕ → ℕ → ℕ → List ℕ
sender_line batches number found =
    codes "sender " ++ decimal number ++ codes " batches " ++ decimal batches ++ codes " done " ++ decimal found ++ codes "\n"

-- of the senders from this number on
abbrev pub sender_lines : ℕ → ℕ → List ℕ → List ℕ
sender_lines batches number [] = []
sender_lines batches number (found ∷ rest) = sender_line batches number found ++ sender_lines batches (suc number) rest

abbrev pub plan_lines : ReportValue → List ℕ
plan_lines r = number_line (codes "senders") r.plan.senders ++ number_line (codes "batches") (r.plan.senders * r.plan.batches)

abbrev pub count_lines : ReportValue → List ℕ
count_lines r =
    number_line (codes "commands") r.summary.reserved ++ number_line (codes "syncs") r.counts.syncs ++ number_line (codes "applied") r.counts.applied
    ++ number_line (codes "replaced") r.counts.replaced ++ number_line (codes "removed") r.counts.removed

abbrev pub end_lines : ReportValue → List ℕ
end_lines r = number_line (codes "entries") r.entries ++ number_line (codes "left") (r.summary.reserved - r.summary.taken) ++ closed_line r.summary.closed

abbrev pub report_text : ReportValue → List ℕ
report_text r = plan_lines r ++ count_lines r ++ end_lines r ++ sender_lines r.plan.batches 0 r.done

-- ---- faults

abbrev pub fault_label : StressFault → List ℕ
fault_label NoMemory = codes "S1"
fault_label Unfinished = codes "S2"
