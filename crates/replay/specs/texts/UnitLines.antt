-- The texts of what the lines of the unit answer.
use Rattle.std.specs.Prelude.{ℕ, ◌-◌, ◌^◌, List, [], ◌++◌, false, flat_map, codes, decimal}
use Rattle.std.specs.Fmt.{digits, padded_integral, format_spec}
use Rattle.caches.specs.declared.tag.Entry.{Entry}
use Rattle.cmdcodec.specs.Labels.{label_of}
use Rattle.cmdcodec.specs.Text.{text_of}
use Rattle.engine.specs.declared.answer.StepAnswer.{StepAnswer}
use Rattle.engine.specs.declared.answer.StepAnswer.TheVariants.{Empty, Drained, Unwritten, Applied, Stopped, Replaced, StillStopped, Exhausted}
use Rattle.engine.specs.declared.answer.Registers.{Registers}
use Rattle.engine.specs.Counting.{CountsValue, taken}
use Rattle.replay.specs.texts.Entries.{entry_line}

-- ---- a step

abbrev pub step_text : StepAnswer → List ℕ
step_text Empty = codes "empty\n"
step_text Drained = codes "drained\n"
step_text Unwritten = codes "unwritten\n"
step_text (Applied command removed) = codes "applied " ++ text_of command ++ codes " removed=" ++ decimal removed ++ codes "\n"
step_text (Stopped ill) = codes "stopped " ++ label_of ill ++ codes "\n"
step_text (Replaced ill) = codes "replaced " ++ label_of ill ++ codes "\n"
step_text StillStopped = codes "still stopped\n"
step_text Exhausted = codes "exhausted\n"

-- ---- an acknowledgement

-- of one that wasn't refused
abbrev pub acknowledged_text : List ℕ
acknowledged_text = codes "acknowledged\n"

-- ---- a dump: the registers, the totals and the entries

-- 0x and eight lower-case hexadecimal digits
abbrev pub register : ℕ → List ℕ
register n = codes "0x" ++ padded_integral (format_spec 32 0 4 8 (2 ^ 64 - 1)) false [] (digits 16 false n)

abbrev pub register_line : List ℕ → ℕ → List ℕ
register_line name n = name ++ codes " " ++ register n ++ codes "\n"

abbrev pub errors_line : Registers → List ℕ
errors_line registers = codes "gerror " ++ decimal registers.gerror ++ codes " gerrorn " ++ decimal registers.gerrorn ++ codes "\n"

abbrev pub registers_text : Registers → List ℕ
registers_text registers = register_line (codes "prod") registers.prod ++ register_line (codes "cons") registers.cons ++ errors_line registers

abbrev pub totals_line : CountsValue → List ℕ
totals_line counts =
    codes "taken " ++ decimal (taken counts) ++ codes " applied " ++ decimal counts.applied ++ codes " replaced " ++ decimal counts.replaced
    ++ codes " syncs " ++ decimal counts.syncs ++ codes " removed " ++ decimal counts.removed ++ codes "\n"

abbrev pub dump_text : Registers → CountsValue → List Entry → List ℕ
dump_text registers counts entries = registers_text registers ++ totals_line counts ++ flat_map entry_line entries ++ codes "end\n"
