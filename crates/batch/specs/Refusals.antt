-- Why commands are refused: the first fault that applies.
use Rattle.std.specs.Prelude.{ℕ, ◌+◌, ◌^◌, ◌==◌, nat_lt, List, length, Option, Some, None, Result, Ok, Err, if◌then◌else◌}
use Rattle.std.specs.List.{list_any}
use Rattle.cmdcodec.specs.declared.raw.Raw.{Raw}
use Rattle.batch.specs.declared.fault.BatchFault.{BatchFault}
use Rattle.batch.specs.declared.fault.BatchFault.TheVariants.{Full, SyncInside, NoPages, PastEnd, Empty}
use Rattle.cmdcodec.specs.Opcodes.{is_sync}
use Rattle.batch.specs.Ranges.{range_commands}

-- the fault, or this answer if there is none
abbrev pub unless : {A : Type 0} → Option BatchFault → A → Result A BatchFault
unless (Some fault) answer = Err fault
unless None answer = Ok answer

-- for the first command of a batch
abbrev pub new_refusal : Raw → Option BatchFault
new_refusal raw = if is_sync raw then Some SyncInside else None

-- for all commands of a batch
abbrev pub list_refusal : List Raw → Option BatchFault
list_refusal commands =
    if length commands == 0 then Some Empty
    else if nat_lt 63 (length commands) then Some Full
    else if list_any is_sync commands then Some SyncInside
    else None

-- for this many more commands, in a batch of these
abbrev pub room_refusal : List Raw → ℕ → Option BatchFault
room_refusal held more = if nat_lt 63 (length held + more) then Some Full else None

-- for one more command
abbrev pub push_refusal : List Raw → Raw → Option BatchFault
push_refusal held raw = if is_sync raw then Some SyncInside else room_refusal held 1

-- for the commands that invalidate `pages` pages from this one on
abbrev pub range_refusal : List Raw → ℕ → ℕ → ℕ → ℕ → Option BatchFault
range_refusal held vmid asid page pages =
    if pages == 0 then Some NoPages
    else if nat_lt (2 ^ 52) (page + pages) then Some PastEnd
    else room_refusal held (length (range_commands vmid asid page pages))
