-- The fault of a step after a run, by the world and the trails: the first that applies.
use Rattle.std.specs.Prelude.{ℕ, suc, ◌+◌, Bool, true, false, not, ◌==◌, ◌||◌, ◌&&◌, nat_le, nat_lt, List, length, Option, Some, None, is_some, slice_get, if◌then◌else◌}
use Rattle.std.specs.List.{list_any}
use Rattle.cmdcodec.specs.declared.raw.Raw.{Raw}
use Rattle.cmdcodec.specs.Opcodes.{is_sync}
use Rattle.qindex.specs.declared.control.Control.{Control}
use Rattle.qindex.specs.Positions.{size, place}
use Rattle.qindex.specs.Indexes.{distance}
use Rattle.ringcore.specs.declared.world.event.Who.TheVariants.{Consumer, Sender}
use Rattle.ringcore.specs.declared.world.event.Half.TheVariants.{Lo, Hi}
use Rattle.ringcore.specs.declared.machine.step.Step.{Step}
use Rattle.ringcore.specs.declared.machine.step.Step.TheVariants.{Look, Reserve, Write, Flip, Test, Read, Advance, Close, Acknowledge, Ask}
use Rattle.ringcore.specs.declared.machine.step_fault.StepFault.{StepFault}
use Rattle.ringcore.specs.declared.machine.step_fault.StepFault.TheVariants.{AnotherSenders, NotReserved, Flipped, HalfMissing, NotTheHead, NotSeenReady, NotNext, NoSuchPlace, NoRoom, NotSettled, BadBody}
use Rattle.ringcore.specs.world.Trails.{Trail, Run, trail_of, looked, batches_made, reserved_length, has_written, has_flipped, found_ready, half_read}
use Rattle.ringcore.specs.world.World.{Item, World, head, world}
use Rattle.ringcore.specs.world.Allowed.{Ring, length_with}
use Rattle.ringcore.specs.memory.Flags.{shared_word}
use Rattle.ringcore.specs.machine.Open.{some_below, all_below, first_below, is_open, is_held, own_offset, slot_is_held}

-- ---- what doesn't exist

abbrev pub has_sender : Ring → ℕ → Bool
has_sender ring s = nat_lt s ring.senders

abbrev pub has_slot : Ring → ℕ → Bool
has_slot ring slot = nat_lt slot (size ring.geometry)

abbrev pub is_half : ℕ → Bool
is_half half = nat_lt half 2

abbrev pub is_run_length : ℕ → Bool
is_run_length count = nat_le 1 count && nat_le count 64

-- whether the flags of `count` slots in a row, from this one on, are in one flag word
abbrev pub share_a_word : Ring → ℕ → ℕ → Bool
share_a_word ring slot count = nat_le count (shared_word ring.geometry slot)

-- ---- reserve

abbrev pub is_body : List Raw → Bool
is_body body = nat_le 1 (length body) && nat_le (length body) 63 && not (list_any is_sync body)

-- whether there is room for this many commands, by what was looked at
abbrev pub has_room : Ring → Option Control → ℕ → Bool
has_room ring None many = false
has_room ring (Some found) many = not found.closed && nat_le (distance found.prod found.cons + many) (size ring.geometry)

abbrev pub reserve_fault : Ring → Trail → List Raw → Bool → Option StepFault
reserve_fault ring mine body closes =
    if is_open mine || nat_le ring.max_batches (batches_made mine) then Some NotSettled
    else if not (is_body body) then Some BadBody
    else if has_room ring (looked mine) (length_with closes body) then None
    else Some NoRoom

-- ---- write and flip

-- for a slot that isn't its own, by whether other reservations hold it
abbrev pub foreign : Bool → Option StepFault
foreign held = if held then Some AnotherSenders else Some NotReserved

abbrev pub write_at : Ring → Run → ℕ → ℕ → Option ℕ → Option StepFault
write_at ring run s slot None = foreign (slot_is_held ring run slot)
write_at ring run s slot (Some offset) = if has_flipped offset (trail_of (Sender s) run) then Some Flipped else None

-- If the first slot is its own, positions count, otherwise slots.
abbrev pub flip_at : Ring → Run → ℕ → ℕ → ℕ → Option ℕ → Option StepFault
flip_at ring run s slot count None = foreign (all_below count (λ k. slot_is_held ring run (place ring.geometry (slot + k))))
flip_at ring run s slot count (Some offset) =
    let mine = trail_of (Sender s) run in
    if nat_lt (reserved_length mine) (offset + count) then foreign (all_below count (λ k. is_held ring run ((world run).start s + offset + k)))
    else if some_below count (λ k. has_flipped (offset + k) mine) then Some Flipped
    else if all_below count (λ k. has_written (offset + k) Lo mine && has_written (offset + k) Hi mine) then None
    else Some HalfMissing

-- ---- test, read and advance

abbrev pub is_head : Ring → Run → ℕ → Bool
is_head ring run slot = place ring.geometry (head (world run)) == slot

-- the offset from the head of a slot that the last test found, if it is one
abbrev pub tested_offset : Ring → Run → ℕ → Option ℕ
tested_offset ring run slot = first_below (found_ready (trail_of Consumer run)) (λ k. place ring.geometry (head (world run) + k) == slot)

abbrev pub read_fault : Ring → Run → ℕ → Option StepFault
read_fault ring run slot =
    if is_some (tested_offset ring run slot) then None
    else if is_head ring run slot then Some NotSeenReady
    else Some NotTheHead

abbrev pub advance_fault : Trail → ℕ → Option StepFault
advance_fault mine count =
    if nat_lt (found_ready mine) count then Some NotSeenReady
    else if all_below count (λ k. is_some (half_read k Lo mine) && is_some (half_read k Hi mine)) then None
    else Some HalfMissing

-- ---- acknowledge

abbrev pub has_number : ℕ → Option ℕ → Bool
has_number number None = false
has_number number (Some its) = its == number

-- whether an item is the closing sync of a sender's batch of this number
abbrev pub is_sync_of : ℕ → ℕ → Option Item → Bool
is_sync_of s number None = false
is_sync_of s number (Some item) = item.sender == s && has_number number item.number && is_sync item.raw

-- whether that sync is below the head
abbrev pub sync_is_taken : World → ℕ → ℕ → Bool
sync_is_taken w s number = some_below (head w) (λ position. is_sync_of s number (slice_get w.reserved position))

abbrev pub acknowledge_fault : World → ℕ → ℕ → Option StepFault
acknowledge_fault w s number =
    if number == suc (w.acknowledged s) && sync_is_taken w s number then None else Some NotNext

-- ---- all of them

-- what doesn't exist comes before all other faults
abbrev pub unless_missing : Bool → Option StepFault → Option StepFault
unless_missing exists later = if exists then later else Some NoSuchPlace

abbrev pub exists_who : Ring → Option ℕ → Bool
exists_who ring None = true
exists_who ring (Some s) = has_sender ring s

-- The fault that a step is refused for, or None if it is accepted.
abbrev pub fault_of : Ring → Run → Step → Option StepFault
fault_of ring run (Look who) = unless_missing (exists_who ring who) None
fault_of ring run (Reserve s body closes) = unless_missing (has_sender ring s) (reserve_fault ring (trail_of (Sender s) run) body.items closes)
fault_of ring run (Write s slot half) =
    unless_missing (has_sender ring s && has_slot ring slot && is_half half) (write_at ring run s slot (own_offset ring run s slot))
fault_of ring run (Flip s slot count) =
    unless_missing (has_sender ring s && has_slot ring slot && is_run_length count && share_a_word ring slot count)
    (flip_at ring run s slot count (own_offset ring run s slot))
fault_of ring run (Test slot count) =
    unless_missing (has_slot ring slot && is_run_length count) (if is_head ring run slot then None else Some NotTheHead)
fault_of ring run (Read slot half) = unless_missing (has_slot ring slot && is_half half) (read_fault ring run slot)
fault_of ring run (Advance count) = unless_missing (is_run_length count) (advance_fault (trail_of Consumer run) count)
fault_of ring run (Close s) = unless_missing (has_sender ring s) None
fault_of ring run (Acknowledge s number) = unless_missing (has_sender ring s) (acknowledge_fault (world run) s number)
fault_of ring run (Ask s) = unless_missing (has_sender ring s) None
