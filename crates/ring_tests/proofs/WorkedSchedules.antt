-- Worked schedules: what the definitions answer each step, and which step they refuse.
use Rattle.std.proofs.Common.{◌≡◌, ℕ, true, false, List, [], ◌∷◌, Option, Some, None, refl}
use Rattle.arrayvec.specs.ArrayVec.{ArrayVec}
use Rattle.cmdcodec.specs.declared.raw.Raw.{Raw}
use Rattle.cmdcodec.specs.Words.{encoding}
use Rattle.ringcore.specs.declared.machine.step.Step.{Step}
use Rattle.ringcore.specs.declared.machine.step.Step.TheVariants.{Look, Reserve, Write, Flip, Test, Read, Advance, Close, Acknowledge, Ask}
use Rattle.ringcore.specs.declared.machine.step_fault.StepFault.{StepFault}
use Rattle.ringcore.specs.declared.machine.step_fault.StepFault.TheVariants.{AnotherSenders, NotReserved, Flipped, HalfMissing, NotTheHead, NotSeenReady, NotNext, NoSuchPlace, NoRoom, NotSettled, BadBody}
use Rattle.ringcore.specs.declared.machine.step.Seen.{Seen}
use Rattle.ringcore.specs.declared.machine.step.Seen.TheVariants.{Word, Reserved, Lost, Written, Flipped as FlippedTo, Ready, Half as HalfWord, Acknowledged, Done}
use Rattle.ringcore.specs.world.Allowed.{Ring}
use Rattle.ringcore.specs.machine.Played.{played}
use Rattle.ring_tests.proofs.WorkedCases.{x, shows}

abbrev raws : List Raw → ArrayVec Raw
raws l = record { items = l }

abbrev ring : ℕ → ℕ → Ring
ring geometry senders = record { geometry = geometry; senders = senders; max_batches = 4294967295; flags = 64 }

abbrev ArePlayed : ℕ → ℕ → List Step → List Seen → Option (ℕ × StepFault) → Type 0
ArePlayed geometry senders steps answers refused =
    ((played (ring geometry senders) steps).answers ≡ answers) × ((played (ring geometry senders) steps).refused ≡ refused)

-- an advance of more than the test found
abbrev advance_more_f6 : List Step
advance_more_f6 =
    (Look (Some 0)) ∷ (Reserve 0 (raws (x ∷ [])) true) ∷ (Write 0 0 0) ∷ (Write 0 0 1) ∷ (Flip 0 0 1) ∷ (Test 0 64) ∷ (Read 0 0) ∷ (Read 0 1) ∷
    (Advance 2) ∷ []

advance_more_f6_is : ArePlayed 2 1 advance_more_f6
    ((Word (shows 2 0 0 false)) ∷ (Reserved (record { geometry = 2; number = 0 }) (Some 1)) ∷ Written ∷ Written ∷ (FlippedTo 1) ∷ (Ready 1) ∷
    (HalfWord 21474836483) ∷ (HalfWord 1) ∷ [])
    (Some (8, NotSeenReady))
unfolding encoding
advance_more_f6_is = (refl, refl)

-- the control word returns after two laps, and an exchange is won with it
abbrev control_word_returns : List Step
control_word_returns =
    (Look (Some 0)) ∷ (Look (Some 1)) ∷ (Reserve 1 (raws (x ∷ [])) true) ∷ (Write 1 0 0) ∷ (Write 1 0 1) ∷ (Flip 1 0 1) ∷ (Write 1 1 0) ∷ (Write 1 1 1) ∷
    (Flip 1 1 1) ∷ (Test 0 1) ∷ (Read 0 0) ∷ (Read 0 1) ∷ (Advance 1) ∷ (Test 1 1) ∷ (Read 1 0) ∷ (Read 1 1) ∷ (Advance 1) ∷ (Acknowledge 1 1) ∷
    (Look (Some 1)) ∷ (Reserve 1 (raws (x ∷ [])) true) ∷ (Write 1 0 0) ∷ (Write 1 0 1) ∷ (Write 1 1 0) ∷ (Write 1 1 1) ∷ (Flip 1 0 1) ∷ (Flip 1 1 1) ∷
    (Test 0 1) ∷ (Read 0 0) ∷ (Read 0 1) ∷ (Advance 1) ∷ (Test 1 1) ∷ (Read 1 0) ∷ (Read 1 1) ∷ (Advance 1) ∷ (Reserve 0 (raws (x ∷ [])) true) ∷
    (Look (Some 1)) ∷ (Reserve 1 (raws (x ∷ [])) true) ∷ []

control_word_returns_is : ArePlayed 1 2 control_word_returns
    ((Word (shows 1 0 0 false)) ∷ (Word (shows 1 0 0 false)) ∷ (Reserved (record { geometry = 1; number = 0 }) (Some 1)) ∷ Written ∷ Written ∷
    (FlippedTo 1) ∷ Written ∷ Written ∷ (FlippedTo 1) ∷ (Ready 1) ∷ (HalfWord 21474836483) ∷ (HalfWord 1) ∷ (Word (shows 1 2 1 false)) ∷ (Ready 1) ∷
    (HalfWord 4294971462) ∷ (HalfWord 1073741828) ∷ (Word (shows 1 2 2 false)) ∷ Acknowledged ∷ (Word (shows 1 2 2 false)) ∷
    (Reserved (record { geometry = 1; number = 2 }) (Some 2)) ∷ Written ∷ Written ∷ Written ∷ Written ∷ (FlippedTo 0) ∷ (FlippedTo 0) ∷ (Ready 1) ∷
    (HalfWord 21474836483) ∷ (HalfWord 1) ∷ (Word (shows 1 0 3 false)) ∷ (Ready 1) ∷ (HalfWord 8589938758) ∷ (HalfWord 1073741828) ∷
    (Word (shows 1 0 0 false)) ∷ (Reserved (record { geometry = 1; number = 0 }) (Some 1)) ∷ (Word (shows 1 2 0 false)) ∷ [])
    (Some (36, NoRoom))
unfolding encoding
control_word_returns_is = (refl, refl)

-- a write of another sender's slot
abbrev fault_1 : List Step
fault_1 =
    (Look (Some 0)) ∷ (Reserve 0 (raws (x ∷ [])) true) ∷ (Write 1 0 0) ∷ []

fault_1_is : ArePlayed 1 2 fault_1
    ((Word (shows 1 0 0 false)) ∷ (Reserved (record { geometry = 1; number = 0 }) (Some 1)) ∷ [])
    (Some (2, AnotherSenders))
unfolding encoding
fault_1_is = (refl, refl)

-- a second reservation
abbrev fault_10 : List Step
fault_10 =
    (Look (Some 0)) ∷ (Reserve 0 (raws (x ∷ [])) true) ∷ (Look (Some 0)) ∷ (Reserve 0 (raws (x ∷ [])) true) ∷ []

fault_10_is : ArePlayed 1 2 fault_10
    ((Word (shows 1 0 0 false)) ∷ (Reserved (record { geometry = 1; number = 0 }) (Some 1)) ∷ (Word (shows 1 2 0 false)) ∷ [])
    (Some (3, NotSettled))
unfolding encoding
fault_10_is = (refl, refl)

-- an empty body
abbrev fault_11 : List Step
fault_11 =
    (Reserve 0 (raws []) true) ∷ []

fault_11_is : ArePlayed 1 2 fault_11
    ([])
    (Some (0, BadBody))
unfolding encoding
fault_11_is = (refl, refl)

-- a write of a slot that nobody reserved
abbrev fault_2 : List Step
fault_2 =
    (Write 0 0 0) ∷ []

fault_2_is : ArePlayed 1 2 fault_2
    ([])
    (Some (0, NotReserved))
unfolding encoding
fault_2_is = (refl, refl)

-- a second flip
abbrev fault_3 : List Step
fault_3 =
    (Look (Some 0)) ∷ (Reserve 0 (raws (x ∷ [])) true) ∷ (Write 0 0 0) ∷ (Write 0 0 1) ∷ (Flip 0 0 1) ∷ (Flip 0 0 1) ∷ []

fault_3_is : ArePlayed 1 2 fault_3
    ((Word (shows 1 0 0 false)) ∷ (Reserved (record { geometry = 1; number = 0 }) (Some 1)) ∷ Written ∷ Written ∷ (FlippedTo 1) ∷ [])
    (Some (5, Flipped))
unfolding encoding
fault_3_is = (refl, refl)

-- a flip without the halves
abbrev fault_4 : List Step
fault_4 =
    (Look (Some 0)) ∷ (Reserve 0 (raws (x ∷ [])) true) ∷ (Flip 0 0 1) ∷ []

fault_4_is : ArePlayed 1 2 fault_4
    ((Word (shows 1 0 0 false)) ∷ (Reserved (record { geometry = 1; number = 0 }) (Some 1)) ∷ [])
    (Some (2, HalfMissing))
unfolding encoding
fault_4_is = (refl, refl)

-- a test of another slot
abbrev fault_5 : List Step
fault_5 =
    (Test 1 1) ∷ []

fault_5_is : ArePlayed 1 2 fault_5
    ([])
    (Some (0, NotTheHead))
unfolding encoding
fault_5_is = (refl, refl)

-- an advance without a test
abbrev fault_6 : List Step
fault_6 =
    (Advance 1) ∷ []

fault_6_is : ArePlayed 1 2 fault_6
    ([])
    (Some (0, NotSeenReady))
unfolding encoding
fault_6_is = (refl, refl)

-- an acknowledgement of a sync that is not taken
abbrev fault_7 : List Step
fault_7 =
    (Acknowledge 0 1) ∷ []

fault_7_is : ArePlayed 1 2 fault_7
    ([])
    (Some (0, NotNext))
unfolding encoding
fault_7_is = (refl, refl)

-- an ask of no sender
abbrev fault_8 : List Step
fault_8 =
    (Ask 2) ∷ []

fault_8_is : ArePlayed 1 2 fault_8
    ([])
    (Some (0, NoSuchPlace))
unfolding encoding
fault_8_is = (refl, refl)

-- a reserve without a look
abbrev fault_9 : List Step
fault_9 =
    (Reserve 0 (raws (x ∷ [])) true) ∷ []

fault_9_is : ArePlayed 1 2 fault_9
    ([])
    (Some (0, NoRoom))
unfolding encoding
fault_9_is = (refl, refl)

-- a flip of more slots than there are
abbrev flip_count_above_n : List Step
flip_count_above_n =
    (Flip 0 0 3) ∷ []

flip_count_above_n_is : ArePlayed 1 2 flip_count_above_n
    ([])
    (Some (0, NoSuchPlace))
unfolding encoding
flip_count_above_n_is = (refl, refl)

-- a flip that leaves its flag word
abbrev flip_leaves_word : List Step
flip_leaves_word =
    (Flip 0 63 2) ∷ []

flip_leaves_word_is : ArePlayed 7 1 flip_leaves_word
    ([])
    (Some (0, NoSuchPlace))
unfolding encoding
flip_leaves_word_is = (refl, refl)

-- a flip into another sender's reservation
abbrev flip_past_end_f1 : List Step
flip_past_end_f1 =
    (Look (Some 0)) ∷ (Reserve 0 (raws (x ∷ [])) true) ∷ (Look (Some 1)) ∷ (Reserve 1 (raws (x ∷ [])) true) ∷ (Write 0 0 0) ∷ (Write 0 0 1) ∷
    (Write 0 1 0) ∷ (Write 0 1 1) ∷ (Flip 0 0 3) ∷ []

flip_past_end_f1_is : ArePlayed 2 2 flip_past_end_f1
    ((Word (shows 2 0 0 false)) ∷ (Reserved (record { geometry = 2; number = 0 }) (Some 1)) ∷ (Word (shows 2 2 0 false)) ∷
    (Reserved (record { geometry = 2; number = 2 }) (Some 1)) ∷ Written ∷ Written ∷ Written ∷ Written ∷ [])
    (Some (8, AnotherSenders))
unfolding encoding
flip_past_end_f1_is = (refl, refl)

-- a flip past the tail
abbrev flip_past_end_f2 : List Step
flip_past_end_f2 =
    (Look (Some 0)) ∷ (Reserve 0 (raws (x ∷ [])) true) ∷ (Write 0 0 0) ∷ (Write 0 0 1) ∷ (Write 0 1 0) ∷ (Write 0 1 1) ∷ (Flip 0 0 3) ∷ []

flip_past_end_f2_is : ArePlayed 2 1 flip_past_end_f2
    ((Word (shows 2 0 0 false)) ∷ (Reserved (record { geometry = 2; number = 0 }) (Some 1)) ∷ Written ∷ Written ∷ Written ∷ Written ∷ [])
    (Some (6, NotReserved))
unfolding encoding
flip_past_end_f2_is = (refl, refl)

-- an exchange that is lost
abbrev lost : List Step
lost =
    (Look (Some 0)) ∷ (Look (Some 1)) ∷ (Reserve 1 (raws (x ∷ [])) true) ∷ (Reserve 0 (raws (x ∷ [])) true) ∷ []

lost_is : ArePlayed 1 2 lost
    ((Word (shows 1 0 0 false)) ∷ (Word (shows 1 0 0 false)) ∷ (Reserved (record { geometry = 1; number = 0 }) (Some 1)) ∷ (Lost (shows 1 2 0 false)) ∷ [])
    None
unfolding encoding
lost_is = (refl, refl)

-- after an advance nothing counts as tested
abbrev nothing_counts_after_an_advance : List Step
nothing_counts_after_an_advance =
    (Look (Some 0)) ∷ (Reserve 0 (raws (x ∷ [])) true) ∷ (Write 0 0 0) ∷ (Write 0 0 1) ∷ (Write 0 1 0) ∷ (Write 0 1 1) ∷ (Flip 0 0 2) ∷ (Test 0 2) ∷
    (Read 0 0) ∷ (Read 0 1) ∷ (Read 1 0) ∷ (Read 1 1) ∷ (Advance 1) ∷ (Advance 1) ∷ []

nothing_counts_after_an_advance_is : ArePlayed 2 1 nothing_counts_after_an_advance
    ((Word (shows 2 0 0 false)) ∷ (Reserved (record { geometry = 2; number = 0 }) (Some 1)) ∷ Written ∷ Written ∷ Written ∷ Written ∷ (FlippedTo 3) ∷
    (Ready 2) ∷ (HalfWord 21474836483) ∷ (HalfWord 1) ∷ (HalfWord 4294971462) ∷ (HalfWord 1073741824) ∷ (Word (shows 2 2 1 false)) ∷ [])
    (Some (13, NotSeenReady))
unfolding encoding
nothing_counts_after_an_advance_is = (refl, refl)

-- a read behind what the test found
abbrev read_off_run_f5 : List Step
read_off_run_f5 =
    (Look (Some 0)) ∷ (Reserve 0 (raws (x ∷ [])) true) ∷ (Read 1 0) ∷ []

read_off_run_f5_is : ArePlayed 2 1 read_off_run_f5
    ((Word (shows 2 0 0 false)) ∷ (Reserved (record { geometry = 2; number = 0 }) (Some 1)) ∷ [])
    (Some (2, NotTheHead))
unfolding encoding
read_off_run_f5_is = (refl, refl)

-- runs of commands, across the end of the ring
abbrev runs : List Step
runs =
    (Look (Some 0)) ∷ (Reserve 0 (raws (x ∷ x ∷ [])) true) ∷ (Write 0 0 0) ∷ (Write 0 0 1) ∷ (Write 0 1 0) ∷ (Write 0 1 1) ∷ (Write 0 2 0) ∷ (Write 0 2 1) ∷
    (Flip 0 0 3) ∷ (Test 0 64) ∷ (Read 0 0) ∷ (Read 0 1) ∷ (Read 1 0) ∷ (Read 1 1) ∷ (Advance 2) ∷ (Test 2 64) ∷ (Read 2 0) ∷ (Read 2 1) ∷ (Advance 1) ∷
    (Acknowledge 0 1) ∷ (Look (Some 0)) ∷ (Reserve 0 (raws (x ∷ x ∷ [])) true) ∷ (Write 0 3 0) ∷ (Write 0 3 1) ∷ (Write 0 0 0) ∷ (Write 0 0 1) ∷
    (Write 0 1 0) ∷ (Write 0 1 1) ∷ (Flip 0 3 3) ∷ (Test 3 64) ∷ []

runs_is : ArePlayed 2 1 runs
    ((Word (shows 2 0 0 false)) ∷ (Reserved (record { geometry = 2; number = 0 }) (Some 1)) ∷ Written ∷ Written ∷ Written ∷ Written ∷ Written ∷ Written ∷
    (FlippedTo 7) ∷ (Ready 3) ∷ (HalfWord 21474836483) ∷ (HalfWord 1) ∷ (HalfWord 21474836483) ∷ (HalfWord 1) ∷ (Word (shows 2 3 2 false)) ∷ (Ready 1) ∷
    (HalfWord 4294971462) ∷ (HalfWord 1073741824) ∷ (Word (shows 2 3 3 false)) ∷ Acknowledged ∷ (Word (shows 2 3 3 false)) ∷
    (Reserved (record { geometry = 2; number = 3 }) (Some 2)) ∷ Written ∷ Written ∷ Written ∷ Written ∷ Written ∷ Written ∷ (FlippedTo 1) ∷ (Ready 3) ∷ [])
    None
unfolding encoding
runs_is = (refl, refl)

-- a batch without a closing sync
abbrev schedule_bare : List Step
schedule_bare =
    (Look (Some 0)) ∷ (Look (Some 1)) ∷ (Reserve 0 (raws (x ∷ x ∷ [])) false) ∷ (Reserve 1 (raws (x ∷ [])) false) ∷ []

schedule_bare_is : ArePlayed 1 2 schedule_bare
    ((Word (shows 1 0 0 false)) ∷ (Word (shows 1 0 0 false)) ∷ (Reserved (record { geometry = 1; number = 0 }) None) ∷ (Lost (shows 1 2 0 false)) ∷ [])
    None
unfolding encoding
schedule_bare_is = (refl, refl)

-- a test with a limit above the size
abbrev test_count_above_n : List Step
test_count_above_n =
    (Test 0 64) ∷ []

test_count_above_n_is : ArePlayed 1 2 test_count_above_n
    ((Ready 0) ∷ [])
    None
unfolding encoding
test_count_above_n_is = (refl, refl)

-- a run ends with its flag word
abbrev 128_slots_end : List Step
128_slots_end =
    (Flip 0 127 2) ∷ []

128_slots_end_is : ArePlayed 7 1 128_slots_end
    ([])
    (Some (0, NoSuchPlace))
unfolding encoding
128_slots_end_is = (refl, refl)

-- a run across the end of a ring of 64 slots
abbrev 64_slots_wrap : List Step
64_slots_wrap =
    (Flip 0 63 2) ∷ []

64_slots_wrap_is : ArePlayed 6 1 64_slots_wrap
    ([])
    (Some (0, NotReserved))
unfolding encoding
64_slots_wrap_is = (refl, refl)

-- numbers count syncs alone
abbrev ack_counts_syncs_only : List Step
ack_counts_syncs_only =
    (Look (Some 0)) ∷ (Reserve 0 (raws (x ∷ [])) false) ∷ (Write 0 0 0) ∷ (Write 0 0 1) ∷ (Flip 0 0 1) ∷ (Look (Some 0)) ∷
    (Reserve 0 (raws (x ∷ [])) true) ∷ (Write 0 1 0) ∷ (Write 0 1 1) ∷ (Write 0 2 0) ∷ (Write 0 2 1) ∷ (Flip 0 1 2) ∷ (Test 0 3) ∷ (Read 0 0) ∷ (Read 0 1) ∷
    (Read 1 0) ∷ (Read 1 1) ∷ (Read 2 0) ∷ (Read 2 1) ∷ (Advance 3) ∷ (Acknowledge 0 1) ∷ []

ack_counts_syncs_only_is : ArePlayed 2 1 ack_counts_syncs_only
    ((Word (shows 2 0 0 false)) ∷ (Reserved (record { geometry = 2; number = 0 }) None) ∷ Written ∷ Written ∷ (FlippedTo 1) ∷ (Word (shows 2 1 0 false)) ∷
    (Reserved (record { geometry = 2; number = 1 }) (Some 1)) ∷ Written ∷ Written ∷ Written ∷ Written ∷ (FlippedTo 3) ∷ (Ready 3) ∷ (HalfWord 21474836483) ∷
    (HalfWord 1) ∷ (HalfWord 21474836483) ∷ (HalfWord 1) ∷ (HalfWord 4294971462) ∷ (HalfWord 1073741824) ∷ (Word (shows 2 3 3 false)) ∷ Acknowledged ∷ [])
    None
unfolding encoding
ack_counts_syncs_only_is = (refl, refl)

-- an acknowledgement that skips a number
abbrev ack_out_of_order : List Step
ack_out_of_order =
    (Acknowledge 0 0) ∷ []

ack_out_of_order_is : ArePlayed 1 1 ack_out_of_order
    ([])
    (Some (0, NotNext))
unfolding encoding
ack_out_of_order_is = (refl, refl)

-- acknowledgements after a run
abbrev acks_after_a_run : List Step
acks_after_a_run =
    (Look (Some 0)) ∷ (Reserve 0 (raws (x ∷ [])) true) ∷ (Write 0 0 0) ∷ (Write 0 0 1) ∷ (Write 0 1 0) ∷ (Write 0 1 1) ∷ (Flip 0 0 2) ∷ (Look (Some 0)) ∷
    (Reserve 0 (raws (x ∷ [])) true) ∷ (Write 0 2 0) ∷ (Write 0 2 1) ∷ (Write 0 3 0) ∷ (Write 0 3 1) ∷ (Flip 0 2 2) ∷ (Test 0 64) ∷ (Read 0 0) ∷
    (Read 0 1) ∷ (Read 1 0) ∷ (Read 1 1) ∷ (Read 2 0) ∷ (Read 2 1) ∷ (Read 3 0) ∷ (Read 3 1) ∷ (Advance 4) ∷ (Acknowledge 0 1) ∷ (Acknowledge 0 2) ∷
    (Ask 0) ∷ []

acks_after_a_run_is : ArePlayed 2 1 acks_after_a_run
    ((Word (shows 2 0 0 false)) ∷ (Reserved (record { geometry = 2; number = 0 }) (Some 1)) ∷ Written ∷ Written ∷ Written ∷ Written ∷ (FlippedTo 3) ∷
    (Word (shows 2 2 0 false)) ∷ (Reserved (record { geometry = 2; number = 2 }) (Some 2)) ∷ Written ∷ Written ∷ Written ∷ Written ∷ (FlippedTo 3) ∷
    (Ready 4) ∷ (HalfWord 21474836483) ∷ (HalfWord 1) ∷ (HalfWord 4294971462) ∷ (HalfWord 1073741824) ∷ (HalfWord 21474836483) ∷ (HalfWord 1) ∷
    (HalfWord 8589938758) ∷ (HalfWord 1073741824) ∷ (Word (shows 2 4 4 false)) ∷ Acknowledged ∷ Acknowledged ∷ (Done 2) ∷ [])
    None
unfolding encoding
acks_after_a_run_is = (refl, refl)

-- an advance with a half that is not read
abbrev advance_f4 : List Step
advance_f4 =
    (Look (Some 0)) ∷ (Reserve 0 (raws (x ∷ [])) true) ∷ (Write 0 0 0) ∷ (Write 0 0 1) ∷ (Flip 0 0 1) ∷ (Test 0 1) ∷ (Read 0 1) ∷ (Advance 1) ∷ []

advance_f4_is : ArePlayed 1 1 advance_f4
    ((Word (shows 1 0 0 false)) ∷ (Reserved (record { geometry = 1; number = 0 }) (Some 1)) ∷ Written ∷ Written ∷ (FlippedTo 1) ∷ (Ready 1) ∷ (HalfWord 1) ∷
    [])
    (Some (7, HalfMissing))
unfolding encoding
advance_f4_is = (refl, refl)

-- runs of one
abbrev count_1_prints : List Step
count_1_prints =
    (Look (Some 0)) ∷ (Reserve 0 (raws (x ∷ [])) true) ∷ (Write 0 0 0) ∷ (Write 0 0 1) ∷ (Flip 0 0 1) ∷ (Test 0 1) ∷ (Test 0 1) ∷ []

count_1_prints_is : ArePlayed 1 1 count_1_prints
    ((Word (shows 1 0 0 false)) ∷ (Reserved (record { geometry = 1; number = 0 }) (Some 1)) ∷ Written ∷ Written ∷ (FlippedTo 1) ∷ (Ready 1) ∷ (Ready 1) ∷
    [])
    None
unfolding encoding
count_1_prints_is = (refl, refl)

-- a read off the head with nothing tested
abbrev f5_before_f6 : List Step
f5_before_f6 =
    (Read 1 0) ∷ []

f5_before_f6_is : ArePlayed 1 2 f5_before_f6
    ([])
    (Some (0, NotTheHead))
unfolding encoding
f5_before_f6_is = (refl, refl)

-- a flip once all is flipped
abbrev flip_after_the_last : List Step
flip_after_the_last =
    (Look (Some 0)) ∷ (Reserve 0 (raws (x ∷ [])) true) ∷ (Write 0 0 0) ∷ (Write 0 0 1) ∷ (Write 0 1 0) ∷ (Write 0 1 1) ∷ (Flip 0 0 1) ∷ (Flip 0 1 1) ∷
    (Flip 0 1 1) ∷ []

flip_after_the_last_is : ArePlayed 1 2 flip_after_the_last
    ((Word (shows 1 0 0 false)) ∷ (Reserved (record { geometry = 1; number = 0 }) (Some 1)) ∷ Written ∷ Written ∷ Written ∷ Written ∷ (FlippedTo 1) ∷
    (FlippedTo 1) ∷ [])
    (Some (8, NotReserved))
unfolding encoding
flip_after_the_last_is = (refl, refl)

-- no third half
abbrev half_2 : List Step
half_2 =
    (Write 0 0 2) ∷ []

half_2_is : ArePlayed 1 2 half_2
    ([])
    (Some (0, NoSuchPlace))
unfolding encoding
half_2_is = (refl, refl)

-- a look with a reservation open counts for the next
abbrev look_while_open_counts : List Step
look_while_open_counts =
    (Look (Some 0)) ∷ (Reserve 0 (raws (x ∷ [])) true) ∷ (Look (Some 0)) ∷ (Write 0 0 0) ∷ (Write 0 0 1) ∷ (Write 0 0 1) ∷ (Write 0 1 0) ∷ (Write 0 1 1) ∷
    (Flip 0 1 1) ∷ (Flip 0 0 1) ∷ (Reserve 0 (raws (x ∷ [])) true) ∷ []

look_while_open_counts_is : ArePlayed 2 1 look_while_open_counts
    ((Word (shows 2 0 0 false)) ∷ (Reserved (record { geometry = 2; number = 0 }) (Some 1)) ∷ (Word (shows 2 2 0 false)) ∷ Written ∷ Written ∷ Written ∷
    Written ∷ Written ∷ (FlippedTo 1) ∷ (FlippedTo 1) ∷ (Reserved (record { geometry = 2; number = 2 }) (Some 2)) ∷ [])
    None
unfolding encoding
look_while_open_counts_is = (refl, refl)

-- an exchange lost by the closed bit alone
abbrev lost_by_close : List Step
lost_by_close =
    (Look (Some 0)) ∷ (Close 1) ∷ (Reserve 0 (raws (x ∷ [])) true) ∷ (Look (Some 0)) ∷ (Reserve 0 (raws (x ∷ [])) true) ∷ []

lost_by_close_is : ArePlayed 1 2 lost_by_close
    ((Word (shows 1 0 0 false)) ∷ (Word (shows 1 0 0 true)) ∷ (Lost (shows 1 0 0 true)) ∷ (Word (shows 1 0 0 true)) ∷ [])
    (Some (4, NoRoom))
unfolding encoding
lost_by_close_is = (refl, refl)

-- no such sender
abbrev no_sender_is_f8 : List Step
no_sender_is_f8 =
    (Reserve 2 (raws []) true) ∷ []

no_sender_is_f8_is : ArePlayed 1 2 no_sender_is_f8
    ([])
    (Some (0, NoSuchPlace))
unfolding encoding
no_sender_is_f8_is = (refl, refl)

-- a flip past a reservation of all slots
abbrev past_end_of_whole_ring : List Step
past_end_of_whole_ring =
    (Look (Some 0)) ∷ (Reserve 0 (raws (x ∷ [])) true) ∷ (Write 0 0 0) ∷ (Write 0 0 1) ∷ (Write 0 1 0) ∷ (Write 0 1 1) ∷ (Flip 0 1 2) ∷ []

past_end_of_whole_ring_is : ArePlayed 1 1 past_end_of_whole_ring
    ((Word (shows 1 0 0 false)) ∷ (Reserved (record { geometry = 1; number = 0 }) (Some 1)) ∷ Written ∷ Written ∷ Written ∷ Written ∷ [])
    (Some (6, NotReserved))
unfolding encoding
past_end_of_whole_ring_is = (refl, refl)

-- a read of the head without a test
abbrev read_f6 : List Step
read_f6 =
    (Test 0 1) ∷ (Read 0 0) ∷ []

read_f6_is : ArePlayed 1 2 read_f6
    ((Ready 0) ∷ [])
    (Some (1, NotSeenReady))
unfolding encoding
read_f6_is = (refl, refl)

-- a second test begins anew
abbrev second_test : List Step
second_test =
    (Look (Some 0)) ∷ (Reserve 0 (raws (x ∷ [])) true) ∷ (Write 0 0 0) ∷ (Write 0 0 1) ∷ (Flip 0 0 1) ∷ (Test 0 1) ∷ (Read 0 0) ∷ (Read 0 1) ∷ (Test 0 1) ∷
    (Advance 1) ∷ []

second_test_is : ArePlayed 1 1 second_test
    ((Word (shows 1 0 0 false)) ∷ (Reserved (record { geometry = 1; number = 0 }) (Some 1)) ∷ Written ∷ Written ∷ (FlippedTo 1) ∷ (Ready 1) ∷
    (HalfWord 21474836483) ∷ (HalfWord 1) ∷ (Ready 1) ∷ [])
    (Some (9, HalfMissing))
unfolding encoding
second_test_is = (refl, refl)

-- a second test with a smaller limit
abbrev smaller_second_test : List Step
smaller_second_test =
    (Look (Some 0)) ∷ (Reserve 0 (raws (x ∷ [])) true) ∷ (Write 0 0 0) ∷ (Write 0 0 1) ∷ (Write 0 1 0) ∷ (Write 0 1 1) ∷ (Flip 0 0 2) ∷ (Test 0 2) ∷
    (Test 0 1) ∷ (Read 1 0) ∷ []

smaller_second_test_is : ArePlayed 1 1 smaller_second_test
    ((Word (shows 1 0 0 false)) ∷ (Reserved (record { geometry = 1; number = 0 }) (Some 1)) ∷ Written ∷ Written ∷ Written ∷ Written ∷ (FlippedTo 3) ∷
    (Ready 2) ∷ (Ready 1) ∷ [])
    (Some (9, NotTheHead))
unfolding encoding
smaller_second_test_is = (refl, refl)

-- a test of an empty ring
abbrev test_off_empty : List Step
test_off_empty =
    (Test 0 1) ∷ (Look (None)) ∷ (Ask 0) ∷ []

test_off_empty_is : ArePlayed 1 2 test_off_empty
    ((Ready 0) ∷ (Word (shows 1 0 0 false)) ∷ (Done 0) ∷ [])
    None
unfolding encoding
test_off_empty_is = (refl, refl)

-- a third sender's write of a slot that two hold
abbrev third_sender_f1 : List Step
third_sender_f1 =
    (Look (Some 0)) ∷ (Reserve 0 (raws (x ∷ x ∷ [])) true) ∷ (Write 0 0 0) ∷ (Write 0 0 1) ∷ (Flip 0 0 1) ∷ (Test 0 1) ∷ (Read 0 0) ∷ (Read 0 1) ∷
    (Advance 1) ∷ (Write 2 0 0) ∷ []

third_sender_f1_is : ArePlayed 2 3 third_sender_f1
    ((Word (shows 2 0 0 false)) ∷ (Reserved (record { geometry = 2; number = 0 }) (Some 1)) ∷ Written ∷ Written ∷ (FlippedTo 1) ∷ (Ready 1) ∷
    (HalfWord 21474836483) ∷ (HalfWord 1) ∷ (Word (shows 2 3 1 false)) ∷ [])
    (Some (9, AnotherSenders))
unfolding encoding
third_sender_f1_is = (refl, refl)

-- two open reservations of different laps hold one slot
abbrev two_hold_a_slot : List Step
two_hold_a_slot =
    (Look (Some 0)) ∷ (Reserve 0 (raws (x ∷ x ∷ [])) true) ∷ (Write 0 0 0) ∷ (Write 0 0 1) ∷ (Flip 0 0 1) ∷ (Test 0 1) ∷ (Read 0 0) ∷ (Read 0 1) ∷
    (Advance 1) ∷ (Look (Some 1)) ∷ (Reserve 1 (raws (x ∷ [])) true) ∷ (Write 1 0 0) ∷ (Write 1 0 1) ∷ (Flip 1 0 1) ∷ (Write 0 0 0) ∷ []

two_hold_a_slot_is : ArePlayed 2 3 two_hold_a_slot
    ((Word (shows 2 0 0 false)) ∷ (Reserved (record { geometry = 2; number = 0 }) (Some 1)) ∷ Written ∷ Written ∷ (FlippedTo 1) ∷ (Ready 1) ∷
    (HalfWord 21474836483) ∷ (HalfWord 1) ∷ (Word (shows 2 3 1 false)) ∷ (Word (shows 2 3 1 false)) ∷
    (Reserved (record { geometry = 2; number = 3 }) (Some 1)) ∷ Written ∷ Written ∷ (FlippedTo 0) ∷ [])
    (Some (14, Flipped))
unfolding encoding
two_hold_a_slot_is = (refl, refl)
