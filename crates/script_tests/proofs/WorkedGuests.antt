-- Worked rows of the definitions: the guest that a command line means.
use Rattle.std.proofs.Common.{◌≡◌, [], ◌∷◌, true, false, None, Some, Ok, Err, codes, refl}
use Rattle.script.specs.Words.{number_in, number_of}
use Rattle.smmu_features.specs.declared.smmu.Smmu.{Smmu}
use Rattle.guest_commands.specs.declared.fault.AttachFault.TheVariants.{Used}
use Rattle.convert.specs.declared.fault.GuestFault.TheVariants.{BadVmid, BadStream, Refused}
use Rattle.convert.specs.Guests.{attachment_named, clear_number, guest_of, smmu_with, substream_bits_of, vmid_named, with_streams}

abbrev smmu : Smmu
smmu = smmu_with true true true None

-- ---- Numbers.

pub led_by_zero : clear_number (codes "033") ≡ None
unfolding number_of number_in
led_by_zero = refl

pub hexadecimal : clear_number (codes "0x33") ≡ Some 51
unfolding number_of number_in
hexadecimal = refl

pub zero_alone : clear_number (codes "0") ≡ Some 0
unfolding number_of number_in
zero_alone = refl

-- ---- Streams.

pub with_ats : attachment_named (codes "3=0x103,ats") ≡ Some (record { sid = 3; host = record { sid = 259; ats = true } })
unfolding attachment_named number_of number_in
with_ats = refl

pub without_ats : attachment_named (codes "3=0x103") ≡ Some (record { sid = 3; host = record { sid = 259; ats = false } })
unfolding attachment_named number_of number_in
without_ats = refl

pub anything_else_behind_the_comma : attachment_named (codes "3=4,no") ≡ None
unfolding attachment_named number_of number_in
anything_else_behind_the_comma = refl

pub one_stream_alone : attachment_named (codes "3") ≡ None
unfolding attachment_named number_of number_in
one_stream_alone = refl

pub stream_of_33_bits : attachment_named (codes "3=0x100000000") ≡ None
unfolding attachment_named number_of number_in
stream_of_33_bits = refl

-- ---- The guest.

pub most_substreams : substream_bits_of None ≡ 20
most_substreams = refl

pub vmid_of_17_bits : vmid_named smmu (codes "0x10000") ≡ None
unfolding number_of number_in
vmid_of_17_bits = refl

pub vmid_of_9_bits : vmid_named (smmu_with true true false None) (codes "256") ≡ None
unfolding number_of number_in
vmid_of_9_bits = refl

pub guest_without_streams : guest_of smmu (codes "33") [] ≡ Ok (record { vmid = 33; smmu = smmu; streams = [] })
unfolding number_of number_in with_streams
guest_without_streams = refl

pub vmid_is_judged_first : guest_of smmu (codes "x") (codes "x" ∷ []) ≡ Err BadVmid
unfolding number_of number_in with_streams
vmid_is_judged_first = refl

pub first_fault_is_told : guest_of smmu (codes "33") (codes "3=4" ∷ codes "x" ∷ codes "5=4" ∷ []) ≡ Err BadStream
unfolding number_of number_in with_streams attachment_named
first_fault_is_told = refl

pub stream_of_the_host_twice : guest_of smmu (codes "33") (codes "3=4" ∷ codes "5=4" ∷ []) ≡ Err (Refused Used)
unfolding number_of number_in with_streams attachment_named
stream_of_the_host_twice = refl

pub in_order : guest_of smmu (codes "33") (codes "3=4" ∷ codes "5=6,ats" ∷ [])
    ≡ Ok (record { vmid = 33; smmu = smmu; streams = record { sid = 3; host = record { sid = 4; ats = false } } ∷ record { sid = 5; host = record { sid = 6; ats = true } } ∷ [] })
unfolding number_of number_in with_streams attachment_named
in_order = refl
