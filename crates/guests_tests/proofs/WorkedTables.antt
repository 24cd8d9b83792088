-- What the definitions say of a table of two guests.
use Rattle.std.proofs.Common.{◌≡◌, ℕ, true, false, List, [], ◌∷◌, Some, None, refl, arith}
use Rattle.smmu_features.specs.declared.smmu.Smmu.{Smmu}
use Rattle.smmu_features.specs.IdRegisters.{smmu_of}
use Rattle.guest_commands.specs.declared.streams.Attachment.{Attachment}
use Rattle.guest_commands.specs.declared.streams.HostStream.{HostStream}
use Rattle.guest_commands.specs.Mappings.{Mapping}
use Rattle.guest_table.specs.declared.fault.TableFault.TheVariants.{NoGuest, HasStreams, Leaving, Used, OutOfRange}
use Rattle.guest_table.specs.Tables.{Table, table_of, IsTable, guest_of, is_free, IsFirstFree, IsLeastFree, attached_in, detached_in, released, removed, freed}
use Rattle.guest_table.specs.Faults.{refusal, removal, IsAddFault}

-- ---- Guests 1 and 2. The stream 0x103 of the host is 1's, 0x104 and VMID 3 are leaving.

abbrev pub smmu : Smmu
smmu = smmu_of 0x41403 0x210 0x400 0x70

abbrev pub stream : ℕ → HostStream
stream sid = record { sid = sid; ats = true }

abbrev pub with_streams : ℕ → List Attachment → Mapping
with_streams vmid streams = record { vmid = vmid; smmu = smmu; streams = streams }

abbrev pub one : Mapping
one = with_streams 1 (record { sid = 3; host = stream 0x103 } ∷ [])

abbrev pub other : Mapping
other = with_streams 2 []

abbrev pub table : Table
table = table_of smmu (one ∷ other ∷ []) (0x104 ∷ []) (3 ∷ [])

-- ---- Guests.

pub second_guest : guest_of table 2 ≡ Some other
second_guest = refl

pub no_third_guest : guest_of table 3 ≡ None
no_third_guest = refl

-- ---- What is refused.

pub leaving_stream_is_refused : refusal table 2 5 0x104 ≡ Some Leaving
leaving_stream_is_refused = refl

pub stream_of_another_is_refused : refusal table 2 5 0x103 ≡ Some Used
stream_of_another_is_refused = refl

pub wide_stream_is_refused : refusal table 2 5 0x10000 ≡ Some OutOfRange
wide_stream_is_refused = refl

pub nobodys_stream_is_taken : refusal table 2 5 0x105 ≡ None
nobodys_stream_is_taken = refl

pub streams_hold_a_guest : removal table 1 ≡ Some HasStreams
streams_hold_a_guest = refl

pub no_guest_is_no_guest : removal table 3 ≡ Some NoGuest
no_guest_is_no_guest = refl

-- ---- VMIDs.

pub leaving_vmid_is_not_free : is_free table.guests table.leaving_vmids 3 ≡ false
leaving_vmid_is_not_free = refl

pub host_keeps_0 : (IsFirstFree [] [] 0) → ⊥
host_keeps_0 h = let positive = h.positive in omega arith

pub two_is_not_least : IsFirstFree [] [] 2 → ⊥
two_is_not_least h = let e : true ≡ false = h.least 1 (omega arith) (omega arith) in cc

pub vmid_of_9_bits_is_not_had : IsLeastFree (table_of (smmu_of 0x1403 0x210 0x400 0x70) [] [] []) 256 → ⊥
vmid_of_9_bits_is_not_had h = let e : false ≡ true = h.had in cc

pub memory_is_no_excuse : IsAddFault (table_of smmu [] [] []) NoGuest → ⊥
memory_is_no_excuse h = h

-- ---- What a call makes of the table.

pub other_guest_stays : (attached_in table 2 5 (stream 0x105)).guests ≡ one ∷ with_streams 2 (record { sid = 5; host = stream 0x105 } ∷ []) ∷ []
other_guest_stays = refl

pub detached_stream_leaves : detached_in table 1 3 ≡ table_of smmu (with_streams 1 [] ∷ other ∷ []) (0x104 ∷ 0x103 ∷ []) (3 ∷ [])
detached_stream_leaves = refl

pub released_stream_is_back : released table 0x104 ≡ table_of smmu (one ∷ other ∷ []) [] (3 ∷ [])
released_stream_is_back = refl

pub another_stream_stays : released table 0x105 ≡ table
another_stream_stays = refl

pub removed_vmid_leaves : removed table 2 ≡ table_of smmu (one ∷ []) (0x104 ∷ []) (3 ∷ 2 ∷ [])
removed_vmid_leaves = refl

pub released_vmid_is_back : freed table 3 ≡ table_of smmu (one ∷ other ∷ []) (0x104 ∷ []) []
released_vmid_is_back = refl

-- ---- Two guests with one VMID are no table.

pub one_vmid_is_no_table : IsTable (table_of smmu (with_streams 1 [] ∷ with_streams 1 [] ∷ []) [] []) → ⊥
one_vmid_is_no_table h = (h.separate 0 1 other (omega arith) (omega arith)).machines refl
