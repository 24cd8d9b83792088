-- All guests of a host.
use Rattle.std.specs.Prelude.{◌≡◌, ◌≢◌, ℕ, ◌<◌, ◌≤◌, ◌==◌, ◌||◌, not, Bool, true, false, List, [], ◌∷◌, ◌++◌, AllPairs, map, length, Option, Some, None, if◌then◌else◌}
use Rattle.std.specs.List.{list_any, find, filter, slice_index_or}
use Rattle.caches.specs.declared.tag.Tag.{Tag}
use Rattle.smmu_features.specs.declared.smmu.Smmu.{Smmu}
use Rattle.guest_commands.specs.declared.streams.Attachment.{Attachment}
use Rattle.guest_commands.specs.declared.streams.HostStream.{HostStream}
use Rattle.guest_commands.specs.Limits.{has_vmid}
use Rattle.guest_commands.specs.Mappings.{Mapping, without_streams, attached_to, attached, detached, is_used}
use Rattle.guest_commands.specs.Entries.{IsOfGuest}
use Rattle.guest_commands.specs.Laws.{AreSeparate}

-- What the host's SMMU has, what each guest's numbers stand for, in the order in which the guests were made, and which
-- streams and VMIDs of the host were a guest's and haven't been released since.
pub record Table : Type 0 where
  pub smmu : Smmu
  pub guests : List Mapping
  pub leaving_streams : List ℕ
  pub leaving_vmids : List ℕ

abbrev pub table_of : Smmu → List Mapping → List ℕ → List ℕ → Table
table_of smmu guests streams vmids = record { smmu = smmu; guests = guests; leaving_streams = streams; leaving_vmids = vmids }

abbrev pub empty : Smmu → Table
empty smmu = table_of smmu [] [] []

-- No two guests have a VMID or a stream of the host in common.
pub record IsTable (table : Table) : Type 0 where
  pub separate : AllPairs AreSeparate table.guests

-- the guest with this VMID, if there is one
abbrev pub guest_of : Table → ℕ → Option Mapping
guest_of table vmid = find (λ guest. guest.vmid == vmid) table.guests

-- The guest with this VMID stands there.
pub record IsPlace (guests : List Mapping) (vmid place : ℕ) : Type 0 where
  pub in_range : place < length guests
  pub vmid_there : (d : Mapping) → (slice_index_or guests place d).vmid ≡ vmid
  pub found : (d : Mapping) → find (λ guest. guest.vmid == vmid) guests ≡ Some (slice_index_or guests place d)

-- Some stream of some guest is this one of the host.
abbrev pub is_used_in : Table → ℕ → Bool
is_used_in table host = list_any (λ guest. is_used guest host) table.guests

abbrev pub is_leaving : Table → ℕ → Bool
is_leaving table host = list_any (λ other. other == host) table.leaving_streams

-- ---- VMIDs

-- No guest has the VMID, and it isn't leaving.
abbrev pub is_free : List Mapping → List ℕ → ℕ → Bool
is_free guests leaving vmid = not (list_any (λ guest. guest.vmid == vmid) guests || list_any (λ other. other == vmid) leaving)

abbrev pub NoneIsFreeBelow : List Mapping → List ℕ → ℕ → Type 0
NoneIsFreeBelow guests leaving end = (vmid : ℕ) → 1 ≤ vmid → vmid < end → is_free guests leaving vmid ≡ false

-- the least free one from 1 on
pub record IsFirstFree (guests : List Mapping) (leaving : List ℕ) (vmid : ℕ) : Type 0 where
  pub free : is_free guests leaving vmid ≡ true
  pub positive : 1 ≤ vmid
  pub least : NoneIsFreeBelow guests leaving vmid

-- The SMMU has it, too.
pub record IsLeastFree (table : Table) (vmid : ℕ) : Type 0 where
  pub first : IsFirstFree table.guests table.leaving_vmids vmid
  pub had : has_vmid table.smmu vmid ≡ true

-- None that the SMMU has is free.
abbrev pub NoneIsFree : Table → Type 0
NoneIsFree table = (vmid : ℕ) → 1 ≤ vmid → has_vmid table.smmu vmid ≡ true → is_free table.guests table.leaving_vmids vmid ≡ false

-- ---- what a call makes of the table

abbrev pub added : Table → ℕ → Table
added table vmid = record table { guests = table.guests ++ without_streams vmid table.smmu ∷ [] }

-- each guest, the one with this VMID changed
abbrev pub changed : List Mapping → ℕ → (Mapping → Mapping) → List Mapping
changed guests vmid change = map (λ guest. if guest.vmid == vmid then change guest else guest) guests

abbrev pub attached_in : Table → ℕ → ℕ → HostStream → Table
attached_in table vmid sid host = record table { guests = changed table.guests vmid (λ guest. attached guest sid host) }

abbrev pub host_sid : Attachment → ℕ
host_sid stream = stream.host.sid

-- the streams of the host that this stream of the guest is
abbrev pub hosts_of : Option Mapping → ℕ → List ℕ
hosts_of None sid = []
hosts_of (Some guest) sid = map host_sid (attached_to guest.streams sid)

abbrev pub detached_in : Table → ℕ → ℕ → Table
detached_in table vmid sid = record table {
  guests = changed table.guests vmid (λ guest. detached guest sid);
  leaving_streams = table.leaving_streams ++ hosts_of (guest_of table vmid) sid;
}

abbrev pub without : List ℕ → ℕ → List ℕ
without numbers number = filter (λ other. not (other == number)) numbers

abbrev pub released : Table → ℕ → Table
released table host = record table { leaving_streams = without table.leaving_streams host }

abbrev pub removed : Table → ℕ → Table
removed table vmid = record table {
  guests = filter (λ guest. not (guest.vmid == vmid)) table.guests;
  leaving_vmids = table.leaving_vmids ++ vmid ∷ [];
}

abbrev pub freed : Table → ℕ → Table
freed table vmid = record table { leaving_vmids = without table.leaving_vmids vmid }

-- ---- entries

-- No entry of the host is of two guests of the table.
abbrev pub HaveNoEntryInCommon : Table → Type 0
HaveNoEntryInCommon table =
    (m n : ℕ) (one other : Mapping) (tag : Tag) → m ≢ n → guest_of table m ≡ Some one → guest_of table n ≡ Some other
    → IsOfGuest one tag → IsOfGuest other tag → ⊥
