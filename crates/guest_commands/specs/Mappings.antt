-- What a guest's numbers stand for on the host.
use Rattle.std.specs.Prelude.{◌≡◌, ◌≢◌, ◌≤◌, ℕ, ◌==◌, not, Bool, true, List, [], ◌∷◌, ◌++◌, length, All, AllPairs, Contains, filter, Option, Some, None, if◌then◌else◌}
use Rattle.std.specs.List.{list_any}
use Rattle.smmu_features.specs.declared.smmu.Smmu.{Smmu}
use Rattle.guest_commands.specs.declared.streams.Attachment.{Attachment}
use Rattle.guest_commands.specs.declared.streams.HostStream.{HostStream}
use Rattle.guest_commands.specs.declared.fault.AttachFault.{AttachFault}
use Rattle.guest_commands.specs.declared.fault.AttachFault.TheVariants.{OutOfRange, Used, Full}
use Rattle.guest_commands.specs.Limits.{has_vmid, has_stream}

-- The VMID that a guest has on the host, what the host's SMMU has, and which streams of the host its streams are, in the
-- order in which they were attached.
pub record Mapping : Type 0 where
  pub vmid : ℕ
  pub smmu : Smmu
  pub streams : List Attachment

abbrev pub without_streams : ℕ → Smmu → Mapping
without_streams vmid smmu = record { vmid = vmid; smmu = smmu; streams = [] }

-- The guest's stream is this one of the host, or it is one of several that it is.
abbrev pub IsAttached : Mapping → ℕ → HostStream → Type 0
IsAttached mapping sid host = Contains mapping.streams (record { sid = sid; host = host })

-- the streams of the host that this stream of the guest is
abbrev pub attached_to : List Attachment → ℕ → List Attachment
attached_to streams sid = filter (λ stream. stream.sid == sid) streams

-- Some stream of the guest is this one of the host.
abbrev pub is_used : Mapping → ℕ → Bool
is_used mapping host = list_any (λ stream. stream.host.sid == host) mapping.streams

-- No stream of the host stands for two of the guest, or twice for one.
abbrev pub AreApart : Attachment → Attachment → Type 0
AreApart one other = one.host.sid ≢ other.host.sid

-- The host's SMMU has the VMID and the streams, each of which is in use once, and no stream of the guest is more than 63.
pub record IsMapping (mapping : Mapping) : Type 0 where
  pub machine : has_vmid mapping.smmu mapping.vmid ≡ true
  pub had : All (λ stream. has_stream mapping.smmu stream.host.sid ≡ true) mapping.streams
  pub apart : AllPairs AreApart mapping.streams
  pub few : (sid : ℕ) → length (attached_to mapping.streams sid) ≤ 63

abbrev pub attached : Mapping → ℕ → HostStream → Mapping
attached mapping sid host = record mapping { streams = mapping.streams ++ record { sid = sid; host = host } ∷ [] }

abbrev pub detached : Mapping → ℕ → Mapping
detached mapping sid = record mapping { streams = filter (λ stream. not (stream.sid == sid)) mapping.streams }

-- why this stream of the host can't be attached to this one of the guest, if so
abbrev pub refusal : Mapping → ℕ → ℕ → Option AttachFault
refusal mapping sid host =
    if not (has_stream mapping.smmu host) then Some OutOfRange
    else if is_used mapping host then Some Used
    else if length (attached_to mapping.streams sid) == 63 then Some Full
    else None
