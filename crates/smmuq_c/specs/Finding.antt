-- Look-up by address: the words that say an address space, and what is told.
use Rattle.std.specs.Prelude.{◌≡◌, ◌<◌, ◌/◌, ◌^◌, ◌⊎◌, ℕ, Option, None, Some, IfSome}
use Rattle.caches.specs.declared.address_space.AddressSpace.{AddressSpace}
use Rattle.caches.specs.declared.address_space.AddressSpace.TheVariants.{S1, S2, El2, Atc}
use Rattle.caches.specs.declared.tag.Entry.{Entry}
use Rattle.caches.specs.Finding.{IsFound}
use Rattle.engine.specs.Units.{UnitValue}
use Rattle.smmuq_c.specs.declared.object.Object.{Object}
use Rattle.smmuq_c.specs.declared.status.Status.{Status}
use Rattle.smmuq_c.specs.declared.tags.TagWords.{TagWords}
use Rattle.smmuq_c.specs.declared.words.Held.{Held}
use Rattle.smmuq_c.specs.Calls.{OfSaid}
use Rattle.smmuq_c.specs.Entries.{entry_status, entry_words}
use Rattle.smmuq_c.specs.Lists.{tag_words}

-- 2^32 - 1 stands for none
abbrev pub no_substream : ℕ
no_substream = 4294967295

abbrev pub SaysSubstream : ℕ → Option ℕ → Type 0
SaysSubstream space None = space ≡ no_substream
SaysSubstream space (Some ssid) = (space ≡ ssid) × (ssid < 2 ^ 20)

abbrev pub IsSubstreamOf : ℕ → Option (Option ℕ) → Type 0
IsSubstreamOf space None = (ssid : Option ℕ) → ¬ SaysSubstream space ssid
IsSubstreamOf space (Some ssid) = SaysSubstream space ssid

-- The kind is that of the space's entries, and the numbers are its own, in range.
abbrev pub SaysSpace : ℕ → ℕ → ℕ → AddressSpace → Type 0
SaysSpace kind owner space (S1 vmid asid) = (kind ≡ 3) × (owner ≡ vmid) × (vmid < 2 ^ 16) × (space ≡ asid) × (asid < 2 ^ 16)
SaysSpace kind owner space (S2 vmid) = (kind ≡ 4) × (owner ≡ vmid) × (vmid < 2 ^ 16)
SaysSpace kind owner space (El2 asid) = (kind ≡ 5) × (space ≡ asid) × (asid < 2 ^ 16)
SaysSpace kind owner space (Atc sid ssid) = (kind ≡ 6) × (owner ≡ sid) × SaysSubstream space ssid

abbrev pub IsSpaceOf : ℕ → ℕ → ℕ → Option AddressSpace → Type 0
IsSpaceOf kind owner space None = (s : AddressSpace) → ¬ SaysSpace kind owner space s
IsSpaceOf kind owner space (Some s) = SaysSpace kind owner space s

-- The words say this address space, and the mask has no bit but those of the spans 0 to 52; or that isn't so.
abbrev pub IsSoughtBy : ℕ → ℕ → ℕ → ℕ → Option AddressSpace → Type 0
IsSoughtBy kind owner space spans None = IsSpaceOf kind owner space None ⊎ ¬ (spans < 2 ^ 53)
IsSoughtBy kind owner space spans (Some s) = SaysSpace kind owner space s × (spans < 2 ^ 53)

-- It told the entry that is found, if one is, and changed nothing.
pub record HasFound (page spans : ℕ) (told_tag : TagWords) (told : Held) (space : AddressSpace) (old new : UnitValue) (status : Status) : Type 0 where
  pub answer : Option Entry
  pub found : IsFound old.caches.entries space page spans answer
  pub status_is : status ≡ entry_status answer
  pub tag_is : IfSome answer (λ entry. told_tag ≡ tag_words entry.tag)
  pub held_is : IfSome answer (λ entry. told ≡ entry_words entry)
  pub new_is : new ≡ old

-- what the call does to a unit or an engine
abbrev pub Finds : ℕ → ℕ → ℕ → ℕ → ℕ → TagWords → Held → Object → Object → Status → Type 0
Finds kind owner space address spans tag held = OfSaid (IsSoughtBy kind owner space spans) (HasFound (address / 4096) spans tag held)
