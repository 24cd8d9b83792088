-- The address spaces whose translations are invalidated.
use Rattle.std.specs.Prelude.{◌≡◌, ℕ, ◌^◌, Bool, true, false, ◌==◌, ◌&&◌, Some, None}
use Rattle.cmdcodec.specs.declared.command.Command.{Command}
use Rattle.cmdcodec.specs.declared.command.Command.TheVariants.{TlbiNhAll, TlbiNhAsid, TlbiEl2All, TlbiEl2Asid, TlbiS12Vmall, TlbiNhVa, TlbiNhVaa, TlbiEl2Va, TlbiEl2Vaa, TlbiS2Ipa}
use Rattle.cmdcodec.specs.declared.reach.Reach.{Reach}
use Rattle.caches.specs.declared.tag.Tag.{Tag}
use Rattle.caches.specs.declared.tag.Tag.TheVariants.{S1, El2}
use Rattle.caches.specs.declared.tag.Scope.TheVariants.{Global}
use Rattle.caches.specs.Blocks.{holds}
use Rattle.caches.specs.Covers.{stage1, stage2, el2, reaches}
use Rattle.invalidations.specs.declared.space.Space.{Space}
use Rattle.invalidations.specs.declared.space.Space.TheVariants.{Stage1, Hypervisor, Stage2}

-- the number of its pages
abbrev pub size_of : Space → ℕ
size_of (Stage1 vmid asid) = 2 ^ 52
size_of (Hypervisor asid) = 2 ^ 52
size_of (Stage2 vmid) = 2 ^ 40

-- the command by address for it
abbrev pub command_for : Space → Bool → ℕ → Reach → Command
command_for (Stage1 vmid (Some asid)) leaf page reach = TlbiNhVa vmid asid leaf page reach
command_for (Stage1 vmid None) leaf page reach = TlbiNhVaa vmid leaf page reach
command_for (Hypervisor (Some asid)) leaf page reach = TlbiEl2Va asid leaf page reach
command_for (Hypervisor None) leaf page reach = TlbiEl2Vaa leaf page reach
command_for (Stage2 vmid) leaf page reach = TlbiS2Ipa vmid leaf page reach

-- The tag is of a translation for the space, global or its own, whose block holds the page.
abbrev pub translates : Space → ℕ → Tag → Bool
translates (Stage1 vmid (Some asid)) page = stage1 (λ v scope pages. v == vmid && (reaches asid scope && holds pages page))
translates (Stage1 vmid None) page = stage1 (λ v scope pages. v == vmid && holds pages page)
translates (Hypervisor (Some asid)) page = el2 (λ scope pages. reaches asid scope && holds pages page)
translates (Hypervisor None) page = el2 (λ scope pages. holds pages page)
translates (Stage2 vmid) page = stage2 (λ v pages. v == vmid && holds pages page)

-- the command for all of its pages
abbrev pub whole_command : Space → Command
whole_command (Stage1 vmid (Some asid)) = TlbiNhAsid vmid asid
whole_command (Stage1 vmid None) = TlbiNhAll vmid
whole_command (Hypervisor (Some asid)) = TlbiEl2Asid asid
whole_command (Hypervisor None) = TlbiEl2All
whole_command (Stage2 vmid) = TlbiS12Vmall vmid

-- The command is for all pages of some space.
abbrev pub IsForWhole : Command → Type 0
IsForWhole command = (space : Space) × (command ≡ whole_command space)

-- the space, with those that share its global pages
abbrev pub with_global_pages : Space → Space
with_global_pages (Stage1 vmid asid) = Stage1 vmid None
with_global_pages (Hypervisor asid) = Hypervisor None
with_global_pages (Stage2 vmid) = Stage2 vmid

-- The tag is of one address space.
abbrev pub is_of_one : Tag → Bool
is_of_one (S1 vmid Global page span) = false
is_of_one (El2 Global page span) = false
is_of_one other = true

-- The space is one address space of several that share global translations.
abbrev pub is_one : Space → Bool
is_one (Stage1 vmid (Some asid)) = true
is_one (Hypervisor (Some asid)) = true
is_one other = false
