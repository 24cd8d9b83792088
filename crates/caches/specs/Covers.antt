-- Which tags a command covers.
use Rattle.std.specs.Prelude.{ℕ, ◌+◌, ◌^◌, Bool, true, false, ◌==◌, ◌&&◌, Option, Some, None}
use Rattle.cmdcodec.specs.declared.reach.PageRun.{PageRun}
use Rattle.cmdcodec.specs.declared.command.Command.{Command}
use Rattle.cmdcodec.specs.declared.command.Command.TheVariants.{CfgiSte, CfgiSteRange, CfgiCd, CfgiCdAll, TlbiNhAll, TlbiNhAsid, TlbiNhVa, TlbiNhVaa, TlbiEl2All, TlbiEl2Asid, TlbiEl2Va, TlbiEl2Vaa, TlbiS12Vmall, TlbiS2Ipa, TlbiNsnhAll, AtcInv}
use Rattle.cmdcodec.specs.PageRuns.{run_from}
use Rattle.caches.specs.declared.tag.Scope.{Scope}
use Rattle.caches.specs.declared.tag.Scope.TheVariants.{Global, Of}
use Rattle.caches.specs.declared.tag.Tag.{Tag}
use Rattle.caches.specs.declared.tag.Tag.TheVariants.{Ste, Cd, S1, S2, El2, Atc}
use Rattle.caches.specs.Blocks.{block, aligned, holds, meets}

-- ---- Tags of one kind that pass a test.

-- stream table entries and context descriptors of a stream
abbrev pub of_streams : (ℕ → Bool) → Tag → Bool
of_streams test (Ste sid) = test sid
of_streams test (Cd sid ssid) = test sid
of_streams test other = false

-- context descriptors of a stream and substream
abbrev pub descriptors : (ℕ → ℕ → Bool) → Tag → Bool
descriptors test (Cd sid ssid) = test sid ssid
descriptors test other = false

-- translations of both stages of a virtual machine
abbrev pub of_machines : (ℕ → Bool) → Tag → Bool
of_machines test (S1 vmid scope page span) = test vmid
of_machines test (S2 vmid page span) = test vmid
of_machines test other = false

-- stage 1 translations of a virtual machine, scope and block
abbrev pub stage1 : (ℕ → Scope → PageRun → Bool) → Tag → Bool
stage1 test (S1 vmid scope page span) = test vmid scope (block page span)
stage1 test other = false

-- stage 2 translations of a virtual machine and block
abbrev pub stage2 : (ℕ → PageRun → Bool) → Tag → Bool
stage2 test (S2 vmid page span) = test vmid (block page span)
stage2 test other = false

-- the hypervisor's translations of a scope and block
abbrev pub el2 : (Scope → PageRun → Bool) → Tag → Bool
el2 test (El2 scope page span) = test scope (block page span)
el2 test other = false

-- an endpoint's translations of a stream, substream and block
abbrev pub endpoints : (ℕ → Option ℕ → PageRun → Bool) → Tag → Bool
endpoints test (Atc sid ssid page span) = test sid ssid (block page span)
endpoints test other = false

-- ---- Address spaces and substreams.

-- the scope is that address space
abbrev pub is_of : ℕ → Scope → Bool
is_of asid Global = false
is_of asid (Of a) = a == asid

-- the scope is global, or that address space
abbrev pub reaches : ℕ → Scope → Bool
reaches asid Global = true
reaches asid (Of a) = a == asid

-- SSV 0: any substream or none. SSV 1, Global 0: that substream. SSV 1, Global 1: any substream, but not
-- none.
abbrev pub is_for : Bool → ℕ → Bool → Option ℕ → Bool
is_for false ssid global other = true
is_for true ssid global None = false
is_for true ssid false (Some s) = s == ssid
is_for true ssid true (Some s) = true

-- ---- The command covers the tag. Leaf narrows nothing.
abbrev pub covers : Command → Tag → Bool
covers (CfgiSte sid leaf) = of_streams (λ s. s == sid)
covers (CfgiSteRange sid range) = of_streams (λ s. holds (aligned sid (2 ^ (range + 1))) s)
covers (CfgiCd sid ssid leaf) = descriptors (λ s ss. s == sid && ss == ssid)
covers (CfgiCdAll sid) = descriptors (λ s ss. s == sid)
covers (TlbiNhAll vmid) = stage1 (λ v scope pages. v == vmid)
covers (TlbiNhAsid vmid asid) = stage1 (λ v scope pages. v == vmid && is_of asid scope)
covers (TlbiNhVa vmid asid leaf page reach) = stage1 (λ v scope pages. v == vmid && (reaches asid scope && meets pages (run_from page reach (2 ^ 52))))
covers (TlbiNhVaa vmid leaf page reach) = stage1 (λ v scope pages. v == vmid && meets pages (run_from page reach (2 ^ 52)))
covers TlbiEl2All = el2 (λ scope pages. true)
covers (TlbiEl2Asid asid) = el2 (λ scope pages. is_of asid scope)
covers (TlbiEl2Va asid leaf page reach) = el2 (λ scope pages. reaches asid scope && meets pages (run_from page reach (2 ^ 52)))
covers (TlbiEl2Vaa leaf page reach) = el2 (λ scope pages. meets pages (run_from page reach (2 ^ 52)))
covers (TlbiS12Vmall vmid) = of_machines (λ v. v == vmid)
covers (TlbiS2Ipa vmid leaf page reach) = stage2 (λ v pages. v == vmid && meets pages (run_from page reach (2 ^ 40)))
covers TlbiNsnhAll = of_machines (λ v. true)
covers (AtcInv sid ssv ssid global size page) = endpoints (λ s ss pages. s == sid && (is_for ssv ssid global ss && meets pages (aligned page (2 ^ size))))
covers other = λ tag. false

-- the block meets the run that a command has, if it has one
abbrev pub meets_run : PageRun → Option PageRun → Bool
meets_run pages None = false
meets_run pages (Some run) = meets pages run
