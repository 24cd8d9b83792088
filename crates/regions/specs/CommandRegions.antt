-- The region of each command.
use Rattle.std.specs.Prelude.{ℕ, ◌+◌, ◌-◌, ◌^◌, ◌==◌, Bool, true, false, Option, Some, None, if◌then◌else◌}
use Rattle.cmdcodec.specs.declared.command.Command.{Command}
use Rattle.cmdcodec.specs.declared.command.Command.TheVariants.{CfgiSte, CfgiSteRange, CfgiCd, CfgiCdAll, TlbiNhAll, TlbiNhAsid, TlbiNhVa, TlbiNhVaa, TlbiEl2All, TlbiEl2Asid, TlbiEl2Va, TlbiEl2Vaa, TlbiS12Vmall, TlbiS2Ipa, TlbiNsnhAll, AtcInv}
use Rattle.cmdcodec.specs.declared.reach.PageRun.{PageRun}
use Rattle.cmdcodec.specs.PageRuns.{run_of}
use Rattle.caches.specs.Blocks.{aligned}
use Rattle.regions.specs.declared.accesses.Accesses.{Accesses}
use Rattle.regions.specs.declared.accesses.Accesses.TheVariants as accesses
use Rattle.regions.specs.declared.address_spaces.AddressSpaces.TheVariants as spaces
use Rattle.regions.specs.declared.pages.Pages.{Pages}
use Rattle.regions.specs.declared.pages.Pages.TheVariants as pages
use Rattle.regions.specs.declared.space.Space.{Space}
use Rattle.regions.specs.declared.space.Space.TheVariants.{Stage1, Stage2, El2}
use Rattle.regions.specs.declared.substreams.Substreams.TheVariants as substreams
use Rattle.regions.specs.declared.region.Region.{Region}
use Rattle.regions.specs.declared.region.Region.TheVariants.{Nothing, Streams, Descriptors, Translations, Machine, EveryMachine, Endpoint}

-- by SSV, SubstreamID and Global
abbrev pub accesses_of : Bool → ℕ → Bool → Accesses
accesses_of false ssid global = accesses.Every
accesses_of true ssid true = accesses.WithSubstream
accesses_of true ssid false = accesses.OfSubstream ssid

-- the streams of the aligned block of 2^(Range+1) that holds one
abbrev pub streams_of_block : ℕ → ℕ → Region
streams_of_block sid range = let block = aligned sid (2 ^ (range + 1)) in Streams block.first (block.end - 1)

-- the pages of the aligned block of 2^Size that holds one: all for 52
abbrev pub pages_of_block : ℕ → ℕ → Pages
pages_of_block page size = if size == 52 then pages.Every else pages.Run (aligned page (2 ^ size))

-- a command's run of pages, or all pages if it has none
abbrev pub pages_of_run : Option PageRun → Pages
pages_of_run None = pages.Every
pages_of_run (Some run) = pages.Run run

-- An invalidation by ASID spares global translations, one by address and ASID doesn't.
abbrev pub space_of : Command → Option Space
space_of (TlbiNhAll vmid) = Some (Stage1 vmid spaces.Every)
space_of (TlbiNhAsid vmid asid) = Some (Stage1 vmid (spaces.One asid))
space_of (TlbiNhVa vmid asid leaf page reach) = Some (Stage1 vmid (spaces.OneAndGlobal asid))
space_of (TlbiNhVaa vmid leaf page reach) = Some (Stage1 vmid spaces.Every)
space_of TlbiEl2All = Some (El2 spaces.Every)
space_of (TlbiEl2Asid asid) = Some (El2 (spaces.One asid))
space_of (TlbiEl2Va asid leaf page reach) = Some (El2 (spaces.OneAndGlobal asid))
space_of (TlbiEl2Vaa leaf page reach) = Some (El2 spaces.Every)
space_of (TlbiS2Ipa vmid leaf page reach) = Some (Stage2 vmid)
space_of other = None

-- the region of a command for this space, or for none
abbrev pub region_in : Option Space → Command → Region
region_in (Some space) command = Translations space (pages_of_run (run_of command))
region_in None (CfgiSte sid leaf) = Streams sid sid
region_in None (CfgiSteRange sid range) = streams_of_block sid range
region_in None (CfgiCd sid ssid leaf) = Descriptors sid (substreams.One ssid)
region_in None (CfgiCdAll sid) = Descriptors sid substreams.Every
region_in None (TlbiS12Vmall vmid) = Machine vmid
region_in None TlbiNsnhAll = EveryMachine
region_in None (AtcInv sid ssv ssid global size page) = Endpoint sid (accesses_of ssv ssid global) (pages_of_block page size)
region_in None other = Nothing

abbrev pub region_of : Command → Region
region_of command = region_in (space_of command) command
