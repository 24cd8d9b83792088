-- What a command reaches, as C gets it.
use Rattle.std.specs.Prelude.{◌≡◌, ◌+◌, ◌-◌, ◌*◌, Result, Ok, Err}
use Rattle.cmdcodec.specs.declared.command.Command.{Command}
use Rattle.cmdcodec.specs.declared.ill.Ill.{Ill}
use Rattle.regions.specs.declared.accesses.Accesses.{Accesses}
use Rattle.regions.specs.declared.accesses.Accesses.TheVariants as accesses
use Rattle.regions.specs.declared.address_spaces.AddressSpaces.{AddressSpaces}
use Rattle.regions.specs.declared.address_spaces.AddressSpaces.TheVariants as spaces
use Rattle.regions.specs.declared.pages.Pages.{Pages}
use Rattle.regions.specs.declared.pages.Pages.TheVariants as pages
use Rattle.regions.specs.declared.region.Region.{Region}
use Rattle.regions.specs.declared.region.Region.TheVariants as region
use Rattle.regions.specs.declared.space.Space.{Space}
use Rattle.regions.specs.declared.space.Space.TheVariants.{Stage1, Stage2, El2}
use Rattle.regions.specs.declared.substreams.Substreams.{Substreams}
use Rattle.regions.specs.declared.substreams.Substreams.TheVariants as substreams
use Rattle.regions.specs.CommandRegions.{region_of}
use Rattle.smmuq_c.specs.declared.reached.RegionWords.{RegionWords}

abbrev pub no_region : RegionWords
no_region = record {
  kind = 0;
  sid = 0;
  last_sid = 0;
  substreams = 0;
  ssid = 0;
  vmid = 0;
  asids = 0;
  asid = 0;
  first = 0;
  last = 0;
}

-- the first and the last byte of the pages
abbrev pub with_pages : Pages → RegionWords → RegionWords
with_pages pages.Every w = record w { first = 0; last = 0xffffffffffffffff }
with_pages (pages.Run run) w =
    record w { first = run.first * 4096; last = (run.end - 1) * 4096 + 4095 }

abbrev pub with_spaces : AddressSpaces → RegionWords → RegionWords
with_spaces spaces.Every w = w
with_spaces (spaces.OneAndGlobal asid) w = record w { asids = 1; asid = asid }
with_spaces (spaces.One asid) w = record w { asids = 2; asid = asid }

abbrev pub with_substreams : Substreams → RegionWords → RegionWords
with_substreams substreams.Every w = w
with_substreams (substreams.One ssid) w = record w { substreams = 2; ssid = ssid }

abbrev pub with_accesses : Accesses → RegionWords → RegionWords
with_accesses accesses.Every w = w
with_accesses accesses.WithSubstream w = record w { substreams = 1 }
with_accesses (accesses.OfSubstream ssid) w = record w { substreams = 2; ssid = ssid }

abbrev pub space_words : Space → RegionWords
space_words (Stage1 vmid spaces) = with_spaces spaces (record no_region { kind = 3; vmid = vmid })
space_words (Stage2 vmid) = record no_region { kind = 4; vmid = vmid }
space_words (El2 spaces) = with_spaces spaces (record no_region { kind = 5 })

abbrev pub region_words : Region → RegionWords
region_words region.Nothing = no_region
region_words (region.Streams first last) =
    record no_region { kind = 1; sid = first; last_sid = last }
region_words (region.Descriptors sid substreams) =
    with_substreams substreams (record no_region { kind = 2; sid = sid })
region_words (region.Translations space pages) = with_pages pages (space_words space)
region_words (region.Endpoint sid accesses pages) = with_pages pages
    (with_accesses accesses (record no_region { kind = 8; sid = sid }))
region_words (region.Machine vmid) =
    with_pages pages.Every (record no_region { kind = 6; vmid = vmid })
region_words region.EveryMachine = with_pages pages.Every (record no_region { kind = 7 })

-- What legal words reach is told.
abbrev pub HasReached : Result Command Ill → RegionWords → RegionWords → Type 0
HasReached (Ok command) old new = new ≡ region_words (region_of command)
HasReached (Err ill) old new = new ≡ old
