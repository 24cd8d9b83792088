-- What a region may not be: for each part of what is said of a command's region a case in which it is false.
use Rattle.std.proofs.Common.{◌≡◌, ℕ, true, false, arith}
use Rattle.cmdcodec.specs.declared.command.Command.TheVariants.{TlbiNhAll, TlbiNhAsid}
use Rattle.caches.specs.declared.tag.Scope.TheVariants.{Global}
use Rattle.caches.specs.declared.tag.Tag.TheVariants.{S1}
use Rattle.regions.specs.declared.accesses.Accesses.TheVariants as accesses
use Rattle.regions.specs.declared.address_spaces.AddressSpaces.TheVariants as spaces
use Rattle.regions.specs.declared.pages.Addresses.{Addresses}
use Rattle.regions.specs.declared.pages.Pages.{Pages}
use Rattle.regions.specs.declared.pages.Pages.TheVariants as pages
use Rattle.regions.specs.declared.space.Space.TheVariants.{Stage1}
use Rattle.regions.specs.declared.region.Region.TheVariants.{Nothing, Streams, Translations, Endpoint}
use Rattle.regions.specs.Regions.{HasPage, HasPages, HoldsWhatIsCovered, IsAmong, IsNotEmpty}

abbrev run : ℕ → ℕ → Pages
run first end = pages.Run (record { first = first; end = end })

pub an_empty_run_is_refused : HasPages (run 5 5) → ⊥
an_empty_run_is_refused some = omega (arith, some.0)

pub a_run_past_the_end_is_refused : HasPages (run 0 4503599627370497) → ⊥
a_run_past_the_end_is_refused some = omega (arith, some.1)

pub streams_in_order_alone : IsNotEmpty (Streams 6 5) → ⊥
streams_in_order_alone some = omega (arith, some)

pub an_endpoint_has_pages : IsNotEmpty (Endpoint 7 accesses.Every (run 5 5)) → ⊥
an_endpoint_has_pages some = omega (arith, some.0)

pub translations_have_pages : IsNotEmpty (Translations (Stage1 1 spaces.Every) (run 5 5)) → ⊥
translations_have_pages some = omega (arith, some.0)

-- CMD_TLBI_NH_ALL reaches something.
pub what_is_covered_is_held : HoldsWhatIsCovered (TlbiNhAll 1) Nothing → ⊥
what_is_covered_is_held holds = let same : true ≡ false = holds (S1 1 Global 0 0) (omega arith) in cc

-- CMD_TLBI_NH_ASID doesn't reach global translations.
pub what_is_held_is_covered : HoldsWhatIsCovered (TlbiNhAsid 1 2) (Translations (Stage1 1 spaces.Every) pages.Every) → ⊥
what_is_held_is_covered holds = let same : false ≡ true = holds (S1 1 Global 0 0) (omega arith) in cc

-- The addresses of page 5.
abbrev fifth : Addresses
fifth = record { first = 20480; last = 24575 }

pub the_byte_behind_isnt_among : IsAmong 24576 fifth → ⊥
the_byte_behind_isnt_among is = let last = is.1 in omega (arith, last)

pub the_byte_ahead_isnt_among : IsAmong 20479 fifth → ⊥
the_byte_ahead_isnt_among is = let first = is.0 in omega (arith, first)

pub a_page_of_no_run : HasPage (run 5 6) 6 → ⊥
a_page_of_no_run is = let end = is.1 in omega (arith, end)
