-- What the definitions say of the commands of an invalidation, of what was gathered, of batches and of endpoints: for each part a case in which they are false, or one that they allow.
use Rattle.std.proofs.Common.{◌≡◌, ℕ, zero, suc, ◌-◌, ◌^◌, ◌≤◌, Bool, true, false, inl, inr, List, [], ◌∷◌, ◌++◌, length, Some, None, refl, ap, sym, subst, arith}
use Rattle.cmdcodec.specs.declared.raw.Raw.{Raw}
use Rattle.cmdcodec.specs.declared.command.Command.{Command}
use Rattle.cmdcodec.specs.declared.command.Command.TheVariants.{TlbiEl2All, TlbiEl2Asid, TlbiEl2Vaa, AtcInv}
use Rattle.cmdcodec.specs.declared.reach.Reach.TheVariants as reach
use Rattle.cmdcodec.specs.declared.reach.Granule.TheVariants.{Kib4}
use Rattle.cmdcodec.specs.PageRuns.{IsIn}
use Rattle.cmdcodec.specs.Words.{encoding}
use Rattle.caches.specs.declared.tag.Scope.TheVariants.{Global}
use Rattle.caches.specs.declared.tag.Tag.{Tag}
use Rattle.caches.specs.declared.tag.Tag.TheVariants.{El2, Atc}
use Rattle.caches.specs.Covers.{covers}
use Rattle.smmu_features.specs.declared.smmu.Smmu.{Smmu}
use Rattle.smmu_features.specs.IdRegisters.{smmu_of}
use Rattle.invalidations.specs.declared.entries.Level.TheVariants.{Two}
use Rattle.invalidations.specs.declared.entries.Entries.TheVariants.{Any, Leaves}
use Rattle.invalidations.specs.declared.space.Space.TheVariants.{Hypervisor}
use Rattle.invalidations.specs.declared.request.Target.{Target}
use Rattle.invalidations.specs.declared.policy.Policy.{Policy}
use Rattle.invalidations.specs.declared.interval.Interval.{Interval}
use Rattle.invalidations.specs.declared.endpoint.Endpoint.{Endpoint}
use Rattle.invalidations.specs.declared.endpoint.Substreams.{Substreams}
use Rattle.invalidations.specs.declared.endpoint.Substreams.TheVariants.{All, One, Each}
use Rattle.invalidations.specs.declared.fault.InvalidationFault.TheVariants.{Unsupported, PastEnd}
use Rattle.invalidations.specs.declared.invalidation.Bytes.{Bytes}
use Rattle.invalidations.specs.declared.invalidation.Bytes.TheVariants.{Everything, Range}
use Rattle.invalidations.specs.declared.invalidation.ByteRange.{ByteRange}
use Rattle.invalidations.specs.declared.invalidation.Invalidation.{Invalidation}
use Rattle.invalidations.specs.Laws.{pages_from, IsCoveredBy}
use Rattle.invalidations.specs.Plans.{Plan, commands_of, are_few, request_of}
use Rattle.invalidations.specs.Hints.{AreWordsOf, IsUnreserved}
use Rattle.invalidations.specs.Gathering.{Gathered, IsAdded, IsTaken, nothing_for, touch}
use Rattle.invalidations.specs.Filling.{IsMoved, IsFilled, HasNoSync}
use Rattle.invalidations.specs.Endpoints.{IsLeastBlock, ReachesEndpoint, IsForBytes, is_cached, endpoint_refusal}
use Rattle.invalidations.specs.Reaching.{IsInLeafOf, IsServed, IsUnspared, IsMeant, IsByAddress, IsWhole, AreByAddressOrWhole, Reaches}

-- S1P, Hyp and ATS, ranges, all granules
abbrev smmu : Smmu
smmu = smmu_of 0x602 0x210 0x400 0x70

-- EL2's pages by ranges; its blocks of 2 MiB by ranges and without; the pages of one of its address spaces
abbrev ranged : Target
ranged = record { space = Hypervisor None; granule = Kib4; entries = Any; ranged = true }

abbrev blocks : Bool → Target
blocks ranges = record { space = Hypervisor None; granule = Kib4; entries = Leaves (Some Two); ranged = ranges }

abbrev of_asid : Target
of_asid = record { space = Hypervisor (Some 5); granule = Kib4; entries = Any; ranged = true }

abbrev policy : ℕ → Bool → Policy
policy most global = record { most_commands = most; global_pages = global }

abbrev bytes : ℕ → ℕ → ByteRange
bytes first length = record { first = first; length = length }

-- a global page, the second page of a block
abbrev entry : Tag
entry = El2 Global 0 0

abbrev second : Tag
second = El2 Global 1 0

abbrev by_address : Command
by_address = TlbiEl2Vaa false 0 reach.Page

only_covers : (command : Command) (tag : Tag) → IsCoveredBy (command ∷ []) tag → covers command tag ≡ true
only_covers command tag (zero, found, below, at, is) = subst (λ c. covers c tag ≡ true) (sym at) is
only_covers command tag (suc k, found, below, at, is) = absurd (omega (arith, below))

-- ---- Which translations are meant.

pub by_ranges_part_of_a_block_is_served : IsServed (blocks true) second
by_ranges_part_of_a_block_is_served = inl refl

pub without_ranges_part_of_a_block_is_not_served : ¬ IsServed (blocks false) second
without_ranges_part_of_a_block_is_not_served served =
    elim served [
      | inl ranges ↦ let no : false ≡ true = ranges in absurd (cc)
      | inr whole ↦ let no : 1 ≡ 0 = whole.0 in omega (arith, no)
    ]

pub a_global_page_is_unspared_where_some_may_be : IsUnspared of_asid (policy 16 true) entry
a_global_page_is_unspared_where_some_may_be none one = let no : true ≡ false = none in absurd (cc)

pub a_global_page_is_spared_where_none_is : ¬ IsUnspared of_asid (policy 16 false) entry
a_global_page_is_spared_where_none_is unspared = let no : false ≡ true = unspared refl refl in absurd (cc)

pub what_is_spared_is_not_meant : ¬ IsMeant of_asid (policy 16 false) entry
what_is_spared_is_not_meant meant = a_global_page_is_spared_where_none_is meant.1

pub what_is_not_served_is_not_meant : ¬ IsMeant (blocks false) (policy 16 false) second
what_is_not_served_is_not_meant meant = without_ranges_part_of_a_block_is_not_served meant.0

-- ---- What the commands reach.

pub no_command_reaches_no_byte : ¬ Reaches ranged smmu (policy 16 true) (Range (bytes 0 1)) []
no_command_reaches_no_byte reaches =
    let none = reaches.covered 0 (omega arith, omega arith) entry (inl refl, λ none one. (let no : true ≡ false = none in absurd (cc))) refl in
    omega (arith, none.2)

pub everything_is_reached_wholly : ¬ Reaches ranged smmu (policy 16 true) Everything (TlbiEl2All ∷ TlbiEl2All ∷ [])
everything_is_reached_wholly reaches = let two : 2 ≡ 1 = reaches.reached.one in omega (arith, two)

-- an SMMU with stage 1 alone
pub a_command_that_the_smmu_lacks_is_not_sent : ¬ Reaches ranged (smmu_of 0x2 0 0x400 0x10) (policy 16 true) (Range (bytes 0 1)) (by_address ∷ [])
a_command_that_the_smmu_lacks_is_not_sent reaches = let had : false ≡ true = reaches.served 0 by_address (omega arith) in absurd (cc)

pub few_are_by_address : (commands : List Command) → AreByAddressOrWhole ranged (policy 16 true) (Range (bytes 0 1)) commands
    → are_few (request_of ranged (bytes 0 1)) 16 ≡ true → IsByAddress ranged (policy 16 true) (bytes 0 1) commands
few_are_by_address commands either few = either.0 few

pub many_are_for_the_whole : (commands : List Command) → AreByAddressOrWhole ranged (policy 0 true) (Range (bytes 0 1)) commands
    → are_few (request_of ranged (bytes 0 1)) 0 ≡ false → length commands ≡ 1
many_are_for_the_whole commands either many = (either.1 many).one

-- ---- By address.

pub no_command_by_address_covers_a_byte : ¬ IsByAddress ranged (policy 16 true) (bytes 0 1) []
no_command_by_address_covers_a_byte is =
    let none = is.covered 0 (omega arith, omega arith) entry (inl refl) refl in omega (arith, none.2)

pub the_whole_is_not_by_address : ¬ IsByAddress ranged (policy 16 true) (bytes 0 1) (TlbiEl2All ∷ [])
the_whole_is_not_by_address is = let (page, reached, same, leaf, begins, ends) = is.within 0 TlbiEl2All (omega arith) in absurd (cc)

pub a_page_reached_holds_a_byte : (commands : List Command) (page : ℕ) → IsByAddress ranged (policy 16 true) (bytes 0 1) commands
    → IsIn page (pages_from Kib4 0 1) → IsInLeafOf ranged (bytes 0 1) page
a_page_reached_holds_a_byte commands page is inside = is.rounded page inside

pub no_more_than_the_policy_allows : ¬ IsByAddress ranged (policy 0 true) (bytes 0 1) (by_address ∷ [])
no_more_than_the_policy_allows is = omega (arith, is.few)

pub without_ranges_one_for_each_leaf : ¬ IsByAddress (blocks false) (policy 16 true) (bytes 0 1) (by_address ∷ by_address ∷ [])
without_ranges_one_for_each_leaf is = let few : 2 ≤ 1 = is.fewer in omega (arith, few)

-- ---- For the whole space.

pub one_command_is_for_the_whole : ¬ IsWhole ranged (policy 16 true) (Range (bytes 0 1)) []
one_command_is_for_the_whole is = let none : 0 ≡ 1 = is.one in omega (arith, none)

pub an_asid_leaves_global_pages : ¬ IsWhole of_asid (policy 16 true) Everything (TlbiEl2Asid 5 ∷ [])
an_asid_leaves_global_pages is =
    let by_one = is.covered 0 tt entry a_global_page_is_unspared_where_some_may_be refl in
    let no : false ≡ true = only_covers (TlbiEl2Asid 5) entry by_one in absurd (cc)

-- ---- What is gathered.

abbrev nothing : Gathered
nothing = nothing_for (Hypervisor None) Kib4 Any

abbrev all : Gathered
all = record { space = Hypervisor None; granule = Kib4; entries = Any; intervals = []; everything = true }

abbrev gathered : List Interval → Gathered
gathered intervals = record { space = Hypervisor None; granule = Kib4; entries = Any; intervals = intervals; everything = false }

abbrev interval : ℕ → ℕ → Interval
interval first last = record { first = first; last = last }

abbrev of_bytes : Bytes → Invalidation
of_bytes some = record { space = Hypervisor None; bytes = some; granule = Kib4; entries = Any }

pub a_byte_that_was_added_is_held : ¬ IsAdded nothing (Range (bytes 0 1)) nothing
a_byte_that_was_added_is_held added = let lost : false ≡ true = added.held 0 refl in absurd (cc)

pub a_byte_that_was_gathered_is_held : ¬ IsAdded (gathered (interval 0 0 ∷ [])) (Range (bytes 8 1)) (gathered (interval 8 8 ∷ []))
a_byte_that_was_gathered_is_held added = let lost : false ≡ true = added.held 0 refl in absurd (cc)

pub the_byte_behind_is_not_added : ¬ IsAdded nothing (Range (bytes 0 1)) (gathered (interval 0 1 ∷ []))
the_byte_behind_is_not_added added = let more : true ≡ false = added.no_more refl 1 in absurd (cc)

pub what_touches_takes_no_place : ¬ IsAdded (gathered (interval 0 0 ∷ [])) (Range (bytes 0 1)) (gathered (interval 0 0 ∷ interval 0 0 ∷ []))
what_touches_takes_no_place added = let more : 2 ≤ 1 = added.merged refl in omega (arith, more)

pub it_stays_for_its_space : (old new : Gathered) (some : Bytes) → IsAdded old some new → new.space ≡ old.space
it_stays_for_its_space old new some added = added.alike.space

not_everything : (some : ByteRange) → Range some ≡ Everything → ⊥
not_everything some same = cc

pub with_room_a_byte_is_not_everything : ¬ IsAdded nothing (Range (bytes 0 1)) all
with_room_a_byte_is_not_everything added =
    elim (added.whole refl) [
      | inl was ↦ let no : false ≡ true = was in absurd (cc)
      | inr (inl wholly) ↦ absurd (not_everything (bytes 0 1) wholly)
      | inr (inr full) ↦ let no : 0 ≡ 16 = full.0 in omega (arith, no)
    ]

pub what_touches_is_not_everything : (old new : Gathered) → old.everything ≡ false → touch old (Range (bytes 0 1)) ≡ true → new.everything ≡ true
    → ¬ IsAdded old (Range (bytes 0 1)) new
what_touches_is_not_everything old new none touching everything added =
    elim (added.whole everything) [
      | inl was ↦ absurd (cc)
      | inr (inl wholly) ↦ absurd (not_everything (bytes 0 1) wholly)
      | inr (inr full) ↦ let apart = full.1 in absurd (cc)
    ]

pub what_is_taken_was_gathered : ¬ IsTaken (gathered (interval 0 0 ∷ [])) (of_bytes (Range (bytes 0 2))) nothing
what_is_taken_was_gathered taken = let more : true ≡ false = taken.same 1 (omega arith) in absurd (cc)

pub nothing_is_lost_by_a_take : ¬ IsTaken (gathered (interval 0 1 ∷ [])) (of_bytes (Range (bytes 0 1))) nothing
nothing_is_lost_by_a_take taken = let lost : false ≡ true = taken.same 1 (omega arith) in absurd (cc)

pub fewer_are_left_by_a_take : ¬ IsTaken (gathered (interval 0 0 ∷ [])) (of_bytes (Range (bytes 0 1))) (gathered (interval 0 0 ∷ []))
fewer_are_left_by_a_take taken = omega (arith, taken.fewer)

pub what_is_taken_is_no_longer_than_the_space : ¬ IsTaken all (of_bytes (Range (bytes (2 ^ 64 - 1) 2))) nothing
what_is_taken_is_no_longer_than_the_space taken = let no : true ≡ false = taken.inside in absurd (cc)

pub what_is_taken_is_for_its_space : (old new : Gathered) (one : Invalidation) → IsTaken old one new → one.space ≡ old.space
what_is_taken_is_for_its_space old new one taken = taken.space

-- ---- Batches of its commands.

abbrev raw : Raw
raw = record { lo = 0x20; hi = 0 }

pub a_batch_with_room_takes_all : (old new : Plan) → ¬ (commands_of new ≡ []) → ¬ IsFilled old new [] (raw ∷ [])
a_batch_with_room_takes_all old new left filled =
    elim filled.as_many [
      | inl none ↦ left none
      | inr full ↦ let no : 1 ≡ 63 = full in omega (arith, no)
    ]

pub what_was_in_a_batch_stays : (old new : Plan) → ¬ IsMoved old new (raw ∷ []) []
what_was_in_a_batch_stays old new moved = let no = moved.appended in absurd (cc)

pub no_command_is_left_out : (old new : Plan) → (moved : IsMoved old new [] []) → commands_of old ≡ moved.commands ++ commands_of new
no_command_is_left_out old new moved = moved.taken

pub a_sync_is_told : ¬ HasNoSync (record { lo = 0x46; hi = 0 } ∷ [])
a_sync_is_told none = let no : true ≡ false = none in absurd (cc)

-- ---- Words.

pub a_reserved_bit_is_not_set : ¬ AreWordsOf TlbiEl2All 0 (record { lo = 0x120; hi = 0 })
unfolding encoding
a_reserved_bit_is_not_set are = let no : 0x120 ≡ 0x20 = ap (λ (r : Raw). r.lo) are.reserved in omega (arith, no)

pub another_level_is_not_said : ¬ AreWordsOf by_address 1 (record { lo = 0x23; hi = 0 })
another_level_is_not_said are = let no : 0 ≡ 1 = are.hint in omega (arith, no)

pub no_level_without_a_granule : ¬ IsUnreserved (record { lo = 0x22; hi = 0x100 })
no_level_without_a_granule is = let no : 1 ≡ 0 = (is.without refl).0 in omega (arith, no)

pub no_granule_alone : ¬ IsUnreserved (record { lo = 0x22; hi = 0x400 })
no_granule_alone is = let no : 1 ≤ 0 = is.beside (omega arith) in omega (arith, no)

-- ---- Endpoints.

pub a_longer_block_is_not_the_least : ¬ IsLeastBlock 5 5 0 3
a_longer_block_is_not_the_least block = let no : 3 ≤ 0 = block.least 5 0 refl refl in omega (arith, no)

pub a_block_begins_at_its_length : ¬ IsLeastBlock 1 2 1 1
a_block_begins_at_its_length block = let no : 1 ≡ 0 = block.begins in omega (arith, no)

pub a_block_holds_the_first : ¬ IsLeastBlock 0 1 1 0
a_block_holds_the_first block = omega (arith, block.from)

pub a_block_holds_the_last : ¬ IsLeastBlock 0 1 0 0
a_block_holds_the_last block = omega (arith, block.to)

pub a_block_has_at_most_all_pages : ¬ IsLeastBlock 0 0 0 53
a_block_has_at_most_all_pages block = omega (arith, block.small)

abbrev endpoint : Substreams → Endpoint
endpoint accesses = record { sid = 5; substreams = accesses }

pub another_endpoint_is_not_reached : ¬ ReachesEndpoint (endpoint All) 0 0 (AtcInv 6 false 0 false 0 0)
another_endpoint_is_not_reached reaches = let same = reaches.is in absurd (cc)

pub what_the_endpoint_caches_is_covered : (first last : ℕ) (command : Command) → ReachesEndpoint (endpoint All) first last command → first ≤ 0 → 0 ≤ last
    → covers command (Atc 5 None 0 0) ≡ true
what_the_endpoint_caches_is_covered first last command reaches from to = reaches.covered 0 from to (Atc 5 None 0 0) refl

pub all_accesses_are_those_without_a_substream_too : is_cached (endpoint All) 0 (Atc 5 None 0 0) ≡ true
all_accesses_are_those_without_a_substream_too = refl

pub one_substream_is_not_none : is_cached (endpoint (One 1)) 0 (Atc 5 None 0 0) ≡ false
one_substream_is_not_none = refl

pub one_substream_is_not_another : is_cached (endpoint (One 1)) 0 (Atc 5 (Some 2) 0 0) ≡ false
one_substream_is_not_another = refl

pub each_substream_is_not_none : is_cached (endpoint Each) 0 (Atc 5 None 0 0) ≡ false
each_substream_is_not_none = refl

pub everything_has_a_command : ¬ IsForBytes (endpoint All) Everything None
everything_has_a_command none = none

pub a_byte_has_a_command : ¬ IsForBytes (endpoint All) (Range (bytes 0 1)) None
a_byte_has_a_command none = let no : 1 ≡ 0 = none in omega (arith, no)

pub no_byte_has_no_command : (command : Command) → ¬ IsForBytes (endpoint All) (Range (bytes 0 0)) (Some command)
no_byte_has_no_command command some = omega (arith, some.0)

pub an_smmu_without_ats_is_refused : endpoint_refusal (endpoint All) Everything (smmu_of 0x2 0 0 0x10) ≡ Some Unsupported
an_smmu_without_ats_is_refused = refl

pub a_substream_that_the_smmu_lacks_is_refused : endpoint_refusal (endpoint (One 1)) Everything (smmu_of 0x402 0 0 0x10) ≡ Some Unsupported
a_substream_that_the_smmu_lacks_is_refused = refl

pub bytes_past_the_last_address_are_refused : endpoint_refusal (endpoint All) (Range (bytes (2 ^ 64 - 1) 2)) smmu ≡ Some PastEnd
bytes_past_the_last_address_are_refused = refl
