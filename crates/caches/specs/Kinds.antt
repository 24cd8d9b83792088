-- The kinds of what is held, and sets of them.
use Rattle.std.specs.Prelude.{◌≡◌, ◌<◌, ◌/◌, ◌%◌, ◌^◌, ◌==◌, ℕ, Bool, true, false, Option, None, Some}
use Rattle.caches.specs.declared.tag.Tag.{Tag}
use Rattle.caches.specs.declared.tag.Tag.TheVariants as tag
use Rattle.caches.specs.declared.kinds.Kinds.{Kinds}
use Rattle.caches.specs.declared.tag_test.Kind.{Kind}
use Rattle.caches.specs.declared.tag_test.Kind.TheVariants.{Ste, Cd, S1, S2, El2, Atc}

abbrev pub is_of_kind : Kind → Tag → Bool
is_of_kind Ste (tag.Ste sid) = true
is_of_kind Cd (tag.Cd sid ssid) = true
is_of_kind S1 (tag.S1 vmid scope page span) = true
is_of_kind S2 (tag.S2 vmid page span) = true
is_of_kind El2 (tag.El2 scope page span) = true
is_of_kind Atc (tag.Atc sid ssid page span) = true
is_of_kind other tag = false

abbrev pub kind_of : Tag → Kind
kind_of (tag.Ste sid) = Ste
kind_of (tag.Cd sid ssid) = Cd
kind_of (tag.S1 vmid scope page span) = S1
kind_of (tag.S2 vmid page span) = S2
kind_of (tag.El2 scope page span) = El2
kind_of (tag.Atc sid ssid page span) = Atc

-- the kind is in the set
abbrev pub has_kind : Kinds → Kind → Bool
has_kind kinds Ste = kinds.ste
has_kind kinds Cd = kinds.cd
has_kind kinds S1 = kinds.s1
has_kind kinds S2 = kinds.s2
has_kind kinds El2 = kinds.el2
has_kind kinds Atc = kinds.atc

-- the tag's kind is in the set
abbrev pub is_of_kinds : Kinds → Tag → Bool
is_of_kinds kinds tag = has_kind kinds (kind_of tag)

-- ---- sets of kinds as bits

-- the bit of a kind: its place in the list of all kinds, from 0
abbrev pub bit_of : Kind → ℕ
bit_of Ste = 0
bit_of Cd = 1
bit_of S1 = 2
bit_of S2 = 3
bit_of El2 = 4
bit_of Atc = 5

abbrev pub has_bit : ℕ → ℕ → Bool
has_bit bits n = bits / 2 ^ n % 2 == 1

-- The set has the kinds whose bits are set, and no other bit is.
abbrev pub AreKindsOf : ℕ → Option Kinds → Type 0
AreKindsOf bits None = ¬ (bits < 2 ^ 6)
AreKindsOf bits (Some kinds) = (bits < 2 ^ 6) × ((kind : Kind) → has_kind kinds kind ≡ has_bit bits (bit_of kind))
