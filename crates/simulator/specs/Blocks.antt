-- Whether the block of a tag is well formed, as a test.
use Rattle.std.specs.Prelude.{ℕ, ◌+◌, ◌%◌, ◌^◌, ◌==◌, ◌&&◌, nat_le, Bool, true}
use Rattle.caches.specs.declared.tag.Tag.{Tag}
use Rattle.caches.specs.declared.tag.Tag.TheVariants.{Ste, Cd, S1, S2, El2, Atc}

-- at most 2^52 pages, from a multiple of their number on
abbrev pub is_aligned : ℕ → ℕ → Bool
is_aligned page span = nat_le span 52 && page % 2 ^ span == 0

-- intermediate physical pages end at 2^40
abbrev pub is_block : Tag → Bool
is_block (Ste sid) = true
is_block (Cd sid ssid) = true
is_block (S1 vmid scope page span) = is_aligned page span
is_block (S2 vmid page span) = is_aligned page span && nat_le (page + 2 ^ span) (2 ^ 40)
is_block (El2 scope page span) = is_aligned page span
is_block (Atc sid ssid page span) = is_aligned page span
