-- The texts of cached entries.
use Rattle.std.specs.Prelude.{ℕ, List, ◌++◌, Option, Some, None, codes, decimal}
use Rattle.cmdcodec.specs.Text.{hexadecimal}
use Rattle.caches.specs.declared.tag.Scope.{Scope}
use Rattle.caches.specs.declared.tag.Scope.TheVariants.{Global, Of}
use Rattle.caches.specs.declared.tag.Tag.{Tag}
use Rattle.caches.specs.declared.tag.Tag.TheVariants.{Ste, Cd, S1, S2, El2, Atc}
use Rattle.caches.specs.declared.tag.Entry.{Entry}

-- ---- tags

abbrev pub scope_text : Scope → List ℕ
scope_text Global = codes "global"
scope_text (Of asid) = codes "asid=" ++ decimal asid

abbrev pub substream_text : Option ℕ → List ℕ
substream_text None = codes "ssid=none"
substream_text (Some ssid) = codes "ssid=" ++ decimal ssid

-- the block of `2^span` pages from this one on
abbrev pub block_text : ℕ → ℕ → List ℕ
block_text page span = codes " page=" ++ hexadecimal page ++ codes " span=" ++ decimal span

abbrev pub tag_text : Tag → List ℕ
tag_text (Ste sid) = codes "ste sid=" ++ decimal sid
tag_text (Cd sid ssid) = codes "cd sid=" ++ decimal sid ++ codes " ssid=" ++ decimal ssid
tag_text (S1 vmid scope page span) = codes "s1 vmid=" ++ decimal vmid ++ codes " " ++ scope_text scope ++ block_text page span
tag_text (S2 vmid page span) = codes "s2 vmid=" ++ decimal vmid ++ block_text page span
tag_text (El2 scope page span) = codes "el2 " ++ scope_text scope ++ block_text page span
tag_text (Atc sid ssid page span) = codes "atc sid=" ++ decimal sid ++ codes " " ++ substream_text ssid ++ block_text page span

-- ---- entries

abbrev pub value_text : Entry → List ℕ
value_text entry = codes " value=" ++ decimal entry.value ++ codes " born=" ++ decimal entry.born ++ codes "\n"

-- a line of a dump
abbrev pub entry_line : Entry → List ℕ
entry_line entry = codes "entry " ++ tag_text entry.tag ++ value_text entry
