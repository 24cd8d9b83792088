-- The tags of cached entries in a line, each with the words after it.
use Rattle.std.specs.Prelude.{ℕ, ◌^◌, List, [], ◌∷◌, Option, Some, None, codes, if◌then◌else◌}
use Rattle.std.specs.Str.{bytes_eq}
use Rattle.script.specs.Fields.{◌>>=◌, next_below}
use Rattle.caches.specs.declared.tag.Tag.{Tag}
use Rattle.caches.specs.declared.tag.Tag.TheVariants.{Ste, Cd, S1, S2, El2, Atc}
use Rattle.replay.specs.requests.Numbers.{scope_of, substream_of}

-- `ste SID`
unfoldable pub ste_of : List (List ℕ) → Option (Tag × List (List ℕ))
ste_of words = do
  sid ← next_below (2 ^ 32) words
  Some (Ste sid.0, sid.1)

-- `cd SID SSID`
unfoldable pub cd_of : List (List ℕ) → Option (Tag × List (List ℕ))
cd_of words = do
  sid ← next_below (2 ^ 32) words
  ssid ← next_below (2 ^ 20) sid.1
  Some (Cd sid.0 ssid.0, ssid.1)

-- `s1 VMID ASID PAGE SPAN`
unfoldable pub s1_of : List (List ℕ) → Option (Tag × List (List ℕ))
s1_of words = do
  vmid ← next_below (2 ^ 16) words
  scope ← scope_of vmid.1
  page ← next_below (2 ^ 52) scope.1
  span ← next_below (2 ^ 8) page.1
  Some (S1 vmid.0 scope.0 page.0 span.0, span.1)

-- `s2 VMID PAGE SPAN`
unfoldable pub s2_of : List (List ℕ) → Option (Tag × List (List ℕ))
s2_of words = do
  vmid ← next_below (2 ^ 16) words
  page ← next_below (2 ^ 52) vmid.1
  span ← next_below (2 ^ 8) page.1
  Some (S2 vmid.0 page.0 span.0, span.1)

-- `el2 ASID PAGE SPAN`
unfoldable pub el2_of : List (List ℕ) → Option (Tag × List (List ℕ))
el2_of words = do
  scope ← scope_of words
  page ← next_below (2 ^ 52) scope.1
  span ← next_below (2 ^ 8) page.1
  Some (El2 scope.0 page.0 span.0, span.1)

-- `atc SID SSID PAGE SPAN`
unfoldable pub atc_of : List (List ℕ) → Option (Tag × List (List ℕ))
atc_of words = do
  sid ← next_below (2 ^ 32) words
  ssid ← substream_of sid.1
  page ← next_below (2 ^ 52) ssid.1
  span ← next_below (2 ^ 8) page.1
  Some (Atc sid.0 ssid.0 page.0 span.0, span.1)

-- a tag, by its first word
unfoldable pub tag_of : List (List ℕ) → Option (Tag × List (List ℕ))
tag_of [] = None
tag_of (kind ∷ words) =
    if bytes_eq kind (codes "ste") then ste_of words
    else if bytes_eq kind (codes "cd") then cd_of words
    else if bytes_eq kind (codes "s1") then s1_of words
    else if bytes_eq kind (codes "s2") then s2_of words
    else if bytes_eq kind (codes "el2") then el2_of words
    else if bytes_eq kind (codes "atc") then atc_of words
    else None
