-- The numbers of a line, one after another.
use Rattle.std.specs.Prelude.{ℕ, ◌^◌, List, Option, Some, None, codes}
use Rattle.script.specs.Fields.{◌>>=◌, next_below_or}
use Rattle.caches.specs.declared.tag.Scope.{Scope}
use Rattle.caches.specs.declared.tag.Scope.TheVariants.{Global, Of}

abbrev pub scope_with : Option ℕ → Scope
scope_with None = Global
scope_with (Some asid) = Of asid

-- `g`, for the translations of all address spaces, or ASID; and the words after it
unfoldable pub scope_of : List (List ℕ) → Option (Scope × List (List ℕ))
scope_of words = do
  asid ← next_below_or (codes "g") (2 ^ 16) words
  Some (scope_with asid.0, asid.1)

-- `-`, for no substream, or SSID; and the words after it
unfoldable pub substream_of : List (List ℕ) → Option (Option ℕ × List (List ℕ))
substream_of words = next_below_or (codes "-") (2 ^ 20) words
