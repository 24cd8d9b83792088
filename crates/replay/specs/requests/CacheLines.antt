-- What the lines of the caches ask for.
use Rattle.std.specs.Prelude.{ℕ, ◌^◌, List, Option, option_map}
use Rattle.script.specs.Fields.{◌>>=◌, guard, next_below, is_end}
use Rattle.caches.specs.declared.tag.Tag.{Tag}
use Rattle.replay.specs.declared.request.Request.{Request}
use Rattle.replay.specs.declared.request.Request.TheVariants.{Fill, Evict, Lookup}
use Rattle.replay.specs.requests.Tags.{tag_of}

-- `fill TAG VALUE`
unfoldable pub fill_of : List (List ℕ) → Option Request
fill_of words = do
  tag ← tag_of words
  value ← next_below (2 ^ 64) tag.1
  guard (is_end value.1) (Fill tag.0 value.0)

-- a tag, and no more words
unfoldable pub one_tag : List (List ℕ) → Option Tag
one_tag words = do
  tag ← tag_of words
  guard (is_end tag.1) tag.0

-- `evict TAG`
unfoldable pub evict_of : List (List ℕ) → Option Request
evict_of words = option_map (λ tag. Evict tag) (one_tag words)

-- `lookup TAG`
unfoldable pub lookup_of : List (List ℕ) → Option Request
lookup_of words = option_map (λ tag. Lookup tag) (one_tag words)
