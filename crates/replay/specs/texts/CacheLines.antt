-- The texts of what the lines of the caches answer.
use Rattle.std.specs.Prelude.{ℕ, List, ◌++◌, Option, Some, None, codes}
use Rattle.caches.specs.declared.tag.Entry.{Entry}
use Rattle.replay.specs.texts.Entries.{value_text}

-- of a fill, given the entry of the tag that was held before
abbrev pub filled_text : Option Entry → List ℕ
filled_text None = codes "filled\n"
filled_text (Some was) = codes "replaced" ++ value_text was

-- of an eviction, given the entry that was held
abbrev pub evicted_text : Option Entry → List ℕ
evicted_text None = codes "absent\n"
evicted_text (Some was) = codes "evicted" ++ value_text was

-- of a lookup, given the entry that is held
abbrev pub found_text : Option Entry → List ℕ
found_text None = codes "absent\n"
found_text (Some entry) = codes "found" ++ value_text entry
