-- The lines of commands.
use Rattle.std.specs.Prelude.{◌≡◌, ℕ, List, [], ◌∷◌, ◌++◌, Option, Some, None, codes}
use Rattle.hex.specs.Hex.{encode_lower}
use Rattle.cmdcodec.specs.declared.command.Command.{Command}
use Rattle.cmdcodec.specs.Bytes.{bytes_of}
use Rattle.cmdcodec.specs.Text.{text_of}
use Rattle.range_hints.specs.declared.ttl.Ttl.{Ttl}
use Rattle.range_hints.specs.Hints.{kept_ttl, ttl_named}
use Rattle.range_hints.specs.HintedWords.{hinted_words}
use Rattle.invalidations.specs.declared.request.Target.{Target}
use Rattle.invalidations.specs.Hints.{ttl_of}
use Rattle.invalidations.specs.Plans.{Plan, commands_of}

-- The words as they lie in memory, two lower-case hexadecimal digits a byte, with every reserved bit 0; and the text.
abbrev pub line_of : Command → Ttl → List ℕ
line_of command ttl = encode_lower (bytes_of (hinted_words command ttl)) ++ (codes " " ++ text_of command ++ codes "\n")

-- the level hint of commands for this target
abbrev pub hint_for : Target → Ttl
hint_for target = ttl_named (ttl_of target)

unfoldable pub lines_of : Target → List Command → List ℕ
lines_of target [] = []
lines_of target (command ∷ commands) = line_of command (hint_for target) ++ lines_of target commands

-- It is the next command with its hint, or there is none.
abbrev pub IsNext : Plan → Option (Command × Ttl) → Plan → Type 0
IsNext old None new = commands_of old ≡ []
IsNext old (Some hinted) new = (commands_of old ≡ hinted.0 ∷ commands_of new) × (hinted.1 ≡ kept_ttl hinted.0 (hint_for old.request.target))
