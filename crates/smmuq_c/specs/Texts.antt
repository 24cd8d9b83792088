-- A text in a buffer of C.
use Rattle.std.specs.Prelude.{◌≡◌, ◌<◌, ◌≤◌, ◌+◌, ℕ, List, ◌∷◌, ◌++◌, length, drop, Result, Ok, Err}
use Rattle.cmdcodec.specs.declared.ill.Ill.{Ill}
use Rattle.cmdcodec.specs.declared.command.Command.{Command}
use Rattle.cmdcodec.specs.Text.{text_of}
use Rattle.smmuq_c.specs.declared.status.Status.{Status}
use Rattle.smmuq_c.specs.declared.status.Status.TheVariants.{Done, Illegal, ShortBuffer, NoMemory}

-- The text comes first in the buffer, then a 0, and what is after that stays; or the buffer is too short, and stays.
-- Its length is told.
abbrev pub IsCopied : List ℕ → List ℕ → List ℕ → ℕ → Status → Type 0
IsCopied line old new told Done = (told ≡ length line) × (length line < length old) × (new ≡ line ++ 0 ∷ drop (length line + 1) old)
IsCopied line old new told ShortBuffer = (told ≡ length line) × (length old ≤ length line) × (new ≡ old)
IsCopied line old new told other = ⊥

-- The text of legal words is copied; or memory ran out, or the words are illegal, and the buffer stays.
abbrev pub HasTold : Result Command Ill → List ℕ → List ℕ → ℕ → Status → Type 0
HasTold (Ok command) old new told NoMemory = new ≡ old
HasTold (Ok command) old new told status = IsCopied (text_of command) old new told status
HasTold (Err ill) old new told status = (status ≡ Illegal ill) × (new ≡ old)
