-- What the lines that send ask for.
use Rattle.std.specs.Prelude.{ℕ, ◌^◌, List, Bool, true, Option, Some}
use Rattle.script.specs.Fields.{◌>>=◌, guard, next_below, is_end, raws_of}
use Rattle.replay.specs.declared.request.Content.{Content}
use Rattle.replay.specs.declared.request.Content.TheVariants.{Commands, Range, Detach}
use Rattle.replay.specs.declared.request.Request.{Request}
use Rattle.replay.specs.declared.request.Request.TheVariants.{Send}

-- a batch that a sender publishes at once, with its closing CMD_SYNC
abbrev pub whole_batch : ℕ → Content → Request
whole_batch sender content = Send (record { sender = sender; content = content; closes = true; publishes = true })

-- S HEX .., given whether a closing CMD_SYNC follows and whether the batch is published at once: `send` is both, `bare`
-- only the second, `open` only the first, `openbare` neither
unfoldable pub commands_of : Bool → Bool → List (List ℕ) → Option Request
commands_of closes publishes words = do
  sender ← next_below (2 ^ 32) words
  raws ← raws_of sender.1
  Some (Send (record { sender = sender.0; content = Commands raws; closes = closes; publishes = publishes }))

-- `inval S VMID ASID PAGE PAGES`
unfoldable pub inval_of : List (List ℕ) → Option Request
inval_of words = do
  sender ← next_below (2 ^ 32) words
  vmid ← next_below (2 ^ 16) sender.1
  asid ← next_below (2 ^ 16) vmid.1
  page ← next_below (2 ^ 52) asid.1
  pages ← next_below (2 ^ 64) page.1
  guard (is_end pages.1) (whole_batch sender.0 (Range vmid.0 asid.0 page.0 pages.0))

-- `detach S SID`
unfoldable pub detach_of : List (List ℕ) → Option Request
detach_of words = do
  sender ← next_below (2 ^ 32) words
  sid ← next_below (2 ^ 32) sender.1
  guard (is_end sid.1) (whole_batch sender.0 (Detach sid.0))
