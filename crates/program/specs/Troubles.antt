-- What is told on standard error if memory ran out, or a read or a write failed.
use Rattle.std.specs.Prelude.{◌≡◌, ◌≢◌, ℕ, List, ◌++◌, ◌⊎◌, codes, true, false}
use Rattle.program.specs.Watching.{HasFailed, Seen, Tells}

-- The line was told, or a call of the writer failed, which changes no status.
abbrev pub IsTried : Seen → Seen → List ℕ → Type 0
IsTried before after line = Tells before after line ⊎ HasFailed after

abbrev pub out_of_memory_line : List ℕ
out_of_memory_line = codes "smmuq: out of memory\n"

-- which stream failed, and the system's text
abbrev pub stream_line : List ℕ → List ℕ → List ℕ
stream_line stream cause = codes "smmuq: " ++ stream ++ codes ": " ++ cause ++ codes "\n"

abbrev pub unread_line : List ℕ
unread_line = stream_line (codes "standard input") (codes "it couldn't be read")

-- Why standard output failed was told, or there was no memory for the system's text.
abbrev pub IsToldOfOutput : Seen → Seen → Type 0
IsToldOfOutput before after =
    (after ≡ before) ⊎ ((cause : List ℕ) × IsTried before after (stream_line (codes "standard output") cause))

-- Depending on the exit status of a run, and on its output: that memory ran out; that the input wasn't read, if no
-- write failed; why a write failed, but nothing of a pipe that was closed at its other end; and nothing for any other
-- status.
pub record TellsTrouble (exit : ℕ) (output before after : Seen) : Type 0 where
  pub memory : exit ≡ 3 → IsTried before after out_of_memory_line
  pub unread : exit ≡ 4 → output.has_failed ≡ false → IsTried before after unread_line
  pub unwritten : exit ≡ 4 → output.has_failed ≡ true → output.is_closed ≡ false → IsToldOfOutput before after
  pub closed : exit ≡ 4 → output.has_failed ≡ true → output.is_closed ≡ true → after ≡ before
  pub silent : exit ≢ 3 → exit ≢ 4 → after ≡ before
