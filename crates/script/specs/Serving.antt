-- How a run stands between two calls, and what parts of it do. `may`, `old` and `new` say what lines
-- may come to that are served from there on.
use Rattle.std.specs.Prelude.{◌≡◌, ℕ, ◌+◌, ◌≤◌, List, ◌++◌, Option, Some, length, string_bytes}
use Rattle.std.specs.Io.KnownBytes.{Consumes, Appends}
use Rattle.script.specs.declared.ending.Ending.{Ending}
use Rattle.script.specs.declared.ending.Ending.TheVariants.{Finished, Refused}
use Rattle.script.specs.declared.run.Run.{Run}
use Rattle.script.specs.Lines.{lines_of, IsWhole}
use Rattle.script.specs.Outcome.{Outcome, with_front}
use Rattle.script.specs.Writing.{WritesAnswer, WritesNoMemory, WritesBeginning}

-- what the run comes to, its gathered text first, if these bytes are still to be served
pub record RunGives (may : ℕ → List (List ℕ) → Outcome → Type 0) (run : Run) (bytes : List ℕ) (outcome : Outcome) : Type 0 where
  pub rest : Outcome
  pub gives : may (run.lines + 1) (lines_of bytes) rest
  pub same : outcome ≡ with_front (string_bytes run.text) rest

-- Whole lines at the front of what was pending were served.
pub record Advances (before after : ℕ → List (List ℕ) → Outcome → Type 0) (old new : Run) : Type 0 where
  pub used : List ℕ
  pub split : old.pending ≡ used ++ new.pending
  pub whole : IsWhole used
  pub gives : (bytes : List ℕ) (outcome : Outcome) → RunGives after new bytes outcome → RunGives before old (used ++ bytes) outcome

-- A line ended the run, whatever follows, and the text is all that is still to be written.
abbrev pub Stops : (ℕ → List (List ℕ) → Outcome → Type 0) → Run → Run → Type 0
Stops before old new = (more : List ℕ) → RunGives before old (old.pending ++ more) (record { text = string_bytes new.text; ending = Some Refused })

-- Memory ran out at a line; the text is what the whole lines before it come to.
pub record Halts (before : ℕ → List (List ℕ) → Outcome → Type 0) (old new : Run) : Type 0 where
  pub used : List ℕ
  pub left : List ℕ
  pub split : old.pending ≡ used ++ left
  pub whole : IsWhole used
  pub gives : RunGives before old used (record { text = string_bytes new.text; ending = Some Finished })

-- Whole lines were served, and what is pending was read too. What was told, and then what the run
-- still gives, is what the script comes to, whatever follows.
pub record IsUnderWay (may now_may : ℕ → List (List ℕ) → Outcome → Type 0) (input rest before now : Option (List ℕ)) (run : Run) : Type 0 where
  pub whole : List ℕ
  pub told : List ℕ
  pub read : Consumes input rest (whole ++ run.pending)
  pub ends : IsWhole whole
  pub written : Appends before now told
  pub gives : (bytes : List ℕ) (outcome : Outcome) → RunGives now_may run bytes outcome → may 1 (lines_of (whole ++ bytes)) (with_front told outcome)

-- What is pending is the last line, or nothing, and the text is all that is still to be written.
abbrev pub Closes : (ℕ → List (List ℕ) → Outcome → Type 0) → Run → Run → Ending → Type 0
Closes before old new ending = RunGives before old old.pending (record { text = string_bytes new.text; ending = Some ending })

-- Lines were served, and each of them used up at least a byte.
pub record TakesBytes (old new : Run) : Type 0 where
  pub lines : old.lines ≤ new.lines
  pub bytes : new.lines + length new.pending ≤ old.lines + length old.pending

-- only the text differs
pub record SameButText (old new : Run) : Type 0 where
  pub pending : new.pending ≡ old.pending
  pub lines : new.lines ≡ old.lines

-- only what is pending differs
pub record SameButPending (old new : Run) : Type 0 where
  pub lines : new.lines ≡ old.lines
  pub text : string_bytes new.text ≡ string_bytes old.text

-- a front of the text was written
pub record WritesFront (before after : Option (List ℕ)) (text : List ℕ) : Type 0 where
  pub front : List ℕ
  pub rest : List ℕ
  pub split : text ≡ front ++ rest
  pub written : Appends before after front

-- What the parts of a run do to one that is under way, whatever its input was and whatever its
-- writer held before it. `may` says what the whole script may come to, `old_may` what the run may come
-- to from here on. The reader has `rest` left and then `left`, the writer holds `now` and then `then`.

-- it stays under way
abbrev pub KeepsWay : (ℕ → List (List ℕ) → Outcome → Type 0) → (ℕ → List (List ℕ) → Outcome → Type 0) → (ℕ → List (List ℕ) → Outcome → Type 0)
    → Option (List ℕ) → Option (List ℕ) → Option (List ℕ) → Option (List ℕ) → Run → Run → Type 0
KeepsWay may old_may new_may rest left now then old new =
    (input before : Option (List ℕ)) → IsUnderWay may old_may input rest before now old → IsUnderWay may new_may input left before then new

-- its outcome is written
abbrev pub GivesAnswer : (ℕ → List (List ℕ) → Outcome → Type 0) → (ℕ → List (List ℕ) → Outcome → Type 0)
    → Option (List ℕ) → Option (List ℕ) → Option (List ℕ) → Run → Ending → Type 0
GivesAnswer may old_may rest now then old ending =
    (input before : Option (List ℕ)) → IsUnderWay may old_may input rest before now old → WritesAnswer may input before then ending

-- the answers to the lines before some line are written, and then the line that tells of memory
abbrev pub GivesNoMemory : (ℕ → List (List ℕ) → Outcome → Type 0) → (ℕ → List (List ℕ) → Outcome → Type 0)
    → Option (List ℕ) → Option (List ℕ) → Option (List ℕ) → Run → Type 0
GivesNoMemory may old_may rest now then old =
    (input before : Option (List ℕ)) → IsUnderWay may old_may input rest before now old → WritesNoMemory may input before then

-- a beginning of one of these texts is written
abbrev pub GivesBeginning : (ℕ → List (List ℕ) → Outcome → Type 0) → (ℕ → List (List ℕ) → Outcome → Type 0)
    → Option (List ℕ) → Option (List ℕ) → Option (List ℕ) → Run → Type 0
GivesBeginning may old_may rest now then old =
    (input before : Option (List ℕ)) → IsUnderWay may old_may input rest before now old → WritesBeginning may input rest before then
