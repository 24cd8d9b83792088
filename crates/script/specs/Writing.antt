-- What a run writes, by what its reader had. `may` says what lines may come to, the first of them
-- having the number that it is given.
use Rattle.std.specs.Prelude.{◌≡◌, ◌≤◌, ℕ, List, [], ◌++◌, ◌⊎◌, Option, Some, None, IfSome, length, codes}
use Rattle.std.specs.Io.KnownBytes.{Consumes, Appends, IsAtEnd}
use Rattle.script.specs.declared.ending.Ending.{Ending}
use Rattle.script.specs.declared.ending.Ending.TheVariants.{Finished}
use Rattle.script.specs.Lines.{lines_of, IsWhole, HasNoEnd}
use Rattle.script.specs.Outcome.{Outcome}

-- a script may come to an outcome
abbrev pub ComesTo : (ℕ → List (List ℕ) → Outcome → Type 0) → List ℕ → List ℕ → Option Ending → Type 0
ComesTo may script text ending = may 1 (lines_of script) (record { text = text; ending = ending })

-- the text that a script may come to was written, all of it
abbrev pub WritesAnswer : (ℕ → List (List ℕ) → Outcome → Type 0) → Option (List ℕ) → Option (List ℕ) → Option (List ℕ) → Ending → Type 0
WritesAnswer may input before after ending =
    IfSome input (λ script. (text : List ℕ) × ComesTo may script text (Some ending) × Appends before after text)

-- the line that ends a run when memory ran out
abbrev pub no_memory_line : List ℕ
no_memory_line = codes "no memory\n"

-- the answers to the lines before some line, each whole, and then the line that tells of memory
pub record StopsForMemory (may : ℕ → List (List ℕ) → Outcome → Type 0) (script text : List ℕ) : Type 0 where
  pub whole : List ℕ
  pub rest : List ℕ
  pub answers : List ℕ
  pub split : script ≡ whole ++ rest
  pub is_whole : IsWhole whole
  pub comes : ComesTo may whole answers (Some Finished)
  pub told : text ≡ answers ++ no_memory_line

abbrev pub WritesNoMemory : (ℕ → List (List ℕ) → Outcome → Type 0) → Option (List ℕ) → Option (List ℕ) → Option (List ℕ) → Type 0
WritesNoMemory may input before after =
    IfSome input (λ script. (text : List ℕ) × StopsForMemory may script text × Appends before after text)

-- a beginning of one of these texts
abbrev pub IsBeginning : (ℕ → List (List ℕ) → Outcome → Type 0) → List ℕ → List ℕ → Type 0
IsBeginning may script front =
    ComesTo may script front None ⊎ ((text rest : List ℕ) × StopsForMemory may script text × (text ≡ front ++ rest))

-- These bytes may follow those that were read: any if something is left to read, else none.
abbrev pub MayFollow : Option (List ℕ) → List ℕ → Type 0
MayFollow rest more = IsAtEnd rest → more ≡ []

-- What was written is a beginning of one of these texts, whatever follows the bytes that were read. So a last line that
-- was cut was not answered.
pub record WritesBeginning (may : ℕ → List (List ℕ) → Outcome → Type 0) (input rest before after : Option (List ℕ)) : Type 0 where
  pub seen : List ℕ
  pub front : List ℕ
  pub read : Consumes input rest seen
  pub written : Appends before after front
  pub beginning : (more : List ℕ) → MayFollow rest more → IsBeginning may (seen ++ more) front

-- Exactly the lines whose ends were read were answered, and none of them ended the run.
pub record AnswersWholeLines (may : ℕ → List (List ℕ) → Outcome → Type 0) (input rest before after : Option (List ℕ)) : Type 0 where
  pub whole : List ℕ
  pub part : List ℕ
  pub answers : List ℕ
  pub read : Consumes input rest (whole ++ part)
  pub is_whole : IsWhole whole
  pub no_end : HasNoEnd part
  pub comes : ComesTo may whole answers (Some Finished)
  pub written : Appends before after answers

-- at least so many bytes were read
abbrev pub ReadsAtLeast : ℕ → Option (List ℕ) → Option (List ℕ) → Type 0
ReadsAtLeast least input rest = (bytes : List ℕ) × Consumes input rest bytes × (least ≤ length bytes)
