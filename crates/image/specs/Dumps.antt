-- The image that the lines of a hex dump have.
use Rattle.std.specs.Prelude.{◌≡◌, ℕ, ◌+◌, List, [], ◌∷◌, ◌++◌, ◌==◌, ⊤, Bool, true, if◌then◌else◌, Option, Some, None, Result, Ok, Err}
use Rattle.cmdcodec.specs.Bytes.{bytes_of}
use Rattle.hex_dump.specs.Dumps.{dumped}
use Rattle.hex_dump.specs.declared.dumped.Dumped.{Dumped}
use Rattle.hex_dump.specs.declared.dumped.Dumped.TheVariants.{Nothing, Slot, Bad}
use Rattle.line_answers.specs.LineWords.{words_of}
use Rattle.script.specs.Lines.{lines_of}
use Rattle.image.specs.declared.dump.DumpError.{DumpError}
use Rattle.image.specs.declared.dump.DumpError.TheVariants as errors
use Rattle.image.specs.declared.fault.ImageFault.{ImageFault}
use Rattle.image.specs.declared.fault.ImageFault.TheVariants.{BadLine}

-- A slot's address is 16 above that of the slot before it, if there is one.
abbrev pub follows : Option ℕ → ℕ → Bool
follows None address = true
follows (Some last) address = last + 16 == address

abbrev pub behind : List ℕ → Result (List ℕ) ImageFault → Result (List ℕ) ImageFault
behind front (Ok bytes) = Ok (front ++ bytes)
behind front (Err fault) = Err fault

-- What a line has, and what `rest` says of the lines after it. `last` is the address of the slot before it, if there
-- is one.
abbrev pub with_line : ℕ → Option ℕ → Dumped → (Option ℕ → Result (List ℕ) ImageFault) → Result (List ℕ) ImageFault
with_line number last Nothing rest = rest last
with_line number last (Slot line) rest =
    if follows last line.address then behind (bytes_of line.raw) (rest (Some line.address)) else Err (BadLine number)
with_line number last Bad rest = Err (BadLine number)

-- the bytes of the lines, of which the first has this number
unfoldable pub image_from : ℕ → Option ℕ → List (List ℕ) → Result (List ℕ) ImageFault
image_from number last [] = Ok []
image_from number last (line ∷ lines) = with_line number last (dumped (words_of line)) (λ at. image_from (number + 1) at lines)

-- the image that the text of a dump has, or its first bad line
abbrev pub dump_image : List ℕ → Result (List ℕ) ImageFault
dump_image text = image_from 1 None (lines_of text)

-- a dump that isn't taken for its first bad line, or for want of memory
abbrev pub IsFault : DumpError → Result (List ℕ) ImageFault → Type 0
IsFault (errors.BadLine number) image = image ≡ Err (BadLine number)
IsFault (errors.Memory e) image = ⊤

-- What is behind `old` is what is behind `new`, where a line was added to the bytes, or there is no image.
abbrev pub Adds : List ℕ → List ℕ → (Option ℕ → Result (List ℕ) ImageFault) → Result (Option ℕ) DumpError → Result (List ℕ) ImageFault → Type 0
Adds old new rest (Ok last) image = behind old image ≡ behind new (rest last)
Adds old new rest (Err e) image = IsFault e image

-- So it is whatever the lines after it are.
abbrev pub AddsLine : ℕ → Option ℕ → Dumped → List ℕ → List ℕ → Result (Option ℕ) DumpError → Type 0
AddsLine number last line old new result =
    (rest : Option ℕ → Result (List ℕ) ImageFault) → Adds old new rest result (with_line number last line rest)
