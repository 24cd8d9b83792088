-- The lines of a dump, one after another.
use Rattle.std.proofs.Common.{◌≡◌, ℕ, ◌+◌, ◌<◌, List, [], ◌∷◌, ◌++◌, length, take, drop, refl, ap, sym, ◌∙◌, append_assoc, append-nil, true, Option, Some, None, Ok, Err}
use Rattle.std.specs.Prelude.{Result}
use Rattle.memchr.specs.Find.{IsFirstByte, is_byte}
use Rattle.script.specs.Lines.{lines_of}
use Rattle.script.proofs.LineLemmas.{found_end, found_none, lines_of-at, lines_of-last}
use Rattle.image.specs.declared.fault.ImageFault.{ImageFault}
use Rattle.script.proofs.LineLemmas.{lines_of-nothing}
use Rattle.std.proofs.lemmas.Bool.{cond-true}
use Rattle.cmdcodec.specs.Bytes.{bytes_of}
use Rattle.hex_dump.specs.Dumps.{dumped}
use Rattle.hex_dump.specs.declared.dumped.DumpLine.{DumpLine}
use Rattle.hex_dump.specs.declared.dumped.Dumped.TheVariants.{Slot}
use Rattle.line_answers.specs.LineWords.{words_of}
use Rattle.image.specs.declared.dump.DumpError.{DumpError}
use Rattle.image.specs.declared.dump.DumpError.TheVariants as errors
use Rattle.image.specs.declared.fault.ImageFault.TheVariants.{BadLine}
use Rattle.image.specs.Dumps.{IsFault, behind, follows, image_from, with_line}

-- a line with its end
pub lines_to_end : (text : List ℕ) (k : ℕ) → IsFirstByte (is_byte 10) text (Some k) → lines_of text ≡ take k text ∷ lines_of (drop (k + 1) text)
lines_to_end text k found =
    ap lines_of (sym (append-nil text)) ∙ lines_of-at text [] k (found_end text k found) ∙ ap (λ t. take k text ∷ lines_of t) (append-nil (drop (k + 1) text))

-- the last line, without one
pub last_line : (text : List ℕ) → IsFirstByte (is_byte 10) text None → 0 < length text → lines_of text ≡ text ∷ []
last_line text none some = lines_of-last text (found_none text none) some

pub behind_both : (old new : List ℕ) (rest : Result (List ℕ) ImageFault) → behind old (behind new rest) ≡ behind (old ++ new) rest
behind_both old new (Ok bytes) = ap Ok (sym (append_assoc old new bytes))
behind_both old new (Err fault) = refl

-- a slot whose bytes were added
pub slot_added : (old new : List ℕ) (number : ℕ) (last : Option ℕ) (slot : DumpLine) (rest : Option ℕ → Result (List ℕ) ImageFault)
    → follows last slot.address ≡ true → new ≡ old ++ bytes_of slot.raw
    → behind old (with_line number last (Slot slot) rest) ≡ behind new (rest (Some slot.address))
slot_added old new number last slot rest follow added =
    ap (behind old) (cond-true _ (behind (bytes_of slot.raw) (rest (Some slot.address))) (Err (BadLine number)) follow)
    ∙ behind_both old (bytes_of slot.raw) (rest (Some slot.address)) ∙ ap (λ t. behind t (rest (Some slot.address))) (sym added)

-- the first of the lines
pub first_line : (number : ℕ) (last : Option ℕ) (line : List ℕ) (lines : List (List ℕ))
    → image_from number last (line ∷ lines) ≡ with_line number last (dumped (words_of line)) (λ at. image_from (number + 1) at lines)
unfolding image_from
first_line number last line lines = refl

pub no_more_lines : (items : List ℕ) (number : ℕ) (last : Option ℕ) → behind items (image_from number last (lines_of [])) ≡ Ok items
unfolding image_from
no_more_lines items number last = ap (λ ls. behind items (image_from number last ls)) lines_of-nothing ∙ ap Ok (append-nil items)

-- A fault of what follows is one of the whole.
pub fault_behind : (e : DumpError) (items : List ℕ) (image : Result (List ℕ) ImageFault) → IsFault e image → IsFault e (behind items image)
fault_behind (errors.BadLine number) items image is = ap (behind items) is
fault_behind (errors.Memory e) items image is = tt
