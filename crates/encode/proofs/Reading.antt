-- The text of a command is read back: what it takes.
use Rattle.std.proofs.Common.{◌≡◌, ℕ, ◌==◌, Bool, true, false, cond, List, map, refl, ap, ◌∙◌, Some, None, Ok}
use Rattle.std.proofs.lemmas.Bool.{and_from}
use Rattle.cmdcodec.specs.declared.opcode.Opcode.{Opcode}
use Rattle.cmdcodec.specs.declared.opcode.Opcode.TheVariants as op
use Rattle.cmdcodec.specs.declared.command.Command.{Command}
use Rattle.cmdcodec.specs.Fields.{bit}
use Rattle.cmdcodec.specs.Words.{encoding}
use Rattle.script.specs.Fields.{is_comment}
use Rattle.script.specs.Words.{is_word}
use Rattle.line_answers.specs.LineWords.{words_of}
use Rattle.line_answers.proofs.TextWords.{is_plain, spaced, words_of-spaced}
use Rattle.encode.specs.Names.{name_of, opcode_called, fields_of}
use Rattle.encode.specs.Values.{unknown_word}
use Rattle.encode.specs.Commands.{command_of}
use Rattle.encode.specs.LineEncodings.{line_encoding, words_encoding, named_encoding, known_encoding, encoding_of}
use Rattle.encode.proofs.Written.{Given, word_of, all_plain, all_words}

-- ---- the names of commands

-- The name of a command is a word and no comment, and of no other command.
record IsItsName (opcode : Opcode) : Type 0 where
  plain : is_plain (name_of opcode) ≡ true
  some : is_word (name_of opcode) ≡ true
  no_comment : is_comment (name_of opcode) ≡ false
  called : opcode_called (name_of opcode) ≡ Some opcode

its_name : (opcode : Opcode) → IsItsName opcode
unfolding opcode_called
its_name op.CmdSync = record { plain = refl; some = refl; no_comment = refl; called = refl }
its_name other = record { plain = refl; some = refl; no_comment = refl; called = refl }

-- ---- a line

-- A line is the name of an opcode and words that give its fields, separated by single spaces, and these make the
-- command.
pub record IsTextOf (line : List ℕ) (command : Command) : Type 0 where
  pub opcode : Opcode
  pub fields : List Given
  pub text : line ≡ spaced (name_of opcode) (map word_of fields)
  pub known : unknown_word (fields_of opcode) (map word_of fields) ≡ None
  pub made : command_of opcode (map word_of fields) ≡ Ok command

pub is_read : (line : List ℕ) (command : Command) → IsTextOf line command → line_encoding line ≡ Ok (Some (encoding command))
unfolding line_encoding
is_read line command t =
    let words = map word_of t.fields in
    let name = name_of t.opcode in
    let its = its_name t.opcode in
    ap words_encoding (ap words_of t.text ∙ words_of-spaced name words (and_from _ _ its.plain (all_plain t.fields)) (and_from _ _ its.some (all_words t.fields)))
    ∙ ap (λ (b : Bool). cond b (Ok None) (named_encoding (opcode_called name) name words)) its.no_comment
    ∙ ap (λ found. named_encoding found name words) its.called ∙ ap (λ found. known_encoding t.opcode found words) t.known
    ∙ ap (encoding_of t.opcode) t.made

-- the value of a field of one bit
pub one_bit : (b : Bool) → (bit b == 1) ≡ b
one_bit true = refl
one_bit false = refl
