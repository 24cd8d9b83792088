-- What lines with commands in words are answered with.
use Rattle.std.proofs.Common.{◌≡◌, true, false, [], ◌∷◌, Some, None, refl, codes}
use Rattle.script.specs.Words.{number_in, number_of}
use Rattle.words.specs.LineAnswers.{bad_line, hex_number, two_numbers, command_answer, words_answer}

pub a_number_of_words_has_0x : hex_number (codes "16") ≡ None
unfolding hex_number
a_number_of_words_has_0x = refl

pub a_number_of_words_is_hexadecimal : hex_number (codes "0x16") ≡ Some 22
unfolding hex_number number_of number_in
a_number_of_words_is_hexadecimal = refl

pub two_numbers_are_needed : two_numbers (Some 3) None ≡ bad_line
two_numbers_are_needed = refl

pub three_words_are_bad : command_answer (codes "0x3") (codes "0x1" ∷ codes "0x1" ∷ []) ≡ bad_line
three_words_are_bad = refl

pub a_bad_line_is_not_good : bad_line.is_good ≡ false
a_bad_line_is_not_good = refl

pub a_comment_has_no_text : (words_answer (codes "#" ∷ codes "0x3" ∷ [])).text ≡ []
a_comment_has_no_text = refl

pub a_blank_line_is_good : (words_answer []).is_good ≡ true
a_blank_line_is_good = refl
