use Rattle.std.proofs.Common.{◌≡◌, Ok}
use Rattle.cmdcodec.specs.Text.{text_of}
use Rattle.cmdcodec.specs.Words.{encoding, decoding}
use Rattle.encode.proofs.Encoded.{of_64_bits}
use Rattle.encode.proofs.ReadCommands.{text_of_spelled}
use Rattle.encode.proofs.Reading.{is_read}
use Rattle.encode.proofs.SpelledAgain.{spelled_again}
use Rattle.encode.proofs.Telling.{text_is_told}
use Rattle.encode.proofs.laws.texts_are_read_back.Goals as goal

pub returns : goal.returns
returns c raw command low high spells =
    let found = encoding command in
    let decodes : decoding found ≡ Ok command = c.legal_words_spell_one_command.ensures.decoded found command (spelled_again raw command spells) in
    let fits = of_64_bits raw command low high spells in
    record {
      found = found;
      read = is_read (text_of command) command (text_of_spelled raw command low high spells);
      decoded = decodes;
      told = text_is_told found command fits.0 fits.1 decodes;
    }
