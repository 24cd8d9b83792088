use Rattle.std.proofs.Common.{◌≡◌, ◌++◌, ◌∙◌, ap, append_assoc, codes, string_bytes}
use Rattle.std.proofs.lemmas.Result.{on_ok_weaker}
use Rattle.hex.specs.Hex.{encode_lower}
use Rattle.cmdcodec.specs.Bytes.{bytes_of}
use Rattle.cmdcodec.specs.Text.{text_of}
use Rattle.range_hints.specs.HintedWords.{hinted_words}
use Rattle.ranges.proofs.lines.say_line.Goals as goal

pub returns : goal.returns
returns c =
    let rest = codes " " ++ text_of c.args.command.now ++ codes "\n" in
    let bytes : c.as_slice.result.now ≡ bytes_of (hinted_words c.args.command.now c.args.ttl) =
    c.as_slice.ensures ∙ c.to_bytes-bytes.ensures.bytes ∙ ap bytes_of c.encode_with_hint.ensures.words in
    let digits = c.in_ok-say_digits.ensures ∙ ap (λ b. string_bytes c.args.text.now ++ encode_lower b) bytes in
    on_ok_weaker c.say_text.result
    (λ said. said ∙ ap (λ t. t ++ rest) digits ∙ append_assoc (string_bytes c.args.text.now) (encode_lower (bytes_of (hinted_words c.args.command.now c.args.ttl))) rest)
    c.say_text.ensures
