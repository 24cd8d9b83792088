use Rattle.std.proofs.Common.{◌++◌, ap, ◌∙◌, string_bytes, codes}
use Rattle.hex.specs.Hex.{encode_lower}
use Rattle.encode.proofs.answering.say_raw.Goals as goal

pub returns-clause-text : goal.returns-clause-text
returns-clause-text c =
    c.in_ok-say_digits.ensures
    ∙ ap (λ bytes. string_bytes c.args.reply.now ++ (encode_lower bytes ++ codes "\n")) (c.as_slice.ensures ∙ c.to_bytes.ensures.bytes)
