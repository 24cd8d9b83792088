use Rattle.std.proofs.Common.{◌∙◌, ◌++◌, ap, append_assoc, codes, string_bytes}
use Rattle.hex.specs.Hex.{encode_lower}
use Rattle.decode.specs.CommandText.{words_text}
use Rattle.convert.proofs.host_commands.say_host.Goals as goal

pub returns : goal.returns
returns c =
    let text = (words_text c.args.raw).0 in
    let digits = ap encode_lower (c.as_slice.ensures ∙ c.to_bytes.ensures.bytes) in
    c.in_ok-say_command.ensures.text ∙ ap (λ t. t ++ text) c.in_ok-push_str.ensures.bytes ∙ ap (λ t. (t ++ codes " ") ++ text) (c.in_ok-say_digits.ensures ∙ ap (λ d. string_bytes c.args.reply.now ++ d) digits)
    ∙ append_assoc (string_bytes c.args.reply.now ++ _) (codes " ") text ∙ append_assoc (string_bytes c.args.reply.now) _ (codes " " ++ text)
