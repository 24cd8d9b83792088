use Rattle.std.proofs.Common.{◌≡◌, ◌∙◌, ap, Option, Some, None, option_map}
use Rattle.std.specs.Borrow.{Bor}
use Rattle.std.specs.Prelude.{unwrap_or}
use Rattle.std.proofs.lemmas.Option.{same_Some}
use Rattle.clap.specs.Words.{Text, found_of}
use Rattle.clap.proofs.WalkLemmas.{first_value-rows}
use Rattle.command_line.proofs.image_arguments.text_in.Goals as goal

read : (o : Option (Bor Text)) (other : Bor Text) (found : Text) → option_map (λ s. s.now) o ≡ Some found → (unwrap_or o other).now ≡ found
read (Some s) other found is = same_Some _ _ is
read None other found is = absurd cc

pub returns : goal.returns
returns c = λ found is.
    ap (λ (s : Bor Text). s.now) c.unwrap_or.ensures ∙ read c.get_str.result _ found (c.get_str.ensures ∙ first_value-rows (found_of c.args.matches.now) c.args.name.now ∙ is)
