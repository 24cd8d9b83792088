use Rattle.std.proofs.Common.{◌≡◌, ◌∙◌, [], List, Option, Some, None, map, ap, sym, option_map}
use Rattle.std.specs.Borrow.{Bor}
use Rattle.std.specs.Prelude.{unwrap_or}
use Rattle.std.proofs.lemmas.Result.{IfOk-weaker}
use Rattle.clap.specs.Words.{Text, all_of, found_of, rows_of}
use Rattle.clap.proofs.WalkLemmas.{raw_values-rows}
use Rattle.command_line.proofs.convert_arguments.texts_in.Goals as goal

abbrev texts_at : List (Bor Text) → List Text
texts_at texts = map (λ text. text.now) texts

abbrev given : Option (Bor (List (Bor Text))) → List Text
given texts = unwrap_or (option_map (λ s. texts_at s.now) texts) []

pub returns-in-Some : goal.returns-in-Some
returns-in-Some c =
    let all : given c.get_strs.result ≡ unwrap_or (all_of c.args.name.now (rows_of (found_of c.args.matches.now))) [] =
    ap (λ texts. unwrap_or texts []) (c.get_strs.ensures ∙ raw_values-rows (found_of c.args.matches.now) c.args.name.now) in
    IfOk-weaker c.from_slice.result _ _ (λ texts is. ap texts_at is ∙ sym (ap given c.in-Some.is) ∙ all) c.from_slice.ensures.items

pub returns-in-None : goal.returns-in-None
returns-in-None c =
    let all : given c.get_strs.result ≡ unwrap_or (all_of c.args.name.now (rows_of (found_of c.args.matches.now))) [] =
    ap (λ texts. unwrap_or texts []) (c.get_strs.ensures ∙ raw_values-rows (found_of c.args.matches.now) c.args.name.now) in
    ap texts_at c.new.ensures.items ∙ sym (ap given c.in-None.is) ∙ all
