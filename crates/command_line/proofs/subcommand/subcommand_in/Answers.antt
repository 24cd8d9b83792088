use Rattle.std.proofs.Common.{refl, sym, ◌≡◌, ◌∙◌, Some, None, codes, true≢false}
use Rattle.clap.specs.Words.{first_of, found_of, rows_of, subcommand_name_of, subcommand_rows_of}
use Rattle.clap.proofs.WalkLemmas.{first_value-rows}
use Rattle.command_line.proofs.Named.{decoded, first_of_both, name_in, replayed}
use Rattle.command_line.proofs.subcommand.subcommand_in.Goals as goal

pub returns-in-Some-get_str : goal.returns-in-Some-get_str
returns-in-Some-get_str c =
    let name_is : subcommand_name_of c.args.matches.now ≡ name_in (subcommand_rows_of c.args.matches.now) = first_of_both _ _ _ in
    let rows = rows_of (found_of c.in-Some-subcommand_matches-5.decode.now) in
    let first : first_of (codes "HEX") rows ≡ Some c.in-Some-get_str.word.now =
    sym (first_value-rows (found_of c.in-Some-subcommand_matches-5.decode.now) (codes "HEX")) ∙ sym c.in-Some-get_str.ensures in
    decoded (subcommand_rows_of c.args.matches.now) rows c.in-Some-get_str.word (sym name_is ∙ c.in-Some-subcommand_matches-5.ensures.found.0 refl)
    c.in-Some-subcommand_matches-5.ensures.rows first

pub returns-in-None : goal.returns-in-None
returns-in-None c =
    let name_is : subcommand_name_of c.args.matches.now ≡ name_in (subcommand_rows_of c.args.matches.now) = first_of_both _ _ _ in
    let rows = rows_of (found_of c.in-Some-subcommand_matches-5.decode.now) in
    let first : first_of (codes "HEX") rows ≡ None =
    sym (first_value-rows (found_of c.in-Some-subcommand_matches-5.decode.now) (codes "HEX")) ∙ sym c.in-None.ensures in
    replayed (subcommand_rows_of c.args.matches.now)
    (λ e. let some = c.subcommand_matches.ensures.found.1 (name_is ∙ e) in absurd (true≢false (sym some ∙ sym c.is_some.ensures ∙ c.if-is_some.false)))
    (λ e. let some = c.in_default.ensures.found.1 (name_is ∙ e) in absurd (true≢false (sym some)))
    (λ e. let some = c.in_default-subcommand_matches.ensures.found.1 (name_is ∙ e) in absurd (true≢false (sym some)))
    (λ e. let some = c.in_default-subcommand_matches-2.ensures.found.1 (name_is ∙ e) in absurd (true≢false (sym some)))
    (λ e. let some = c.subcommand_matches-7.ensures.found.1 (name_is ∙ e) in absurd (true≢false (sym some ∙ sym c.is_some-2.ensures ∙ c.if-is_some-2.false)))
    (λ e. let some = c.subcommand_matches-8.ensures.found.1 (name_is ∙ e) in absurd (true≢false (sym some ∙ sym c.is_some-3.ensures ∙ c.if-is_some-3.false)))
    (λ e. let some = c.in_default-subcommand_matches-3.ensures.found.1 (name_is ∙ e) in absurd (true≢false (sym some)))
    (λ e. let some = c.in_default-subcommand_matches-4.ensures.found.1 (name_is ∙ e) in absurd (true≢false (sym some)))
    (λ e. (rows, c.in-Some-subcommand_matches-5.ensures.rows, first))
