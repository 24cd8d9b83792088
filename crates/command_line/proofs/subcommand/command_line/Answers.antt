use Rattle.std.proofs.Common.{ap, ap₂, ◌≡◌, ◌∙◌, true}
use Rattle.std.proofs.lemmas.Result.{IfOk-weaker}
use Rattle.std.specs.Prelude.{codes}
use Rattle.clap.specs.Words.{App, app_of, new_app, with_subcommand}
use Rattle.clap.specs.Simple.{app_of_fields}
use Rattle.clap.proofs.SimpleLemmas.{is_false}
use Rattle.clap.proofs.WalkLemmas.{both}
use Rattle.command_line.specs.CommandLine as spec
use Rattle.command_line.proofs.subcommand.command_line.Goals as goal

abbrev top_is_plain : App → Type 0
top_is_plain a = a.top.is_plain ≡ true

abbrev unversioned : App
unversioned = record (new_app (codes "smmuq")) { top = record (new_app (codes "smmuq")).top { no_binary_name = true; subcommand_required = true } }

pub returns : goal.returns
returns c =
    let about : app_of c.after_help.result ≡ new_app (codes "smmuq") =
    ap app_of_fields c.after_help.ensures ∙ ap app_of_fields c.about.ensures ∙ c.new.ensures.app in
    let nameless : app_of c.no_binary_name.result ≡ record (new_app (codes "smmuq")) { top = record (new_app (codes "smmuq")).top { no_binary_name = true } } =
    ap app_of_fields c.no_binary_name.ensures ∙ ap (λ (a : App). record a { top = record a.top { no_binary_name = true } }) about in
    let without : app_of c.subcommand_required.result ≡ unversioned =
    ap app_of_fields c.subcommand_required.ensures ∙ ap (λ (a : App). record a { top = record a.top { subcommand_required = true } }) nameless in
    let alone : app_of c.version.result ≡ spec.alone =
    ap app_of_fields c.version.ensures ∙ ap (λ (a : App). record a { top = record a.top { has_version = true } }) without in
    let replay_is : app_of c.replay.result ≡ spec.replay = c.replay.ensures in
    let schedule_is : app_of c.schedule.result ≡ spec.schedule = c.schedule.ensures in
    let decode_is : app_of c.in_ok-decode.field-0 ≡ spec.decode = c.in_ok-decode.ensures in
    let stress_is : app_of c.in_ok-stress.field-0 ≡ spec.stress = c.in_ok-stress.ensures in
    let first : app_of c.in_ok-subcommand.field-0 ≡ with_subcommand spec.alone spec.replay.top =
    c.in_ok-subcommand.ensures.shape (is_false _ (both _ _ (both _ _ (both _ _ (ap (λ (a : App). a.top.is_plain) replay_is)).1).1).0)
    ∙ ap₂ with_subcommand alone (ap (λ (a : App). a.top) replay_is) in
    let second : app_of c.in_ok-subcommand-2.field-0 ≡ with_subcommand (with_subcommand spec.alone spec.replay.top) spec.schedule.top =
    c.in_ok-subcommand-2.ensures.shape (is_false _ (both _ _ (both _ _ (both _ _ (ap (λ (a : App). a.top.is_plain) schedule_is)).1).1).0)
    ∙ ap₂ with_subcommand first (ap (λ (a : App). a.top) schedule_is) in
    let third : app_of c.in_ok-subcommand-3.field-0 ≡ with_subcommand (with_subcommand (with_subcommand spec.alone spec.replay.top) spec.schedule.top) spec.decode.top =
    c.in_ok-subcommand-3.ensures.shape (is_false _ (both _ _ (both _ _ (both _ _ (ap (λ (a : App). a.top.is_plain) decode_is)).1).1).0)
    ∙ ap₂ with_subcommand second (ap (λ (a : App). a.top) decode_is) in
    let words_is : app_of c.in_ok-words.field-0 ≡ spec.words = c.in_ok-words.ensures in
    let image_is : app_of c.in_ok-image.field-0 ≡ spec.image = c.in_ok-image.ensures in
    let fourth : app_of c.in_ok-subcommand-4.field-0 ≡ with_subcommand (with_subcommand (with_subcommand (with_subcommand spec.alone spec.replay.top) spec.schedule.top) spec.decode.top) spec.stress.top =
    c.in_ok-subcommand-4.ensures.shape (is_false _ (both _ _ (both _ _ (both _ _ (ap (λ (a : App). a.top.is_plain) stress_is)).1).1).0)
    ∙ ap₂ with_subcommand third (ap (λ (a : App). a.top) stress_is) in
    let fifth :
    app_of c.in_ok-subcommand-5.field-0
    ≡ with_subcommand (with_subcommand (with_subcommand (with_subcommand (with_subcommand spec.alone spec.replay.top) spec.schedule.top) spec.decode.top) spec.stress.top) spec.words.top =
    c.in_ok-subcommand-5.ensures.shape (is_false _ (both _ _ (both _ _ (both _ _ (ap (λ (a : App). a.top.is_plain) words_is)).1).1).0)
    ∙ ap₂ with_subcommand fourth (ap (λ (a : App). a.top) words_is) in
    let sixth :
    app_of c.in_ok-subcommand-6.field-0
    ≡ with_subcommand (with_subcommand (with_subcommand (with_subcommand (with_subcommand (with_subcommand spec.alone spec.replay.top) spec.schedule.top) spec.decode.top) spec.stress.top) spec.words.top) spec.image.top =
    c.in_ok-subcommand-6.ensures.shape (is_false _ (both _ _ (both _ _ (both _ _ (ap (λ (a : App). a.top.is_plain) image_is)).1).1).0)
    ∙ ap₂ with_subcommand fifth (ap (λ (a : App). a.top) image_is) in
    let encode_is : app_of c.encode.result ≡ spec.encode = c.encode.ensures in
    let seventh :
    app_of c.in_ok-subcommand-7.field-0
    ≡ with_subcommand (with_subcommand (with_subcommand (with_subcommand (with_subcommand (with_subcommand (with_subcommand spec.alone spec.replay.top) spec.schedule.top) spec.decode.top) spec.stress.top) spec.words.top) spec.image.top) spec.encode.top =
    c.in_ok-subcommand-7.ensures.shape (is_false _ (both _ _ (both _ _ (both _ _ (ap (λ (a : App). a.top.is_plain) encode_is)).1).1).0)
    ∙ ap₂ with_subcommand sixth (ap (λ (a : App). a.top) encode_is) in
    let trace_is : app_of c.trace.result ≡ spec.trace = c.trace.ensures in
    let eighth :
    app_of c.in_ok-subcommand-8.field-0
    ≡ with_subcommand (with_subcommand (with_subcommand (with_subcommand (with_subcommand (with_subcommand (with_subcommand (with_subcommand spec.alone spec.replay.top) spec.schedule.top) spec.decode.top) spec.stress.top) spec.words.top) spec.image.top) spec.encode.top) spec.trace.top =
    c.in_ok-subcommand-8.ensures.shape (is_false _ (both _ _ (both _ _ (both _ _ (ap (λ (a : App). a.top.is_plain) trace_is)).1).1).0)
    ∙ ap₂ with_subcommand seventh (ap (λ (a : App). a.top) trace_is) in
    let range_is : app_of c.in_ok-range.field-0 ≡ spec.range = c.in_ok-range.ensures in
    let ninth :
    app_of c.in_ok-subcommand-9.field-0
    ≡ with_subcommand (with_subcommand (with_subcommand (with_subcommand (with_subcommand (with_subcommand (with_subcommand (with_subcommand (with_subcommand spec.alone spec.replay.top) spec.schedule.top) spec.decode.top) spec.stress.top) spec.words.top) spec.image.top) spec.encode.top) spec.trace.top) spec.range.top =
    c.in_ok-subcommand-9.ensures.shape (is_false _ (both _ _ (both _ _ (both _ _ (ap (λ (a : App). a.top.is_plain) range_is)).1).1).0)
    ∙ ap₂ with_subcommand eighth (ap (λ (a : App). a.top) range_is) in
    let convert_is : app_of c.in_ok-convert.field-0 ≡ spec.convert = c.in_ok-convert.ensures in
    IfOk-weaker c.subcommand-10.result _ _ (λ command h.
    h.shape (is_false _ (both _ _ (both _ _ (both _ _ (ap (λ (a : App). a.top.is_plain) convert_is)).1).1).0)
    ∙ ap₂ with_subcommand ninth (ap (λ (a : App). a.top) convert_is)) c.subcommand-10.ensures
