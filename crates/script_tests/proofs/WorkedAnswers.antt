-- Worked rows of the definitions: what lines are answered with.
use Rattle.std.proofs.Common.{◌≡◌, [], ◌∷◌, ◌++◌, true, false, None, Some, codes, refl}
use Rattle.cmdcodec.specs.declared.raw.Raw.{Raw}
use Rattle.cmdcodec.specs.declared.command.Command.TheVariants.{CfgiSte}
use Rattle.guest_commands.specs.declared.ended.Stop.TheVariants.{Sync, Configure, Refused}
use Rattle.guest_commands.specs.Mappings.{Mapping}
use Rattle.script.specs.Words.{number_in, number_of}
use Rattle.line_answers.specs.LineAnswers.{skipped}
use Rattle.line_answers.specs.LineWords.{between_blanks, words_of}
use Rattle.words.specs.LineAnswers.{bad_line, hex_number}
use Rattle.convert.specs.Answers.{commands_text, goes_on_at, guest_answer, host_text, later_text, pair_of, stop_text}
use Rattle.convert.specs.Guests.{smmu_with}

abbrev guest : Mapping
guest = record { vmid = 33; smmu = smmu_with true true true None; streams = record { sid = 4; host = record { sid = 0x104; ats = true } } ∷ [] }

abbrev one : Raw
one = record { lo = 0x2100000010; hi = 0 }

abbrev other : Raw
other = record { lo = 0x46; hi = 0 }

pub no_command : commands_text [] ≡ codes "nothing"
no_command = refl

pub two_commands : commands_text (one ∷ other ∷ []) ≡ host_text one ++ (later_text other ++ [])
two_commands = refl

pub semicolon_between : later_text other ≡ 59 ∷ 32 ∷ host_text other
semicolon_between = refl

pub sync_is_named : stop_text guest one Sync ≡ codes "sync"
sync_is_named = refl

pub refused_is_named : stop_text guest one Refused ≡ codes "refused"
refused_is_named = refl

pub entry_of_no_stream : stop_text guest one (Configure (CfgiSte 9 true)) ≡ codes "configure nothing"
entry_of_no_stream = refl

pub goes_on_behind_a_sync : goes_on_at Sync ≡ true
goes_on_behind_a_sync = refl

pub goes_on_behind_an_entry : goes_on_at (Configure (CfgiSte 4 true)) ≡ true
goes_on_behind_an_entry = refl

pub stops_at_a_refused_one : goes_on_at Refused ≡ false
stops_at_a_refused_one = refl

pub words_are_lo_and_hi : pair_of (Some 1) (Some 2) ≡ Some (record { lo = 1; hi = 2 })
words_are_lo_and_hi = refl

pub comment_is_skipped : guest_answer guest (codes "#0x30 0x0") ≡ skipped
unfolding guest_answer words_of between_blanks
comment_is_skipped = refl

pub three_words_are_bad : guest_answer guest (codes "0x30 0x0 0x0") ≡ bad_line
unfolding guest_answer words_of between_blanks
three_words_are_bad = refl

pub two_words_need_their_0x : guest_answer guest (codes "30 0") ≡ bad_line
unfolding guest_answer words_of between_blanks hex_number number_of number_in
two_words_need_their_0x = refl
