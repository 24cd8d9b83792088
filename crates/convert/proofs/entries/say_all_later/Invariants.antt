use Rattle.std.proofs.Common.{◌≡◌, ◌++◌, length, string_bytes}
use Rattle.convert.specs.Answers.{entry_words, later_texts}
use Rattle.convert.proofs.entries.say_all_later.Given as goal

abbrev pub invariant-streams : goal.invariant-streams
invariant-streams l =
    string_bytes l.reply ++ later_texts (entry_words l.streams) ≡ string_bytes l.fn.reply ++ later_texts (entry_words l.fn.streams)

abbrev pub decreases-streams : goal.decreases-streams
decreases-streams l = length l.streams
