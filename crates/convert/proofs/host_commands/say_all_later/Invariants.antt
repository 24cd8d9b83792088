use Rattle.std.proofs.Common.{◌≡◌, ◌++◌, string_bytes, take}
use Rattle.convert.specs.Answers.{later_texts}
use Rattle.convert.proofs.host_commands.say_all_later.Given as goal

abbrev pub invariant-loop-raw : goal.invariant-loop-raw
invariant-loop-raw l = string_bytes l.reply ≡ string_bytes l.fn.reply ++ later_texts (take l.raw-index l.raws)
