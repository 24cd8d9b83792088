use Rattle.std.proofs.Common.{◌≡◌, ◌-◌, ◌++◌, string_bytes}
use Rattle.schedule.specs.Texts.{flags_text}
use Rattle.schedule.proofs.telling.say_flags.Given as goal

abbrev pub invariant-flags : goal.invariant-flags
invariant-flags l = string_bytes l.fn.reply ++ flags_text l.count l.flags ≡ string_bytes l.reply ++ flags_text (l.count - l.counter) l.rest
