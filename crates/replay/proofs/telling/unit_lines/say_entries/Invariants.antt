use Rattle.std.proofs.Common.{◌≡◌, ◌++◌, flat_map, take, string_bytes}
use Rattle.replay.specs.texts.Entries.{entry_line}
use Rattle.replay.proofs.telling.unit_lines.say_entries.Given as goal

abbrev pub invariant-entries : goal.invariant-entries
invariant-entries l = string_bytes l.reply ≡ string_bytes l.fn.reply ++ flat_map entry_line (take l.entry-index l.entries)
