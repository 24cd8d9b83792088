use Rattle.std.proofs.Common.{◌≡◌, take}
use Rattle.std.specs.List.{list_all}
use Rattle.script.specs.Fields.{is_printable}
use Rattle.script.proofs.fields.is_text.Given as goal

abbrev pub invariant-bytes : goal.invariant-bytes
invariant-bytes l = l.printable ≡ list_all is_printable (take l.byte-index l.line)
