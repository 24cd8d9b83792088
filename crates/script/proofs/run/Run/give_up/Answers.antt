use Rattle.std.proofs.Common.{string_bytes}
use Rattle.script.specs.Writing.{no_memory_line}
use Rattle.script.proofs.UnderWay.{writes_front_then}
use Rattle.script.proofs.run.Run.give_up.Goals as goal

pub returns-in-Memory-clause-part : goal.returns-in-Memory-clause-part
returns-in-Memory-clause-part g c =
    writes_front_then _ _ _ (string_bytes c.args.self.now.text) no_memory_line c.in_default.ensures.ok.1 c.tell_of_memory.ensures.part
