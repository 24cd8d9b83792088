use Rattle.std.proofs.Common.{length}
use Rattle.script.specs.Endings.{EndsKnown}
use Rattle.script.specs.Knowing.{Leads}
use Rattle.script.specs.Serving.{Advances, TakesBytes}
use Rattle.script.proofs.run.Run.serve_lines.Given as goal

abbrev pub invariant-lines : goal.invariant-lines
invariant-lines g l = record {
  advances : Advances (g.I.Interpreter.gives l.fn.interpreter) (g.I.Interpreter.gives l.interpreter) l.fn.self l.self;
  leads :
      (last : g.row.I.Denot) → Advances (Leads g.I.Interpreter.knows last l.fn.interpreter) (Leads g.I.Interpreter.knows last l.interpreter) l.fn.self l.self;
  passes :
      (last : g.row.I.Denot)
      → Advances (EndsKnown (g.I.Interpreter.gives l.fn.interpreter) (g.I.Interpreter.ended_at last)) (EndsKnown (g.I.Interpreter.gives l.interpreter) (g.I.Interpreter.ended_at last)) l.fn.self l.self;
  takes : TakesBytes l.fn.self l.self;
}

abbrev pub decreases-lines : goal.decreases-lines
decreases-lines g l = length l.self.pending
