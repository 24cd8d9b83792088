use Rattle.script.specs.Endings.{EndsKnown}
use Rattle.script.specs.Knowing.{Leads}
use Rattle.script.specs.Serving.{IsUnderWay}
use Rattle.script.proofs.TakenBytes.{HasRead}
use Rattle.script.proofs.serving.serve.Given as goal

abbrev pub invariant-turns : goal.invariant-turns
invariant-turns g l = record {
  under_way :
      IsUnderWay (g.I.Interpreter.gives l.fn.interpreter) (g.I.Interpreter.gives l.interpreter) (g.R.Read.remaining l.fn.input) (g.R.Read.remaining l.input)
      (g.W.Write.contents l.fn.output) (g.W.Write.contents l.output) l.run;
  leads :
      (last : g.row.I.Denot) → IsUnderWay (Leads g.I.Interpreter.knows last l.fn.interpreter) (Leads g.I.Interpreter.knows last l.interpreter) (g.R.Read.remaining l.fn.input)
      (g.R.Read.remaining l.input) (g.W.Write.contents l.fn.output) (g.W.Write.contents l.output) l.run;
  passes :
      (last : g.row.I.Denot)
      → IsUnderWay (EndsKnown (g.I.Interpreter.gives l.fn.interpreter) (g.I.Interpreter.ended_at last)) (EndsKnown (g.I.Interpreter.gives l.interpreter) (g.I.Interpreter.ended_at last))
      (g.R.Read.remaining l.fn.input) (g.R.Read.remaining l.input) (g.W.Write.contents l.fn.output) (g.W.Write.contents l.output) l.run;
  has_read : HasRead (g.R.Read.remaining l.fn.input) (g.R.Read.remaining l.input) l.turn l.run;
}
