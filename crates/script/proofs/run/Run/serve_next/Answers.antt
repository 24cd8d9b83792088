use Rattle.std.proofs.Common.{◌+◌, drop, ap, ◌∙◌, arith}
use Rattle.script.proofs.LineLemmas.{found_end}
use Rattle.script.proofs.ServedLines.{advances_line, leads_line, passes_line, ends_line, ends_long, stops_line, stops_long}
use Rattle.script.specs.Endings.{EndsKnown}
use Rattle.script.specs.Knowing.{Leads}
use Rattle.script.proofs.run.Run.serve_next.Goals as goal

pub returns-then-end-gt-LONGEST_LINE-clause-stops :
    goal.returns-then-end-gt-LONGEST_LINE-clause-stops
returns-then-end-gt-LONGEST_LINE-clause-stops g c _ =
    stops_long (g.I.Interpreter.gives c.args.interpreter.now) c.args.self.now c.refuse_long_line.new.self c.args.end
    (g.met.I.Interpreter.long_line c.args.interpreter.now (c.args.self.now.lines + 1)) (found_end _ _ c.requires) (omega arith) c.in_ok-refuse_long_line.ensures.text

pub returns-then-not-branch-clause-stops : goal.returns-then-not-branch-clause-stops
returns-then-not-branch-clause-stops g c _ =
    stops_line (g.I.Interpreter.gives c.args.interpreter.now) c.args.self.now c.answer_line.new.self c.args.end (found_end _ _ c.requires) (c.in_ok-answer_line.ensures.ends c.if-not-branch.true)

pub returns-clause-goes_on : goal.returns-clause-goes_on
returns-clause-goes_on g c _ =
    advances_line (g.I.Interpreter.gives c.args.interpreter.now) (g.I.Interpreter.gives c.answer_line.new.interpreter) c.args.self.now _ c.args.end (found_end _ _ c.requires)
    c.in_ok-answer_line.ensures.lines (c.skip.ensures ∙ ap (drop (c.args.end + 1)) c.in_ok-answer_line.ensures.pending) (c.in_ok-answer_line.ensures.goes_on c.if-not-branch.false)

pub returns-clause-learns : goal.returns-clause-learns
returns-clause-learns g c _ last =
    let knows = g.I.Interpreter.knows in
    let old = c.args.interpreter.now in
    let new = c.answer_line.new.interpreter in
    advances_line (Leads knows last old) (Leads knows last new) c.args.self.now _ c.args.end (found_end _ _ c.requires)
    c.in_ok-answer_line.ensures.lines (c.skip.ensures ∙ ap (drop (c.args.end + 1)) c.in_ok-answer_line.ensures.pending)
    (leads_line knows (g.I.Interpreter.gives old) (g.I.Interpreter.gives new) last old new _ _ _ _ (c.in_ok-answer_line.ensures.goes_on c.if-not-branch.false)
    (c.in_ok-answer_line.ensures.learns c.if-not-branch.false))

pub returns-then-end-gt-LONGEST_LINE-clause-last : goal.returns-then-end-gt-LONGEST_LINE-clause-last
returns-then-end-gt-LONGEST_LINE-clause-last g c _ =
    let before = g.I.Interpreter.gives c.args.interpreter.now in
    let is_last = g.I.Interpreter.ended_at c.refuse_long_line.new.interpreter in
    let number = c.args.self.now.lines + 1 in
    stops_long (EndsKnown before is_last) c.args.self.now c.refuse_long_line.new.self c.args.end
    (ends_long is_last before number (g.met.I.Interpreter.long_line c.args.interpreter.now number) c.in_ok-refuse_long_line.ensures.last)
    (found_end _ _ c.requires) (omega arith) c.in_ok-refuse_long_line.ensures.text

pub returns-then-not-branch-clause-last : goal.returns-then-not-branch-clause-last
returns-then-not-branch-clause-last g c _ =
    let before = g.I.Interpreter.gives c.args.interpreter.now in
    let is_last = g.I.Interpreter.ended_at c.answer_line.new.interpreter in
    stops_line (EndsKnown before is_last) c.args.self.now c.answer_line.new.self c.args.end (found_end _ _ c.requires)
    (ends_line is_last before _ _ _ _ (c.in_ok-answer_line.ensures.ends c.if-not-branch.true) (c.in_ok-answer_line.ensures.last c.if-not-branch.true))

pub returns-clause-passes : goal.returns-clause-passes
returns-clause-passes g c _ last =
    let is_last = g.I.Interpreter.ended_at last in
    let old = g.I.Interpreter.gives c.args.interpreter.now in
    let new = g.I.Interpreter.gives c.answer_line.new.interpreter in
    advances_line (EndsKnown old is_last) (EndsKnown new is_last) c.args.self.now _ c.args.end (found_end _ _ c.requires)
    c.in_ok-answer_line.ensures.lines (c.skip.ensures ∙ ap (drop (c.args.end + 1)) c.in_ok-answer_line.ensures.pending)
    (passes_line is_last old new _ _ _ _ (c.in_ok-answer_line.ensures.goes_on c.if-not-branch.false))
