use Rattle.std.proofs.Common.{◌+◌, length, ap, arith}
use Rattle.std.proofs.lemmas.Result.{err_from_is_err_and}
use Rattle.script.specs.Endings.{EndsKnown}
use Rattle.script.specs.Knowing.{Leads}
use Rattle.script.proofs.LineLemmas.{found_none}
use Rattle.script.proofs.ServedLines.{advances_refl, advances_trans, ends_long, stops_after, stops_long_front, halts_after}
use Rattle.script.proofs.TakenBytes.{takes_line}
use Rattle.script.proofs.run.Run.serve_lines.Goals as goal

pub returns-in_err-serve_next-clause-halts : goal.returns-in_err-serve_next-clause-halts
returns-in_err-serve_next-clause-halts g c =
    let returned = err_from_is_err_and c.from_residual.result c.from_residual.ensures.1 in
    rw returned.1 (halts_after (g.I.Interpreter.gives c.args.interpreter.now) (g.I.Interpreter.gives c.lines.interpreter) c.args.self.now c.lines.self c.serve_next.new.self
    (g.met.I.Interpreter.nothing_left c.lines.interpreter) c.lines.invariant.advances c.in_err-serve_next.ensures.err)

pub returns-then-not-branch-clause-stops : goal.returns-then-not-branch-clause-stops
returns-then-not-branch-clause-stops g c _ =
    stops_after (g.I.Interpreter.gives c.args.interpreter.now) (g.I.Interpreter.gives c.lines.interpreter) c.args.self.now c.lines.self c.serve_next.new.self c.lines.invariant.advances
    (c.in_ok-serve_next.ensures.stops c.if-not-branch.true)

pub returns-then-len-gt-LONG_TEXT-clause-goes_on :
    goal.returns-then-len-gt-LONG_TEXT-clause-goes_on
returns-then-len-gt-LONG_TEXT-clause-goes_on g c _ =
    advances_trans (g.I.Interpreter.gives c.args.interpreter.now) (g.I.Interpreter.gives c.lines.interpreter) (g.I.Interpreter.gives c.serve_next.new.interpreter)
    c.args.self.now c.lines.self c.serve_next.new.self c.lines.invariant.advances (c.in_ok-serve_next.ensures.goes_on c.if-not-branch.false)

pub lines-init : goal.lines-init
lines-init g c = record {
  advances = advances_refl (g.I.Interpreter.gives c.args.interpreter.now) c.args.self.now;
  leads = λ last. advances_refl (Leads g.I.Interpreter.knows last c.args.interpreter.now) c.args.self.now;
  passes = λ last. advances_refl (EndsKnown (g.I.Interpreter.gives c.args.interpreter.now) (g.I.Interpreter.ended_at last)) c.args.self.now;
  takes = record { lines = omega arith; bytes = omega arith };
}

pub returns-then-len-gt-LONG_TEXT-clause-learns : goal.returns-then-len-gt-LONG_TEXT-clause-learns
returns-then-len-gt-LONG_TEXT-clause-learns g c _ last =
    let knows = g.I.Interpreter.knows in
    advances_trans (Leads knows last c.args.interpreter.now) (Leads knows last c.lines.interpreter) (Leads knows last c.serve_next.new.interpreter)
    c.args.self.now c.lines.self c.serve_next.new.self (c.lines.invariant.leads last) (c.in_ok-serve_next.ensures.learns c.if-not-branch.false last)

pub lines-preserved : goal.lines-preserved
lines-preserved g c =
    let served = c.in_ok-serve_next.ensures in
    let next = c.serve_next.new.self in
    let knows = g.I.Interpreter.knows in
    record {
      leads = λ last.
          advances_trans (Leads knows last c.args.interpreter.now) (Leads knows last c.lines.interpreter) (Leads knows last c.serve_next.new.interpreter)
          c.args.self.now c.lines.self next (c.lines.invariant.leads last) (served.learns c.if-not-branch.false last);
      advances =
          advances_trans (g.I.Interpreter.gives c.args.interpreter.now) (g.I.Interpreter.gives c.lines.interpreter) (g.I.Interpreter.gives c.serve_next.new.interpreter)
          c.args.self.now c.lines.self next c.lines.invariant.advances (served.goes_on c.if-not-branch.false);
      passes = λ last.
          let is_last = g.I.Interpreter.ended_at last in
          advances_trans (EndsKnown (g.I.Interpreter.gives c.args.interpreter.now) is_last) (EndsKnown (g.I.Interpreter.gives c.lines.interpreter) is_last)
          (EndsKnown (g.I.Interpreter.gives c.serve_next.new.interpreter) is_last)
          c.args.self.now c.lines.self next (c.lines.invariant.passes last) (served.passes c.if-not-branch.false last);
      takes = takes_line c.args.self.now c.lines.self next c.lines.invariant.takes (served.lines c.if-not-branch.false) (served.shorter c.if-not-branch.false);
    }

pub returns-in_err-refuse_long_line-clause-halts :
    goal.returns-in_err-refuse_long_line-clause-halts
returns-in_err-refuse_long_line-clause-halts g c =
    let returned = err_from_is_err_and c.from_residual-in_err-refuse_long_line.result c.from_residual-in_err-refuse_long_line.ensures.1 in
    rw returned.1 (halts_after (g.I.Interpreter.gives c.args.interpreter.now) (g.I.Interpreter.gives c.lines.interpreter) c.args.self.now c.lines.self c.refuse_long_line.new.self
    (g.met.I.Interpreter.nothing_left c.lines.interpreter) c.lines.invariant.advances c.in_err-refuse_long_line.ensures.err)

pub returns-then-as_slice-gt-LONGEST_LINE-clause-stops :
    goal.returns-then-as_slice-gt-LONGEST_LINE-clause-stops
returns-then-as_slice-gt-LONGEST_LINE-clause-stops g c _ =
    let same = ap length c.as_slice-2.ensures.value in
    let none = found_none c.lines.self.pending (rw c.as_slice.ensures.value at c.in_default.ensures) in
    stops_after (g.I.Interpreter.gives c.args.interpreter.now) (g.I.Interpreter.gives c.lines.interpreter) c.args.self.now c.lines.self c.refuse_long_line.new.self c.lines.invariant.advances
    (stops_long_front (g.I.Interpreter.gives c.lines.interpreter) c.lines.self c.refuse_long_line.new.self (g.met.I.Interpreter.long_line c.lines.interpreter (c.lines.self.lines + 1)) none (omega arith)
    c.in_ok-refuse_long_line.ensures.text)

pub returns-then-not-branch-clause-last : goal.returns-then-not-branch-clause-last
returns-then-not-branch-clause-last g c _ =
    let last = c.serve_next.new.interpreter in
    let is_last = g.I.Interpreter.ended_at last in
    stops_after (EndsKnown (g.I.Interpreter.gives c.args.interpreter.now) is_last) (EndsKnown (g.I.Interpreter.gives c.lines.interpreter) is_last)
    c.args.self.now c.lines.self c.serve_next.new.self (c.lines.invariant.passes last) (c.in_ok-serve_next.ensures.last c.if-not-branch.true)

pub returns-then-len-gt-LONG_TEXT-clause-passes : goal.returns-then-len-gt-LONG_TEXT-clause-passes
returns-then-len-gt-LONG_TEXT-clause-passes g c _ last =
    let is_last = g.I.Interpreter.ended_at last in
    advances_trans (EndsKnown (g.I.Interpreter.gives c.args.interpreter.now) is_last) (EndsKnown (g.I.Interpreter.gives c.lines.interpreter) is_last)
    (EndsKnown (g.I.Interpreter.gives c.serve_next.new.interpreter) is_last)
    c.args.self.now c.lines.self c.serve_next.new.self (c.lines.invariant.passes last) (c.in_ok-serve_next.ensures.passes c.if-not-branch.false last)

pub returns-then-as_slice-gt-LONGEST_LINE-clause-last : goal.returns-then-as_slice-gt-LONGEST_LINE-clause-last
returns-then-as_slice-gt-LONGEST_LINE-clause-last g c _ =
    let same = ap length c.as_slice-2.ensures.value in
    let none = found_none c.lines.self.pending (rw c.as_slice.ensures.value at c.in_default.ensures) in
    let last = c.refuse_long_line.new.interpreter in
    let is_last = g.I.Interpreter.ended_at last in
    let may = g.I.Interpreter.gives c.lines.interpreter in
    let number = c.lines.self.lines + 1 in
    stops_after (EndsKnown (g.I.Interpreter.gives c.args.interpreter.now) is_last) (EndsKnown may is_last) c.args.self.now c.lines.self c.refuse_long_line.new.self (c.lines.invariant.passes last)
    (stops_long_front (EndsKnown may is_last) c.lines.self c.refuse_long_line.new.self
    (ends_long is_last may number (g.met.I.Interpreter.long_line c.lines.interpreter number) c.in_ok-refuse_long_line.ensures.last) none (omega arith)
    c.in_ok-refuse_long_line.ensures.text)
