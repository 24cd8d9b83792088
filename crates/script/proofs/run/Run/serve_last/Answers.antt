use Rattle.std.proofs.Common.{◌≡◌, [], ◌∷◌, ◌++◌, length, ap, arith, refl, sym, ◌∙◌, subst, append-nil}
use Rattle.std.proofs.lemmas.Bool.{eqb-true}
use Rattle.std.proofs.lemmas.List.{nil_from_length, take_all}
use Rattle.std.proofs.lemmas.Result.{err_from_is_err_and}
use Rattle.script.proofs.LineLemmas.{lines_of-nothing, lines_of-last}
use Rattle.script.specs.Endings.{EndsKnown}
use Rattle.script.specs.Lines.{lines_of}
use Rattle.script.proofs.Searches.{NoneBefore}
use Rattle.script.proofs.ServedLines.{advances_refl, ends_line, ends_nowhere, passes_line, closes_nothing, closes_line, closes_refused, halts_after}
use Rattle.script.proofs.run.Run.serve_last.Goals as goal

pub returns-then-count-eq0-clause-closes : goal.returns-then-count-eq0-clause-closes
returns-then-count-eq0-clause-closes g c =
    let same = ap length c.as_slice-count.ensures.value in
    let nothing : c.args.self.now.pending ≡ [] = nil_from_length _ (omega arith) in
    closes_nothing (g.I.Interpreter.gives c.args.interpreter.now) c.args.self.now c.args.self.now (g.met.I.Interpreter.nothing_left c.args.interpreter.now) nothing refl

pub returns-in_err-answer_line-clause-halts : goal.returns-in_err-answer_line-clause-halts
returns-in_err-answer_line-clause-halts g c =
    let returned = err_from_is_err_and c.from_residual.result c.from_residual.ensures.1 in
    let may = g.I.Interpreter.gives c.args.interpreter.now in
    rw returned.1 (halts_after may may c.args.self.now c.args.self.now c.answer_line.new.self (g.met.I.Interpreter.nothing_left c.args.interpreter.now)
    (advances_refl may c.args.self.now) c.in_err-answer_line.ensures.err)

pub returns-then-branch-clause-closes : goal.returns-then-branch-clause-closes
returns-then-branch-clause-closes g c =
    let old = c.args.self.now in
    let same = ap length c.as_slice-count.ensures.value in
    let all = take_all (length c.as_slice-count.result.now) old.pending (omega arith) in
    let none : NoneBefore 10 old.pending (length old.pending) = λ i low e. c.requires.no_end i low (eqb-true _ 10 e) in
    closes_line (g.I.Interpreter.gives c.args.interpreter.now) (g.I.Interpreter.gives c.answer_line.new.interpreter) old c.answer_line.new.self
    (g.met.I.Interpreter.nothing_left c.answer_line.new.interpreter) none (omega arith) (rw all at (c.in_ok-answer_line.ensures.goes_on c.if-branch.true))

pub returns-else-branch-clause-closes : goal.returns-else-branch-clause-closes
returns-else-branch-clause-closes g c =
    let old = c.args.self.now in
    let same = ap length c.as_slice-count.ensures.value in
    let all = take_all (length c.as_slice-count.result.now) old.pending (omega arith) in
    let none : NoneBefore 10 old.pending (length old.pending) = λ i low e. c.requires.no_end i low (eqb-true _ 10 e) in
    closes_refused (g.I.Interpreter.gives c.args.interpreter.now) old c.answer_line.new.self none (omega arith) (rw all at (c.in_ok-answer_line.ensures.ends c.if-branch.false))

pub returns-then-count-eq0-clause-learns : goal.returns-then-count-eq0-clause-learns
returns-then-count-eq0-clause-learns g c _ past known =
    let same = ap length c.as_slice-count.ensures.value in
    let nothing : c.args.self.now.pending ≡ [] = nil_from_length _ (omega arith) in
    subst (g.I.Interpreter.knows c.args.interpreter.now) (sym (ap (λ lines. past ++ lines) (ap lines_of nothing ∙ lines_of-nothing) ∙ append-nil past)) known

pub returns-then-branch-clause-learns : goal.returns-then-branch-clause-learns
returns-then-branch-clause-learns g c _ past known =
    let old = c.args.self.now in
    let same = ap length c.as_slice-count.ensures.value in
    let all = take_all (length c.as_slice-count.result.now) old.pending (omega arith) in
    let none : NoneBefore 10 old.pending (length old.pending) = λ i low e. c.requires.no_end i low (eqb-true _ 10 e) in
    subst (g.I.Interpreter.knows c.answer_line.new.interpreter) (ap (λ lines. past ++ lines) (ap (λ line. line ∷ []) all ∙ sym (lines_of-last old.pending none (omega arith))))
    (c.in_ok-answer_line.ensures.learns c.if-branch.true past known)

pub returns-then-count-eq0-clause-last : goal.returns-then-count-eq0-clause-last
returns-then-count-eq0-clause-last g c =
    let same = ap length c.as_slice-count.ensures.value in
    let nothing : c.args.self.now.pending ≡ [] = nil_from_length _ (omega arith) in
    let may = g.I.Interpreter.gives c.args.interpreter.now in
    let is_last = g.I.Interpreter.ended_at c.args.interpreter.now in
    closes_nothing (EndsKnown may is_last) c.args.self.now c.args.self.now (ends_nowhere is_last may) nothing refl

pub returns-then-branch-clause-last : goal.returns-then-branch-clause-last
returns-then-branch-clause-last g c =
    let old = c.args.self.now in
    let same = ap length c.as_slice-count.ensures.value in
    let all = take_all (length c.as_slice-count.result.now) old.pending (omega arith) in
    let none : NoneBefore 10 old.pending (length old.pending) = λ i low e. c.requires.no_end i low (eqb-true _ 10 e) in
    let is_last = g.I.Interpreter.ended_at c.answer_line.new.interpreter in
    let may = g.I.Interpreter.gives c.args.interpreter.now in
    let then_may = g.I.Interpreter.gives c.answer_line.new.interpreter in
    closes_line (EndsKnown may is_last) (EndsKnown then_may is_last) old c.answer_line.new.self (ends_nowhere is_last then_may) none (omega arith)
    (passes_line is_last may then_may _ _ _ _ (rw all at (c.in_ok-answer_line.ensures.goes_on c.if-branch.true)))

pub returns-else-branch-clause-last : goal.returns-else-branch-clause-last
returns-else-branch-clause-last g c =
    let old = c.args.self.now in
    let same = ap length c.as_slice-count.ensures.value in
    let all = take_all (length c.as_slice-count.result.now) old.pending (omega arith) in
    let none : NoneBefore 10 old.pending (length old.pending) = λ i low e. c.requires.no_end i low (eqb-true _ 10 e) in
    let is_last = g.I.Interpreter.ended_at c.answer_line.new.interpreter in
    let may = g.I.Interpreter.gives c.args.interpreter.now in
    closes_refused (EndsKnown may is_last) old c.answer_line.new.self none (omega arith)
    (ends_line is_last may _ _ _ _ (rw all at (c.in_ok-answer_line.ensures.ends c.if-branch.false)) (rw all at (c.in_ok-answer_line.ensures.last c.if-branch.false)))
