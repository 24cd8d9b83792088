use Rattle.std.proofs.Common.{ap, sym, ◌∙◌}
use Rattle.cmdcodec.specs.Words.{encoding}
use Rattle.batch.proofs.RangeLemmas.{stepped, ended, ended_body, fits, overflows}
use Rattle.batch.proofs.range.append_commands.Goals as goal

pub returns-then-is_full-clause-answer : goal.returns-then-is_full-clause-answer
returns-then-is_full-clause-answer c = overflows c.pages.invariant c.pages-test.true (sym c.is_full.ensures.value ∙ c.if-is_full.true)

pub pages-preserved : goal.pages-preserved
pages-preserved c =
    let room = sym c.is_full.ensures.value ∙ c.if-is_full.false in
    stepped c.pages.invariant c.pages-test.true room c.encode.result c.push.new.self.items c.reached_of-reached.result
    (c.encode.ensures.words ∙ ap encoding c.next_command.ensures) c.push.ensures.items c.reached_of-reached.ensures.value

pub returns-clause-answer : goal.returns-clause-answer
returns-clause-answer c = fits c.pages.invariant c.pages-test.false

pub returns-clause-appended : goal.returns-clause-appended
returns-clause-appended c = ended c.pages.invariant c.pages-test.false

pub returns-clause-body : goal.returns-clause-body
returns-clause-body c = ended_body c.pages.invariant c.pages-test.false
