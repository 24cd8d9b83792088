use Rattle.std.proofs.Common.{sym, refl, ◌∙◌}
use Rattle.engine.proofs.Cells.{of_no_sync, of_no_cell, of_cell}
use Rattle.engine.proofs.completion.completion_of.Goals as goal

pub returns-then-not-is_sync : goal.returns-then-not-is_sync
returns-then-not-is_sync c = of_no_sync c.args.raw (sym c.is_sync.ensures ∙ c.if-not-is_sync.true)

pub returns-in_err-sender : goal.returns-in_err-sender
returns-in_err-sender c = c.from_residual.ensures ∙ of_no_cell c.args.raw (sym c.is_sync.ensures ∙ c.if-not-is_sync.false) c.in_err-sender.ensures

pub returns : goal.returns
returns c = of_cell c.args.raw c.in_ok-sender.sender _ (sym c.is_sync.ensures ∙ c.if-not-is_sync.false) c.in_ok-sender.ensures refl
