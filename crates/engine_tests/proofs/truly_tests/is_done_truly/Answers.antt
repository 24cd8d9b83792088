use Rattle.std.proofs.Common.{ℕ, subst}
use Rattle.engine.specs.Ends.{WasToldAllTruly}
use Rattle.engine_tests.proofs.Truly.{is_done}
use Rattle.engine_tests.proofs.truly_tests.is_done_truly.Goals as goal

pub returns-clause-truly : goal.returns-clause-truly
returns-clause-truly c =
    is_done c.args.receipt.now.number c.args.sender.now c.is_done-done.new.self _ c.is_done-done.ensures.asked _ _ _
    (subst (λ (s : ℕ). WasToldAllTruly c.told.new.self.consumer.history c.told.new.self.unit.caches.entries s c.is_done-done.new.self.trail) c.is_done-done.ensures.id c.told.ensures.told)
