use Rattle.std.proofs.Common.{refl, subst, sym}
use Rattle.unit_queue.specs.Queued.{Queued, HasGoneOn, IsConsOf}
use Rattle.unit_queue.proofs.unit_queue.UnitQueueCommandQueue.read_cons.Goals as goal

pub returns-clause-gone_on : goal.returns-clause-gone_on
returns-clause-gone_on c = record {
  between = _;
  gone_on = subst (λ (u : Queued). HasGoneOn c.args.self.now u) (sym c.self.view_is) c.consume.ensures.gone_on;
  word_is = subst (IsConsOf c.cons_word-word.result) (sym c.self.view_is) c.cons_word-word.ensures;
  new_is = rw c.add.ensures refl;
}
