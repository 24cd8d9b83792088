use Rattle.std.proofs.Common.{◌≡◌, ◌<◌, ◌∷◌, ℕ, suc, List, length, sym, ap, subst, ◌∙◌}
use Rattle.std.specs.Prelude.{slice_set}
use Rattle.batch_outcomes.specs.declared.settled.Settled.{Settled}
use Rattle.batch_outcomes.specs.declared.settled.Settled.TheVariants.{Sync}
use Rattle.batch_outcomes.specs.declared.told.Told.{Told}
use Rattle.batch_outcomes.specs.Settled.{last_of}
use Rattle.batch_outcomes.specs.Outcomes.{OutcomesValue, IsRemembered}
use Rattle.batch_outcomes.proofs.Remembering.{remembered, at_index}
use Rattle.batch_outcomes.proofs.outcomes.Outcomes.close.Goals as goal

pub invariant_of-self : goal.invariant_of-self
invariant_of-self c =
    let told : Told = c.index_mut-told.result.now in
    let known : c.args.sender < length c.self.inside.told.items = subst (λ (v : OutcomesValue). c.args.sender < v.senders) (sym c.self.view_is) c.requires.known in
    let next = subst (λ (v : OutcomesValue). c.args.number ≡ suc (last_of c.args.sender v.settled)) (sym c.self.view_is) c.requires.next in
    subst (λ (x : List Settled × Told). IsRemembered x.0 (slice_set c.self.inside.told.items c.args.sender x.1) 0) (λ k. (sym c.add.ensures k, sym c.then.ensures k))
    (remembered c.self.inside.settled c.self.inside.told.items c.self.inside.lost c.args.sender c.args.number told c.self.invariant (at_index _ _ told known c.index_mut-told.ensures.value) next)
