use Rattle.std.proofs.Common.{◌≡◌, ◌≤◌, ℕ, [], sym, ap, ◌∙◌, subst, length}
use Rattle.std.proofs.lemmas.List.{length-replicate}
use Rattle.qindex.specs.Indexes.{IsGeometry}
use Rattle.ringcore.specs.memory.WordStores.{WordsValue}
use Rattle.ringcore.specs.machine.Core.{CoreValue}
use Rattle.ringcore.proofs.MachineLemmas.PlayedSteps.{opened}
use Rattle.ringcore.proofs.machine.Core.open.Goals as goal

pub invariant_of-result : goal.invariant_of-result
invariant_of-result c =
    let core : CoreValue = record { words = c.in_ok-new.field-0; senders = c.in_ok-new_views.field-0.items; consumer = c.new-2.result; tallies = c.in_ok-new-2.field-0 } in
    let is_geometry : IsGeometry c.args.geometry =
    subst IsGeometry (ap (λ (w : WordsValue). w.geometry) c.drop.view_is ∙ ap (λ (w : WordsValue). w.geometry) c.in_ok-new.ensures) c.drop.invariant.geometry_is in
    let many : core.words.senders ≡ c.args.senders = ap (λ (w : WordsValue). w.senders) c.in_ok-new.ensures in record {
      few = subst (λ n. n ≤ 256) (sym many) c.requires;
      views = c.in_ok-new_views.ensures.0 ∙ sym many;
      counts = ap length c.in_ok-new-2.ensures.none ∙ length-replicate {A = ℕ} c.args.senders 0 ∙ sym many;
      run = [];
      stands = (opened c.begin.ensures core c.args.geometry c.args.senders is_geometry c.in_ok-new.ensures c.in_ok-new_views.ensures.1 c.new-2.ensures c.in_ok-new-2.ensures.begins).1;
    }

pub returns : goal.returns
returns c =
    let core : CoreValue = record { words = c.in_ok-new.field-0; senders = c.in_ok-new_views.field-0.items; consumer = c.new-2.result; tallies = c.in_ok-new-2.field-0 } in
    let is_geometry : IsGeometry c.args.geometry =
    subst IsGeometry (ap (λ (w : WordsValue). w.geometry) c.drop.view_is ∙ ap (λ (w : WordsValue). w.geometry) c.in_ok-new.ensures) c.drop.invariant.geometry_is in
    opened c.begin.ensures core c.args.geometry c.args.senders is_geometry c.in_ok-new.ensures c.in_ok-new_views.ensures.1 c.new-2.ensures c.in_ok-new-2.ensures.begins
