use Rattle.std.proofs.Common.{◌≡◌, ℕ, ◌+◌, ◌-◌, ◌≤◌, ◌++◌, List, length, ap, ap₂, subst, sym, ◌∙◌, arith}
use Rattle.std.specs.Prelude.{drop}
use Rattle.cmdcodec.specs.declared.raw.Raw.{Raw}
use Rattle.qindex.specs.Positions.{IndexValue, index_of}
use Rattle.hardware_queue.specs.Queues.{QueueValue, in_memory}
use Rattle.shadow_queue.specs.Shadows.{IsUnlostFrom}
use Rattle.shadow_queue.proofs.Copying.{newest_of, own_geometry}
use Rattle.shadow_queue.proofs.shadow_queue.ShadowQueue.copy_newest.Goals as goal

pub returns : goal.returns
returns c =
    let is = c.self.invariant in
    let flight = subst (λ (q : QueueValue). q.consumed + c.in_flight.result ≡ length q.shown) (sym c.self.view_is) c.in_flight.ensures in
    let room = subst (λ (q : QueueValue). q.consumed + c.args.count ≤ length q.shown) (sym c.self.view_is) c.requires.shown in
    let t : ℕ = length c.self.inside.shown - c.args.count in
    let there : c.self.inside.consumed + (c.in_flight.result - c.args.count) ≡ t = omega (arith, flight, room) in
    let start = c.forward-start.ensures.position _ _ is.indexes.cons_is ∙ ap (λ (p : ℕ). index_of c.self.inside.prod.geometry p) there in
    let same : c.forward-start.result.geometry ≡ c.self.inside.prod.geometry = ap (λ (i : IndexValue). i.geometry) start in
    let rest : List Raw = drop c.args.count c.args.buffer.now in
    let copied = c.copy_from.ensures t (own_geometry c.forward-start.result c.self.inside.prod.geometry t start)
    ∙ ap₂ (λ (g : ℕ) (m : List Raw). in_memory g m t c.args.count ++ rest) same c.as_slice.ensures.value in
    subst (λ (q : QueueValue). IsUnlostFrom (length q.shown - c.args.count) q → c.copy_from.new.buffer ≡ drop (length q.shown - c.args.count) q.shown ++ rest) c.self.view_is
    (λ unlost. copied ∙ ap (λ (l : List Raw). l ++ rest) (newest_of _ _ _ t c.args.count is (omega (arith, room)) (omega (arith, room)) unlost))
