use Rattle.std.proofs.Common.{◌≡◌, ◌+◌, ◌≤◌, ℕ, suc, Bool, cond, List, sym, ap, subst, ◌∙◌, arith}
use Rattle.cmdcodec.specs.declared.raw.Raw.{Raw}
use Rattle.stress.specs.Plans.{body, closes}
use Rattle.stress.specs.Workers.{WorkerValue, IsOnPlan, HasTried, HasTriedNext, is_sent}
use Rattle.stress.proofs.Own.{goes}
use Rattle.stress.proofs.worker.Worker.try_next.Goals as goal
use Rattle.stress.proofs.worker.Worker.try_next.Goals.{then-is_sent, else-is_sent}

pub invariant_of-worker : goal.invariant_of-worker
invariant_of-worker c =
    let sent : ℕ = c.self.inside.sent in
    let number : ℕ = c.self.inside.sender.number in
    let next : sent + 1 ≡ suc sent = omega arith in
    let left = c.requires.left in
    let n = ap (λ (w : WorkerValue). w.sent) c.self.view_is in
    let b = ap (λ (w : WorkerValue). w.plan.batches) c.self.view_is in
    let in_plan : suc sent ≤ c.self.inside.plan.batches = omega (arith, left, n, b) in
    let body_is : c.batch-batch.result ≡ body c.self.inside.plan number (suc sent) =
    c.batch-batch.ensures ∙ ap (λ (s : ℕ). body c.self.inside.plan s (sent + 1)) c.id.ensures ∙ ap (body c.self.inside.plan number) next in
    let closes_is : c.closes.result ≡ closes c.self.inside.plan (suc sent) = c.closes.ensures ∙ ap (closes c.self.inside.plan) next in
    let tried : HasTried (body c.self.inside.plan number (suc sent)) (closes c.self.inside.plan (suc sent)) c.self.inside.sender c.send_once-sender.result.0 c.send_once-sender.result.1 =
    subst (λ (x : List Raw × Bool). HasTried x.0 x.1 c.self.inside.sender c.send_once-sender.result.0 c.send_once-sender.result.1) (λ k. (body_is k, closes_is k)) c.send_once-sender.ensures.tried in
    let on = goes c.self.inside.plan c.self.inside.sender c.send_once-sender.result.0 sent c.self.invariant c.send_once-sender.ensures.id in_plan c.send_once-sender.result.1 tried in
    let sent_is : cond (is_sent c.send_once-sender.result.1) (suc sent) sent ≡ c.if-is_sent.sent =
    ap (λ (v : Bool). cond v (suc sent) sent) (sym c.is_sent.ensures) ∙ elim c.if-is_sent.branch [
      | then-is_sent w ↦ ap (λ (v : Bool). cond v (suc sent) sent) w.if-is_sent.true ∙ sym next ∙ sym w.sent-is
      | else-is_sent w ↦ ap (λ (v : Bool). cond v (suc sent) sent) w.if-is_sent.false ∙ sym w.sent-is
    ] in
    subst (IsOnPlan c.self.inside.plan c.send_once-sender.result.0) sent_is on

pub returns-clause-tried : goal.returns-clause-tried
returns-clause-tried c =
    let sent : ℕ = c.self.inside.sent in
    let number : ℕ = c.self.inside.sender.number in
    let next : sent + 1 ≡ suc sent = omega arith in
    let body_is : c.batch-batch.result ≡ body c.self.inside.plan number (suc sent) =
    c.batch-batch.ensures ∙ ap (λ (s : ℕ). body c.self.inside.plan s (sent + 1)) c.id.ensures ∙ ap (body c.self.inside.plan number) next in
    let closes_is : c.closes.result ≡ closes c.self.inside.plan (suc sent) = c.closes.ensures ∙ ap (closes c.self.inside.plan) next in
    let tried : HasTried (body c.self.inside.plan number (suc sent)) (closes c.self.inside.plan (suc sent)) c.self.inside.sender c.send_once-sender.result.0 c.send_once-sender.result.1 =
    subst (λ (x : List Raw × Bool). HasTried x.0 x.1 c.self.inside.sender c.send_once-sender.result.0 c.send_once-sender.result.1) (λ k. (body_is k, closes_is k)) c.send_once-sender.ensures.tried in
    subst (λ (w : WorkerValue). HasTriedNext w (record { plan = c.self.inside.plan; sender = c.send_once-sender.result.0; sent = c.if-is_sent.sent }) c.send_once-sender.result.1) c.self.view_is tried
