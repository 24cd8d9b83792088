use Rattle.std.proofs.Common.{◌≡◌, ap, ◌∙◌}
use Rattle.ring.specs.sender.Senders.{SenderValue}
use Rattle.ring_bench.proofs.threads.send_all.Goals as goal
use Rattle.ring_bench.proofs.threads.send_all.Goals.{in-RoundTrip, in_default}

pub loop-k-preserved : goal.loop-k-preserved
loop-k-preserved c =
    let again : c.in-Ok.again.ring ≡ c.args.ring.now = c.in-Ok.ensures.went_on.ring_is ∙ c.loop-k.invariant in
    elim c.match-sending.branch [
      | in-RoundTrip w ↦ ap (λ (s : SenderValue). s.ring) w.sender-is ∙ w.wait_until_done.ensures.ring ∙ again
      | in_default w ↦ ap (λ (s : SenderValue). s.ring) w.sender-is ∙ again
    ]
