use Rattle.std.proofs.Common.{◌≡◌, ◌++◌, ◌+◌, ℕ, suc, List, sym, ap, ◌∙◌, arith, slice_index_or}
use Rattle.std.proofs.lemmas.List.{append_assoc}
use Rattle.std.proofs.lemmas.Option.{slice_get-get_or}
use Rattle.std.specs.Prelude.{take, slice_get, Some, string_bytes}
use Rattle.stress.specs.ReportText.{sender_line, sender_lines}
use Rattle.stress.proofs.Lines.{one_more_line}
use Rattle.stress.proofs.telling.say_senders.Goals as goal

pub loop-number-preserved : goal.loop-number-preserved
loop-number-preserved c =
    let n : ℕ = c.loop-number.number in
    let done : List ℕ = c.done-done.result.now in
    let batches : ℕ = c.batches-batches.result in
    let at : slice_get done n ≡ Some (slice_index_or done n 0) = slice_get-get_or done n 0 c.loop-number-test.true in
    let more : sender_lines batches 0 (take (n + 1) done) ≡ sender_lines batches 0 (take n done) ++ sender_line batches n (slice_index_or done n 0) =
    ap (λ (m : ℕ). sender_lines batches 0 (take m done)) (let e : n + 1 ≡ suc n = omega arith in e) ∙ one_more_line batches 0 n _ done at
    ∙ ap (λ (m : ℕ). sender_lines batches 0 (take n done) ++ sender_line batches m (slice_index_or done n 0)) (let e : 0 + n ≡ n = omega arith in e) in
    c.in_ok-say_sender.ensures ∙ ap (λ (l : List ℕ). l ++ sender_line batches n (slice_index_or done n 0)) c.loop-number.invariant
    ∙ append_assoc (string_bytes c.args.text.now) (sender_lines batches 0 (take n done)) (sender_line batches n (slice_index_or done n 0))
    ∙ ap (λ (l : List ℕ). string_bytes c.args.text.now ++ l) (sym more)
