-- Of two batches of a sender, the one reserved earlier is before the other.
use Rattle.std.proofs.Common.{◌≡◌, ℕ, Bool, true, false, cond, List, [], ◌∷◌, ◌++◌, length, sym, ap, ◌∙◌, arith, length-append, append_assoc}
use Rattle.std.specs.Prelude.{◌==◌}
use Rattle.ringcore.specs.world.Trails.{Run}
use Rattle.ringcore.specs.world.World.{commands}
use Rattle.ringcore.specs.world.Allowed.{Ring, IsRun}
use Rattle.ringcore.specs.world.Delivery.{Batch, batches, joined}
use Rattle.ringcore.specs.world.Laws.{batches_of, EarlierStandsBefore}
use Rattle.ringcore.proofs.WorldLemmas.Reading.{joined_append}
use Rattle.ringcore.proofs.WorldLemmas.Numbering.{is_kept}
use Rattle.ringcore.proofs.WorldLemmas.Completed.{unbroken}

-- where a sender's batch is among all batches
record IsAmong (s : ℕ) (bs : List Batch) (one : Batch) (later : List Batch) : Type 0 where
  pub ahead : List Batch
  pub behind : List Batch
  pub whole : bs ≡ ahead ++ one ∷ behind
  pub later_is : batches_of s behind ≡ later

among_all : (s : ℕ) (bs before : List Batch) (one : Batch) (later : List Batch) → batches_of s bs ≡ before ++ one ∷ later → IsAmong s bs one later
among_all s [] [] one later is = absurd (cc)
among_all s [] (x ∷ before) one later is = absurd (cc)
among_all s (b ∷ bs) before one later is = by_sender (s == b.sender) before is (among_all s bs)
  where
    more : IsAmong s bs one later → IsAmong s (b ∷ bs) one later
    more r = record { ahead = b ∷ r.ahead; behind = r.behind; whole = ap (λ l. b ∷ l) r.whole; later_is = r.later_is }

    by_sender : (v : Bool) (front : List Batch) → cond v (b ∷ batches_of s bs) (batches_of s bs) ≡ front ++ one ∷ later
        → ((before : List Batch) (one : Batch) (later : List Batch) → batches_of s bs ≡ before ++ one ∷ later → IsAmong s bs one later) → IsAmong s (b ∷ bs) one later
    by_sender false front is rest = more (rest front one later is)
    by_sender true [] is rest =
        let here : b ≡ one = cc in
        let others : batches_of s bs ≡ later = cc in
        record { ahead = []; behind = bs; whole = ap (λ x. x ∷ bs) here; later_is = others }
    by_sender true (x ∷ front) is rest = let others : batches_of s bs ≡ front ++ one ∷ later = cc in more (rest front one later others)

pub earlier_first : (ring : Ring) (run : Run) → IsRun ring run → EarlierStandsBefore run
earlier_first ring run ok s before between after one two is =
    let first = among_all s (batches run) before one (between ++ two ∷ after) ((is_kept ring run ok).own s ∙ is) in
    let second = among_all s first.behind between two after first.later_is in
    let front = first.ahead ++ one ∷ second.ahead in
    let tail : one ∷ first.behind ≡ (one ∷ second.ahead) ++ two ∷ second.behind = ap (λ l. one ∷ l) second.whole in
    let whole : batches run ≡ front ++ two ∷ second.behind =
    first.whole ∙ ap (λ l. first.ahead ++ l) tail ∙ sym (append_assoc first.ahead (one ∷ second.ahead) (two ∷ second.behind)) in
    let mine = commands one.sender one.number one.body in
    let long = ap length (joined_append first.ahead (one ∷ second.ahead)) ∙ length-append (joined first.ahead) (mine ++ joined second.ahead) in
    let own = length-append mine (joined second.ahead) in
    record {
      first = length (joined first.ahead);
      second = length (joined front);
      first_is = unbroken run first.ahead first.behind one first.whole;
      second_is = unbroken run front second.behind two whole;
      order = omega (arith, long, own);
    }
