-- A batch with a number has one place among the batches of a run.
use Rattle.std.proofs.Common.{◌≡◌, ℕ, ◌≤◌, ◌==◌, cond, List, [], ◌∷◌, ◌++◌, Some, refl, sym, ap, ◌∙◌, append_assoc, length, arith}
use Rattle.std.proofs.lemmas.List.{length-append}
use Rattle.cmdcodec.specs.declared.raw.Raw.{Raw}
use Rattle.ring.specs.Runs.{Sender, Won, Run, Batch, batches, joined}
use Rattle.ringcore.specs.world.Delivery.{number_of, numbers, counted, NumberedInOrder, IsCompleted}
use Rattle.ringcore.proofs.WorldLemmas.Reading.{joined_append}
use Rattle.detachment.proofs.OneBatch.{batches_append, batch_of, one_body}
use Rattle.guest_forwarding.specs.Carrying.{reserved_in}

module _ (s number : ℕ) where
  -- The numbers don't depend on what a batch has.
  by_number : (ahead behind : List Batch) (body words : List Raw) → numbers s (ahead ++ batch_of s number body ∷ behind) ≡ numbers s (ahead ++ batch_of s number words ∷ behind)
  by_number [] behind body words = refl
  by_number (b ∷ ahead) behind body words = ap (λ (ns : List ℕ). cond (s == b.sender) (number_of b.number ns) ns) (by_number ahead behind body words)

  -- So there are no two with the number: they would be the same, whatever each has.
  no_two : (before between behind : List Batch) (body words : List Raw) (first many : ℕ)
      → numbers s (before ++ batch_of s number body ∷ (between ++ batch_of s number words ∷ behind)) ≡ counted first many → ⊥
  no_two before between behind body words first many is =
      let longer : List Raw = record { lo = 0; hi = 0 } ∷ body in
      let both = sym (append_assoc before (batch_of s number body ∷ between) (batch_of s number longer ∷ behind)) in
      let alone =
      ap (numbers s) both ∙ by_number (before ++ batch_of s number body ∷ between) behind longer words
      ∙ ap (numbers s) (append_assoc before (batch_of s number body ∷ between) (batch_of s number words ∷ behind)) in
      let same = one_body s before (before ++ batch_of s number body ∷ between) (between ++ batch_of s number longer ∷ behind) behind number body longer first many both (alone ∙ is) in
      let long = ap length same in omega (arith, long)

  same_ahead : (before ahead other behind rest : List Batch) (body words : List Raw) (first many : ℕ) → ahead ++ batch_of s number body ∷ behind ≡ other ++ batch_of s number words ∷ rest
      → numbers s (before ++ (ahead ++ batch_of s number body ∷ behind)) ≡ counted first many → ahead ≡ other
  same_ahead before [] [] behind rest body words first many same is = refl
  same_ahead before [] (y ∷ other) behind rest body words first many same is =
      let tail : behind ≡ other ++ batch_of s number words ∷ rest = cc in
      absurd (no_two before other rest body words first many (sym (ap (λ (bs : List Batch). numbers s (before ++ batch_of s number body ∷ bs)) tail) ∙ is))
  same_ahead before (x ∷ ahead) [] behind rest body words first many same is =
      let head : x ≡ batch_of s number words = cc in
      absurd (no_two before ahead behind words body first many (sym (ap (λ (b : Batch). numbers s (before ++ b ∷ (ahead ++ batch_of s number body ∷ behind))) head) ∙ is))
  same_ahead before (x ∷ ahead) (y ∷ other) behind rest body words first many same is =
      let head : x ≡ y = cc in let tail : ahead ++ batch_of s number body ∷ behind ≡ other ++ batch_of s number words ∷ rest = cc in
      let after =
      same_ahead (before ++ x ∷ []) ahead other behind rest body words first many tail
      (ap (numbers s) (append_assoc before (x ∷ []) (ahead ++ batch_of s number body ∷ behind)) ∙ is) in
      (λ i. head i ∷ after i)

-- A batch that is reserved behind a run is taken behind all that is reserved in that.
pub is_late : (s number : ℕ) (words : List Raw) (later between known run : Run) → run ≡ later ++ (Sender s, Won words (Some number)) ∷ (between ++ known) → NumberedInOrder run
    → (completed : IsCompleted run s number) → reserved_in known ≤ length (joined completed.ahead)
is_late s number words later between known run reserved numbered completed =
    let among =
    ap batches reserved ∙ batches_append later ((Sender s, Won words (Some number)) ∷ (between ++ known))
    ∙ append_assoc (batches (between ++ known)) (batch_of s number words ∷ []) (batches later) in
    let ahead_is =
    same_ahead s number [] (batches (between ++ known)) completed.ahead (batches later) completed.behind words completed.body 1 (length (numbers s (batches run)))
    (sym among ∙ completed.reserved) (sym (ap (numbers s) among) ∙ numbered s) in
    let long =
    ap length (ap joined (sym ahead_is ∙ batches_append between known) ∙ joined_append (batches known) (batches between))
    ∙ length-append (joined (batches known)) (joined (batches between)) in
    omega (arith, long)
