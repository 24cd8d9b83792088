-- A run has one batch with a number of a sender.
use Rattle.std.proofs.Common.{◌≡◌, ℕ, zero, suc, ◌≤◌, ◌==◌, Bool, true, false, cond, List, [], ◌∷◌, ◌++◌, Option, Some, None, refl, sym, ap, ◌∙◌, append_assoc, append-nil, length, eq-eqb, arith}
use Rattle.cmdcodec.specs.declared.raw.Raw.{Raw}
use Rattle.ring.specs.Runs.{Who, Sender, Event, Won, Run, Batch, batches}
use Rattle.ringcore.specs.world.Delivery.{number_of, numbers, counted, NumberedInOrder, IsCompleted}

-- ---- the batches of a run that goes on

reserved_by : Who → Event → List Batch
reserved_by (Sender s) (Won body number) = record { sender = s; number = number; body = body } ∷ []
reserved_by who e = []

one_event : (who : Who) (e : Event) (run : Run) → batches ((who, e) ∷ run) ≡ batches run ++ reserved_by who e
unfolding reserved_by
one_event (Sender s) (Won body number) run = refl
one_event who e run = sym (append-nil (batches run))

pub batches_append : (newer older : Run) → batches (newer ++ older) ≡ batches older ++ batches newer
batches_append [] older = sym (append-nil (batches older))
batches_append (x ∷ newer) older =
    one_event x.0 x.1 (newer ++ older)
    ∙ ap (λ (bs : List Batch). bs ++ reserved_by x.0 x.1) (batches_append newer older)
    ∙ append_assoc (batches older) (batches newer) (reserved_by x.0 x.1)
    ∙ ap (λ (bs : List Batch). batches older ++ bs) (sym (one_event x.0 x.1 newer))

-- ---- its numbers

-- the numbers of these batches are some in a row, from this one on or later
record AreCountedFrom (s first : ℕ) (bs : List Batch) : Type 0 where
  start : ℕ
  many : ℕ
  late : first ≤ start
  are : numbers s bs ≡ counted start many

abbrev pub batch_of : ℕ → ℕ → List Raw → Batch
batch_of s number body = record { sender = s; number = Some number; body = body }

abbrev first_body : List Batch → List Raw
first_body [] = []
first_body (b ∷ bs) = b.body

module _ (s : ℕ) where
  behind_head : (bs : List Batch) (first many head : ℕ) → head ∷ numbers s bs ≡ counted first many → (head ≡ first) × AreCountedFrom s (suc head) bs
  behind_head bs first zero head is = absurd (cc)
  behind_head bs first (suc many) head is =
      let one : head ≡ first = cc in let rest : numbers s bs ≡ counted (suc first) many = cc in
      (one, record { start = suc first; many = many; late = omega arith; are = rest })

  behind_own : (number first many : ℕ) (body : List Raw) (bs : List Batch) → numbers s (batch_of s number body ∷ bs) ≡ counted first many → (number ≡ first) × AreCountedFrom s (suc number) bs
  behind_own number first many body bs is =
      behind_head bs first many number (sym (ap (λ v. cond v (number ∷ numbers s bs) (numbers s bs)) (eq-eqb s s refl)) ∙ is)

  behind_any : (b : Batch) (bs : List Batch) (first many : ℕ) → numbers s (b ∷ bs) ≡ counted first many → AreCountedFrom s first bs
  behind_any b bs first many is = by_sender (s == b.sender) b.number is
    where
      by_sender : (v : Bool) (number : Option ℕ) → cond v (number_of number (numbers s bs)) (numbers s bs) ≡ counted first many → AreCountedFrom s first bs
      by_sender true None is = record { start = first; many = many; late = omega arith; are = is }
      by_sender true (Some n) is =
          let rest = behind_head bs first many n is in let one = rest.0 in let late = rest.1.late in
          record { start = rest.1.start; many = rest.1.many; late = omega arith; are = rest.1.are }
      by_sender false number is = record { start = first; many = many; late = omega arith; are = is }

  not_before : (ahead behind : List Batch) (number : ℕ) (body : List Raw) (first many : ℕ) → numbers s (ahead ++ batch_of s number body ∷ behind) ≡ counted first many → first ≤ number
  not_before [] behind number body first many is = let one = (behind_own number first many body behind is).0 in omega arith
  not_before (b ∷ ahead) behind number body first many is =
      let rest = behind_any b (ahead ++ batch_of s number body ∷ behind) first many is in
      let late = rest.late in let more = not_before ahead behind number body rest.start rest.many rest.are in omega arith

  pub one_body : (ahead other : List Batch) (behind rest : List Batch) (number : ℕ) (body words : List Raw) (first many : ℕ)
      → ahead ++ batch_of s number body ∷ behind ≡ other ++ batch_of s number words ∷ rest
      → numbers s (ahead ++ batch_of s number body ∷ behind) ≡ counted first many → body ≡ words
  one_body [] [] behind rest number body words first many same is = ap first_body same
  one_body [] (y ∷ other) behind rest number body words first many same is =
      let tail : behind ≡ other ++ batch_of s number words ∷ rest = cc in
      let after = (behind_own number first many body behind is).1 in let late = after.late in
      let more = not_before other rest number words after.start after.many (sym (ap (numbers s) tail) ∙ after.are) in absurd (omega arith)
  one_body (x ∷ ahead) [] behind rest number body words first many same is =
      let tail : ahead ++ batch_of s number body ∷ behind ≡ rest = cc in
      let after = (behind_own number first many words rest (sym (ap (numbers s) same) ∙ is)).1 in let late = after.late in
      let more = not_before ahead behind number body after.start after.many (ap (numbers s) tail ∙ after.are) in absurd (omega arith)
  one_body (x ∷ ahead) (y ∷ other) behind rest number body words first many same is =
      let tail : ahead ++ batch_of s number body ∷ behind ≡ other ++ batch_of s number words ∷ rest = cc in
      let after = behind_any x (ahead ++ batch_of s number body ∷ behind) first many is in
      one_body ahead other behind rest number body words after.start after.many tail after.are

-- ---- a batch that is reserved in a run

module _ (s number : ℕ) (words : List Raw) (later earlier run : Run) (reserved : run ≡ later ++ (Sender s, Won words (Some number)) ∷ earlier) (numbered : NumberedInOrder run) where
  among : batches run ≡ batches earlier ++ batch_of s number words ∷ batches later
  among =
      ap batches reserved ∙ batches_append later ((Sender s, Won words (Some number)) ∷ earlier)
      ∙ append_assoc (batches earlier) (batch_of s number words ∷ []) (batches later)

  in_order : numbers s (batches earlier ++ batch_of s number words ∷ batches later) ≡ counted 1 (length (numbers s (batches run)))
  in_order = sym (ap (numbers s) among) ∙ numbered s

  pub from_one : 1 ≤ number
  from_one = not_before s (batches earlier) (batches later) number words 1 (length (numbers s (batches run))) in_order

  pub words_of_completed : (completed : IsCompleted run s number) → completed.body ≡ words
  words_of_completed completed =
      sym (one_body s (batches earlier) completed.ahead (batches later) completed.behind number words completed.body 1 (length (numbers s (batches run)))
      (sym among ∙ completed.reserved) in_order)
