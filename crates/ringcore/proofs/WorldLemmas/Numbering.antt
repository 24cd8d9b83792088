-- Each sender's batches: their numbers, their order, and that no body holds a CMD_SYNC.
use Rattle.std.proofs.Common.{◌≡◌, ℕ, zero, suc, ◌+◌, Bool, true, false, cond, List, [], ◌∷◌, ◌++◌, length, Option, Some, None, refl, sym, ap, ◌∙◌, arith, append-nil, subst, eqb-true}
use Rattle.std.specs.Prelude.{◌==◌, ⊤}
use Rattle.cmdcodec.specs.declared.raw.Raw.{Raw}
use Rattle.cmdcodec.specs.Bodies.{IsBody}
use Rattle.ringcore.specs.declared.world.event.Who.{Who}
use Rattle.ringcore.specs.declared.world.event.Who.TheVariants.{Consumer, Sender}
use Rattle.ringcore.specs.declared.world.event.Event.{Event}
use Rattle.ringcore.specs.declared.world.event.Event.TheVariants.{Look, Won, Lost, Write, Flip, Test, Read, Advance, Close, Acknowledge, Ask}
use Rattle.ringcore.specs.world.Trails.{Trail, Run, same, trail_of, numbers_given}
use Rattle.ringcore.specs.world.World.{world}
use Rattle.ringcore.specs.world.Allowed.{Ring, IsNextNumber, MayWin, Allowed, IsRun}
use Rattle.ringcore.specs.world.Delivery.{Batch, batches, number_of, numbers, counted, NumberedInOrder}
use Rattle.ringcore.specs.world.Laws.{batches_of, own_batches, SendersOrderIsKept}

-- ---- lists of batches that get longer

numbers_append : (s : ℕ) (xs ys : List Batch) → numbers s (xs ++ ys) ≡ numbers s xs ++ numbers s ys
numbers_append s [] ys = refl
numbers_append s (b ∷ xs) ys = by_sender (s == b.sender) b.number (numbers_append s xs ys)
  where
    by_number : (n : Option ℕ) → numbers s (xs ++ ys) ≡ numbers s xs ++ numbers s ys → number_of n (numbers s (xs ++ ys)) ≡ number_of n (numbers s xs) ++ numbers s ys
    by_number None is = is
    by_number (Some n) is = ap (λ l. n ∷ l) is

    by_sender : (v : Bool) (n : Option ℕ) → numbers s (xs ++ ys) ≡ numbers s xs ++ numbers s ys
        → cond v (number_of n (numbers s (xs ++ ys))) (numbers s (xs ++ ys)) ≡ cond v (number_of n (numbers s xs)) (numbers s xs) ++ numbers s ys
    by_sender true n is = by_number n is
    by_sender false n is = is

batches_of_append : (s : ℕ) (xs ys : List Batch) → batches_of s (xs ++ ys) ≡ batches_of s xs ++ batches_of s ys
batches_of_append s [] ys = refl
batches_of_append s (b ∷ xs) ys = by_sender (s == b.sender) (batches_of_append s xs ys)
  where
    by_sender : (v : Bool) → batches_of s (xs ++ ys) ≡ batches_of s xs ++ batches_of s ys
        → cond v (b ∷ batches_of s (xs ++ ys)) (batches_of s (xs ++ ys)) ≡ cond v (b ∷ batches_of s xs) (batches_of s xs) ++ batches_of s ys
    by_sender true is = ap (λ l. b ∷ l) is
    by_sender false is = is

counted_on : (first many : ℕ) → counted first (suc many) ≡ counted first many ++ (first + many) ∷ []
counted_on first zero = ap (λ n. n ∷ []) (let z : first ≡ first + 0 = omega arith in z)
counted_on first (suc many) =
    let last : suc first + many ≡ first + suc many = omega arith in
    ap (λ l. first ∷ l) (counted_on (suc first) many ∙ ap (λ n. counted (suc first) many ++ n ∷ []) last)

counted_length : (first many : ℕ) → length (counted first many) ≡ many
counted_length first zero = refl
counted_length first (suc many) = ap suc (counted_length (suc first) many)

-- ---- what a run keeps of each sender

abbrev pub AllBodies : List Batch → Type 0
AllBodies [] = ⊤
AllBodies (b ∷ bs) = IsBody b.body × AllBodies bs

bodies_append : (xs : List Batch) (b : Batch) → AllBodies xs → IsBody b.body → AllBodies (xs ++ b ∷ [])
bodies_append [] b all is = (is, tt)
bodies_append (x ∷ xs) b all is = (all.0, bodies_append xs b all.1 is)

pub record IsKept (run : Run) : Type 0 where
  pub numbers : (s : ℕ) → numbers s (batches run) ≡ counted 1 (numbers_given (trail_of (Sender s) run))
  pub own : (s : ℕ) → batches_of s (batches run) ≡ own_batches s (trail_of (Sender s) run)
  pub bodies : AllBodies (batches run)

-- An event that reserves nothing leaves it.
kept_unmoved_by_others : (who : Who) (e : Event) (xs : Run) → batches ((who, e) ∷ xs) ≡ batches xs → ((t : Trail) → numbers_given (e ∷ t) ≡ numbers_given t)
    → ((s : ℕ) (t : Trail) → own_batches s (e ∷ t) ≡ own_batches s t) → IsKept xs → IsKept ((who, e) ∷ xs)
kept_unmoved_by_others who e xs b n o i = record {
  numbers = λ s. ap (numbers s) b ∙ i.numbers s ∙ ap (counted 1) (sym (given (same (Sender s) who) (trail_of (Sender s) xs)));
  own = λ s. ap (batches_of s) b ∙ i.own s ∙ sym (owned s (same (Sender s) who) (trail_of (Sender s) xs));
  bodies = subst AllBodies (sym b) i.bodies;
}
  where
    given : (v : Bool) (t : Trail) → numbers_given (cond v (e ∷ t) t) ≡ numbers_given t
    given true t = n t
    given false t = refl

    owned : (s : ℕ) (v : Bool) (t : Trail) → own_batches s (cond v (e ∷ t) t) ≡ own_batches s t
    owned s true t = o s t
    owned s false t = refl

reserves : (ring : Ring) (s : ℕ) (body : List Raw) (number : Option ℕ) (xs : Run) → MayWin ring (world xs) (trail_of (Sender s) xs) body number
    → IsKept xs → IsKept ((Sender s, Won body number) ∷ xs)
reserves ring s body number xs a i = let b : Batch = record { sender = s; number = number; body = body } in record {
  numbers = λ t. numbers_append t (batches xs) (b ∷ []) ∙ ap (λ l. l ++ numbers t (b ∷ [])) (i.numbers t) ∙ given t (t == s) refl number a.next;
  own = λ t. batches_of_append t (batches xs) (b ∷ []) ∙ ap (λ l. l ++ batches_of t (b ∷ [])) (i.own t) ∙ owned t (t == s) refl;
  bodies = bodies_append (batches xs) b i.bodies a.body_is;
}
  where
    given : (t : ℕ) (v : Bool) → (t == s) ≡ v → (n : Option ℕ) → IsNextNumber (trail_of (Sender s) xs) n
        → counted 1 (numbers_given (trail_of (Sender t) xs)) ++ cond v (number_of n []) []
        ≡ counted 1 (numbers_given (cond v (Won body n ∷ trail_of (Sender t) xs) (trail_of (Sender t) xs)))
    given t true is None next = append-nil _
    given t true is (Some n) next =
        let at : t ≡ s = eqb-true t s is in
        let given : numbers_given (trail_of (Sender s) xs) ≡ numbers_given (trail_of (Sender t) xs) = ap (λ u. numbers_given (trail_of (Sender u) xs)) (sym at) in
        let number : n ≡ 1 + numbers_given (trail_of (Sender t) xs) = omega (arith, next, given) in
        ap (λ m. counted 1 (numbers_given (trail_of (Sender t) xs)) ++ m ∷ []) number ∙ sym (counted_on 1 (numbers_given (trail_of (Sender t) xs)))
    given t false is n next = append-nil _

    owned : (t : ℕ) (v : Bool) → (t == s) ≡ v
        → own_batches t (trail_of (Sender t) xs) ++ cond v (record { sender = s; number = number; body = body } ∷ []) []
        ≡ own_batches t (cond v (Won body number ∷ trail_of (Sender t) xs) (trail_of (Sender t) xs))
    owned t true is =
        let at : s ≡ t = sym (eqb-true t s is) in
        ap (λ (u : ℕ). own_batches t (trail_of (Sender t) xs) ++ record { sender = u; number = number; body = body } ∷ []) at
    owned t false is = append-nil _

kept_after_event : (ring : Ring) (who : Who) (e : Event) (xs : Run) → Allowed ring (world xs) (trail_of who xs) who e → IsKept xs → IsKept ((who, e) ∷ xs)
kept_after_event ring Consumer (Look found) xs a i = kept_unmoved_by_others Consumer (Look found) xs refl (λ t. refl) (λ u t. refl) i
kept_after_event ring Consumer (Won body number) xs a i = absurd a
kept_after_event ring Consumer (Lost body closes found) xs a i = absurd a
kept_after_event ring Consumer (Write offset half) xs a i = absurd a
kept_after_event ring Consumer (Flip offset count) xs a i = absurd a
kept_after_event ring Consumer (Test limit found) xs a i = kept_unmoved_by_others Consumer (Test limit found) xs refl (λ t. refl) (λ u t. refl) i
kept_after_event ring Consumer (Read offset half word) xs a i = kept_unmoved_by_others Consumer (Read offset half word) xs refl (λ t. refl) (λ u t. refl) i
kept_after_event ring Consumer (Advance raws) xs a i = kept_unmoved_by_others Consumer (Advance raws) xs refl (λ t. refl) (λ u t. refl) i
kept_after_event ring Consumer Close xs a i = absurd a
kept_after_event ring Consumer (Acknowledge sender number) xs a i = kept_unmoved_by_others Consumer (Acknowledge sender number) xs refl (λ t. refl) (λ u t. refl) i
kept_after_event ring Consumer (Ask found) xs a i = absurd a
kept_after_event ring (Sender s) (Look found) xs a i = kept_unmoved_by_others (Sender s) (Look found) xs refl (λ t. refl) (λ u t. refl) i
kept_after_event ring (Sender s) (Won body number) xs a i = reserves ring s body number xs a i
kept_after_event ring (Sender s) (Lost body closes found) xs a i = kept_unmoved_by_others (Sender s) (Lost body closes found) xs refl (λ t. refl) (λ u t. refl) i
kept_after_event ring (Sender s) (Write offset half) xs a i = kept_unmoved_by_others (Sender s) (Write offset half) xs refl (λ t. refl) (λ u t. refl) i
kept_after_event ring (Sender s) (Flip offset count) xs a i = kept_unmoved_by_others (Sender s) (Flip offset count) xs refl (λ t. refl) (λ u t. refl) i
kept_after_event ring (Sender s) (Test limit found) xs a i = absurd a
kept_after_event ring (Sender s) (Read offset half word) xs a i = absurd a
kept_after_event ring (Sender s) (Advance raws) xs a i = absurd a
kept_after_event ring (Sender s) Close xs a i = kept_unmoved_by_others (Sender s) Close xs refl (λ t. refl) (λ u t. refl) i
kept_after_event ring (Sender s) (Acknowledge sender number) xs a i = absurd a
kept_after_event ring (Sender s) (Ask found) xs a i = kept_unmoved_by_others (Sender s) (Ask found) xs refl (λ t. refl) (λ u t. refl) i

pub is_kept : (ring : Ring) (run : Run) → IsRun ring run → IsKept run
is_kept ring [] ok = record { numbers = λ s. refl; own = λ s. refl; bodies = tt }
is_kept ring (x ∷ xs) ok = kept_after_event ring x.0 x.1 xs ok.1 (is_kept ring xs ok.0)

pub numbered : (ring : Ring) (run : Run) → IsRun ring run → NumberedInOrder run
numbered ring run ok s =
    let is = (is_kept ring run ok).numbers s in
    is ∙ ap (counted 1) (sym (ap length is ∙ counted_length 1 (numbers_given (trail_of (Sender s) run))))

pub senders_order : (ring : Ring) (run : Run) → IsRun ring run → SendersOrderIsKept run
senders_order ring run ok s = (is_kept ring run ok).own s
