-- A new ring's senders are its own.
use Rattle.std.proofs.Common.{◌≡◌, ◌++◌, reverse, Some, ℕ, zero, suc, List, [], ◌∷◌, length, map, length-append, refl, sym, ap, subst, ◌∙◌, arith}
use mathlib.Core.List.{append_assoc}
use Rattle.std.proofs.lemmas.List.{length-map, length-reverse, map-append, reverse-append}
use Rattle.std.specs.Global.{Box}
use Rattle.std.proofs.lemmas.List.Elements.{All-push, All-pop}
use Rattle.std.specs.List.{All}
use Rattle.ring.specs.Rings.{RingValue}
use Rattle.ring.specs.sender.Senders.{SenderValue}
use Rattle.ring.specs.consumer.Consumers.{ConsumerValue}
use Rattle.ring.specs.NewRings.{new_sender, new_senders, IsNewRing}
use Rattle.smmuq_c.specs.declared.object.Object.{Object}
use Rattle.smmuq_c.specs.declared.object.Object.TheVariants.{Sender as SenderOf}
use Rattle.smmuq_c.specs.MakingRings.{boxed}

of_ring : (ring : RingValue) (n : ℕ) → All (λ s. s.ring ≡ ring) (new_senders ring n)
of_ring ring zero = λ k d none. absurd (omega (arith, none))
of_ring ring (suc n) = All-push (λ (s : SenderValue). s.ring ≡ ring) (new_senders ring n) (new_sender ring n) (of_ring ring n) refl

are_its_own : (ring : RingValue) (n : ℕ) (senders : List SenderValue) → senders ≡ new_senders ring n → All (λ s. s.ring ≡ ring) senders
are_its_own ring n senders are = subst (λ (l : List SenderValue). All (λ s. s.ring ≡ ring) l) (sym are) (of_ring ring n)

pub own_senders : {D : Type 0} {log2 n batches : ℕ} {ring : RingValue} {all : List SenderValue} {consumer : ConsumerValue D} → IsNewRing log2 n batches ring all consumer → All (λ s. s.ring ≡ ring) all
own_senders {n = n} {ring = ring} {all = all} new = are_its_own ring n all new.unused.senders_are

-- ---- their number

many_new : (ring : RingValue) (n : ℕ) → length (new_senders ring n) ≡ n
many_new ring zero = refl
many_new ring (suc n) = let rest = many_new ring n in omega (arith, rest, length-append (new_senders ring n) (new_sender ring n ∷ []))

pub as_many : {D : Type 0} {log2 n batches : ℕ} {ring : RingValue} {all : List SenderValue} {consumer : ConsumerValue D} → IsNewRing log2 n batches ring all consumer → length all ≡ n
as_many {n = n} {ring = ring} new = ap (λ (l : List SenderValue). length l) new.unused.senders_are ∙ many_new ring n

-- as many boxes as senders, if the senders are what they hold
pub as_many_boxes : (boxes : List (Box Object)) (all : List SenderValue) {n : ℕ} → boxed boxes ≡ map SenderOf all → length all ≡ n → length boxes ≡ n
as_many_boxes boxes all same many =
    let values : length (map (λ (b : Box Object). b.value) boxes) ≡ length boxes = length-map boxes (λ (b : Box Object). b.value) in
    let back = length-reverse (map (λ (b : Box Object). b.value) boxes) in
    let those : length (boxed boxes) ≡ length (map SenderOf all) = ap (λ (l : List Object). length l) same in
    let senders = length-map all SenderOf in omega (arith, values, back, those, senders, many)

-- ---- one more is seated

-- The last sender's seat is put behind the others'.
pub one_seated : (before : List Object) (all rest : List SenderValue) (sender : SenderValue) (seats : List (Box Object)) (seat : Box Object)
    → before ≡ map SenderOf all ++ boxed seats → all ≡ rest ++ sender ∷ [] → seat.value ≡ SenderOf sender
    → before ≡ map SenderOf rest ++ boxed (seats ++ seat ∷ [])
one_seated before all rest sender seats seat was popped its =
    let values : List (Box Object) → List Object = map (λ (b : Box Object). b.value) in
    let split : map SenderOf all ≡ map SenderOf rest ++ SenderOf sender ∷ [] = ap (map SenderOf) popped ∙ map-append SenderOf rest (sender ∷ []) in
    let turned : boxed (seats ++ seat ∷ []) ≡ seat.value ∷ boxed seats =
    ap (λ (l : List Object). reverse l) (map-append (λ (b : Box Object). b.value) seats (seat ∷ [])) ∙ reverse-append (values seats) (seat.value ∷ []) in
    was ∙ ap (λ (l : List Object). l ++ boxed seats) split ∙ append_assoc (map SenderOf rest) (SenderOf sender ∷ []) (boxed seats)
    ∙ ap (λ (l : List Object). map SenderOf rest ++ l) (ap (λ (o : Object). o ∷ boxed seats) (sym its) ∙ sym turned)

pub own_rest : (ring : RingValue) (all rest : List SenderValue) (sender : SenderValue) → All (λ s. s.ring ≡ ring) all → all ≡ rest ++ sender ∷ [] → All (λ s. s.ring ≡ ring) rest
own_rest ring all rest sender own popped = (All-pop (λ (s : SenderValue). s.ring ≡ ring) all rest (Some sender) popped own).0
