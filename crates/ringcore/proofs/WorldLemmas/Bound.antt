-- How much can ever be reserved, so that a count of 64 bits never wraps.
use Rattle.std.proofs.Common.{◌≡◌, ◌≢◌, ℕ, zero, suc, ◌+◌, ◌*◌, ◌<◌, ◌≤◌, Bool, true, false, cond, List, [], ◌∷◌, Option, Some, None, refl, sym, ap, inl, inr, subst, eq-eqb, ne_eqb, arith, length-append}
use Rattle.std.proofs.lemmas.Bool.{cases_eq}
use Rattle.cmdcodec.specs.declared.raw.Raw.{Raw}
use Rattle.cmdcodec.specs.Bodies.{IsBody}
use Rattle.ringcore.specs.declared.world.event.Who.{Who}
use Rattle.ringcore.specs.declared.world.event.Who.TheVariants.{Consumer, Sender}
use Rattle.ringcore.specs.declared.world.event.Event.{Event}
use Rattle.ringcore.specs.declared.world.event.Event.TheVariants.{Look, Won, Lost, Write, Flip, Test, Read, Advance, Close, Acknowledge, Ask}
use Rattle.ringcore.specs.world.Trails.{Trail, Run, same, trail_of, batches_made, batch_length}
use Rattle.ringcore.specs.world.World.{items, tail, world}
use Rattle.ringcore.specs.world.Allowed.{Ring, MayWin, Allowed, IsRun}
use Rattle.ringcore.specs.world.Laws.{IsOne, OnlyOf}
use Rattle.ringcore.proofs.WorldLemmas.Sound.{length_items}

-- the sum over the senders
total : ℕ → (ℕ → ℕ) → ℕ
total zero f = 0
total (suc n) f = total n f + f n

made : Run → ℕ → ℕ
made run s = batches_made (trail_of (Sender s) run)

total_same : (n : ℕ) (f g : ℕ → ℕ) → ((s : ℕ) → s < n → f s ≡ g s) → total n f ≡ total n g
unfolding total
total_same zero f g is = refl
total_same (suc n) f g is =
    let rest = total_same n f g (λ s less. is s (omega (arith, less))) in
    let last = is n (omega arith) in
    omega (arith, rest, last)

-- one more at one place
total_more : (n s : ℕ) (f g : ℕ → ℕ) → s < n → g s ≡ suc (f s) → ((t : ℕ) → t ≢ s → g t ≡ f t) → total n g ≡ suc (total n f)
unfolding total
total_more zero s f g less one else = absurd (omega (arith, less))
total_more (suc n) s f g less one else =
    elim (cases_eq s n) [
      | inl is ↦
          let rest = total_same n g f (λ t below. else t (λ e. omega (arith, e, below, is))) in
          let last : g n ≡ suc (f n) = subst (λ (m : ℕ). g m ≡ suc (f m)) is one in
          omega (arith, rest, last)
      | inr not ↦
          let rest = total_more n s f g (omega (arith, less, not)) one else in
          let last = else n (λ e. not (sym e)) in
          omega (arith, rest, last)
    ]

total_most : (n most : ℕ) (f : ℕ → ℕ) → ((s : ℕ) → f s ≤ most) → total n f ≤ n * most
unfolding total
total_most zero most f each = omega arith
total_most (suc n) most f each =
    let rest = total_most n most f each in
    let last = each n in
    omega (arith, rest, last)

-- ---- a run's

record IsBound (ring : Ring) (senders : ℕ) (run : Run) : Type 0 where
  pub each : (s : ℕ) → made run s ≤ ring.max_batches
  pub all : tail (world run) ≤ 64 * total senders (made run)

same_made : (v : Bool) (e : Event) (t : Trail) → batches_made (e ∷ t) ≡ batches_made t → batches_made (cond v (e ∷ t) t) ≡ batches_made t
same_made true e t is = is
same_made false e t is = refl

bound_unmoved_by_others : (ring : Ring) (senders : ℕ) (who : Who) (e : Event) (xs : Run) → tail (world ((who, e) ∷ xs)) ≡ tail (world xs)
    → ((t : Trail) → batches_made (e ∷ t) ≡ batches_made t) → IsBound ring senders xs → IsBound ring senders ((who, e) ∷ xs)
unfolding made
bound_unmoved_by_others ring senders who e xs same_tail same_count i =
    let each : (s : ℕ) → made ((who, e) ∷ xs) s ≡ made xs s = (λ s. same_made (same (Sender s) who) e (trail_of (Sender s) xs) (same_count (trail_of (Sender s) xs))) in
    let all = i.all in
    let sum = total_same senders (made ((who, e) ∷ xs)) (made xs) (λ s less. each s) in
    record { each = λ s. let is = each s in let most = i.each s in omega (arith, is, most); all = omega (arith, same_tail, all, sum) }

batch_fits : (body : List Raw) (number : Option ℕ) → IsBody body → batch_length body number ≤ 64
batch_fits body None is = let few = is.few in omega (arith, few)
batch_fits body (Some number) is = let few = is.few in omega (arith, few)

reserves : (ring : Ring) (senders s : ℕ) (body : List Raw) (number : Option ℕ) (xs : Run) → s < senders
    → MayWin ring (world xs) (trail_of (Sender s) xs) body number → IsBound ring senders xs → IsBound ring senders ((Sender s, Won body number) ∷ xs)
unfolding made
reserves ring senders s body number xs one a i =
    let run : Run = (Sender s, Won body number) ∷ xs in
    let here : made run s ≡ suc (made xs s) = ap (λ (v : Bool). batches_made (cond v (Won body number ∷ trail_of (Sender s) xs) (trail_of (Sender s) xs))) (eq-eqb s s refl) in
    let else : (t : ℕ) → t ≢ s → made run t ≡ made xs t = (λ t not. ap (λ (v : Bool). batches_made (cond v (Won body number ∷ trail_of (Sender t) xs) (trail_of (Sender t) xs))) (ne_eqb t s not)) in
    let sum = total_more senders s (made xs) (made run) one here else in
    let left = a.left in
    let fits = batch_fits body number a.body_is in
    let grown = length-append (world xs).reserved (items s number body) in
    let many = length_items s number body in
    let all = i.all in
    record {
      each = λ t. elim (cases_eq t s) [
        | inl is ↦ subst (λ (u : ℕ). made run u ≤ ring.max_batches) (sym is) (omega (arith, here, left))
        | inr not ↦ let same = else t not in let most = i.each t in omega (arith, same, most)
      ];
      all = omega (arith, sum, fits, grown, many, all);
    }

bound_after_event : (ring : Ring) (senders : ℕ) (who : Who) (e : Event) (xs : Run) → IsOne senders who → Allowed ring (world xs) (trail_of who xs) who e
    → IsBound ring senders xs → IsBound ring senders ((who, e) ∷ xs)
bound_after_event ring senders Consumer (Look found) xs one a i = bound_unmoved_by_others ring senders Consumer (Look found) xs refl (λ t. refl) i
bound_after_event ring senders Consumer (Won body number) xs one a i = absurd a
bound_after_event ring senders Consumer (Lost body closes found) xs one a i = absurd a
bound_after_event ring senders Consumer (Write offset half) xs one a i = absurd a
bound_after_event ring senders Consumer (Flip offset count) xs one a i = absurd a
bound_after_event ring senders Consumer (Test limit found) xs one a i = bound_unmoved_by_others ring senders Consumer (Test limit found) xs refl (λ t. refl) i
bound_after_event ring senders Consumer (Read offset half word) xs one a i = bound_unmoved_by_others ring senders Consumer (Read offset half word) xs refl (λ t. refl) i
bound_after_event ring senders Consumer (Advance raws) xs one a i = bound_unmoved_by_others ring senders Consumer (Advance raws) xs refl (λ t. refl) i
bound_after_event ring senders Consumer Close xs one a i = absurd a
bound_after_event ring senders Consumer (Acknowledge sender number) xs one a i = bound_unmoved_by_others ring senders Consumer (Acknowledge sender number) xs refl (λ t. refl) i
bound_after_event ring senders Consumer (Ask found) xs one a i = absurd a
bound_after_event ring senders (Sender s) (Look found) xs one a i = bound_unmoved_by_others ring senders (Sender s) (Look found) xs refl (λ t. refl) i
bound_after_event ring senders (Sender s) (Won body number) xs one a i = reserves ring senders s body number xs one a i
bound_after_event ring senders (Sender s) (Lost body closes found) xs one a i = bound_unmoved_by_others ring senders (Sender s) (Lost body closes found) xs refl (λ t. refl) i
bound_after_event ring senders (Sender s) (Write offset half) xs one a i = bound_unmoved_by_others ring senders (Sender s) (Write offset half) xs refl (λ t. refl) i
bound_after_event ring senders (Sender s) (Flip offset count) xs one a i = bound_unmoved_by_others ring senders (Sender s) (Flip offset count) xs refl (λ t. refl) i
bound_after_event ring senders (Sender s) (Test limit found) xs one a i = absurd a
bound_after_event ring senders (Sender s) (Read offset half word) xs one a i = absurd a
bound_after_event ring senders (Sender s) (Advance raws) xs one a i = absurd a
bound_after_event ring senders (Sender s) Close xs one a i = bound_unmoved_by_others ring senders (Sender s) Close xs refl (λ t. refl) i
bound_after_event ring senders (Sender s) (Acknowledge sender number) xs one a i = absurd a
bound_after_event ring senders (Sender s) (Ask found) xs one a i = bound_unmoved_by_others ring senders (Sender s) (Ask found) xs refl (λ t. refl) i

is_bound : (ring : Ring) (senders : ℕ) (run : Run) → OnlyOf senders run → IsRun ring run → IsBound ring senders run
unfolding total made
is_bound ring senders [] only ok = record { each = λ s. omega arith; all = omega arith }
is_bound ring senders (x ∷ xs) only ok = bound_after_event ring senders x.0 x.1 xs only.0 ok.1 (is_bound ring senders xs only.1 ok.0)

-- At most 64 commands are reserved for each batch that each sender may make.
pub reserved_bound : (ring : Ring) (senders : ℕ) (run : Run) → OnlyOf senders run → IsRun ring run → tail (world run) ≤ 64 * (senders * ring.max_batches)
reserved_bound ring senders run only ok =
    let is = is_bound ring senders run only ok in
    let all = is.all in
    let most = total_most senders ring.max_batches (made run) is.each in
    omega (arith, all, most)
