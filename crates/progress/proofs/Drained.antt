-- A drain ends with all taken and acknowledged, and makes room.
use Rattle.std.proofs.Common.{◌≡◌, ℕ, zero, suc, ◌+◌, ◌-◌, ◌<◌, ◌≤◌, Bool, true, cond, List, [], ◌∷◌, ◌++◌, length, Option, refl, sym, ap, ◌∙◌, subst, inl, inr, eqb-true, ne_eqb, arith, length-append, append_assoc}
use Rattle.std.proofs.lemmas.Bool.{cases_lt, cases_Bool, and_parts, false_from_ne_true}
use Rattle.std.proofs.lemmas.List.{length-map}
use Rattle.std.specs.Prelude.{◌==◌}
use Rattle.cmdcodec.specs.declared.raw.Raw.{Raw}
use Rattle.cmdcodec.specs.ClosingSync.{cell_address}
use Rattle.cmdcodec.specs.Opcodes.{is_sync}
use Rattle.qindex.specs.declared.control.Control.{Control}
use Rattle.qindex.specs.Indexes.{distance}
use Rattle.qindex.specs.Laws.{IndexesTellTheQueue}
use Rattle.ringcore.specs.declared.world.event.Who.{Who}
use Rattle.ringcore.specs.declared.world.event.Who.TheVariants.{Consumer, Sender}
use Rattle.ringcore.specs.declared.world.event.Event.{Event}
use Rattle.ringcore.specs.declared.world.event.Event.TheVariants.{Look}
use Rattle.ringcore.specs.world.Trails.{Trail, Run, trail_of, numbers_given, batches_made, IsSettled}
use Rattle.ringcore.specs.world.World.{Item, Taken, World, tail, head, world, control}
use Rattle.ringcore.specs.world.Allowed.{Ring, IsNextNumber, Allowed, IsRun}
use Rattle.ringcore.specs.world.Delivery.{counted}
use Rattle.ringcore.specs.world.Laws.{IsOne, OnlyOf, is_sync_to, syncs_in, syncs_taken}
use Rattle.ringcore.proofs.WorldLemmas.Reading.{raws_of, raws_taken, is_read}
use Rattle.ringcore.proofs.WorldLemmas.Sound.{sound}
use Rattle.ringcore.proofs.WorldLemmas.Acknowledged.{acknowledged}
use Rattle.ringcore.proofs.WorldLemmas.Syncs.{sync_at, syncs_numbered}
use Rattle.ringcore.proofs.WorldLemmas.SyncCounts.{syncs_append, its_cell, as_many, syncs_counted}
use Rattle.ringcore.proofs.WorldLemmas.ConsumerTrail.{advanced_is, syncs_of_raws}
use Rattle.progress.specs.Waiting.{NoneIsOpen}
use Rattle.progress.specs.Draining.{owed, IsDrained, DrainsEnd, FewAreOwed, LooksFindRoom, DrainsMakeRoom}
use Rattle.progress.proofs.Summing.{total, total_same}
use Rattle.progress.proofs.Lonely.{two_steps}
use Rattle.progress.proofs.Held.{all_flipped}
use Rattle.progress.proofs.Taking.{IsTaking, take_all, by_both}
use Rattle.progress.proofs.Acknowledging.{given, acked, AllAreTaken, AllAcked, ack_all}

-- ---- numbers and syncs

counted_length : (first many : ℕ) → length (counted first many) ≡ many
counted_length first zero = refl
counted_length first (suc many) = ap suc (counted_length (suc first) many)

-- A sender's numbers are the syncs of what is reserved, and those taken are the syncs of what is taken.
given_are_syncs : (ring : Ring) (run : Run) → IsRun ring run → (s : ℕ) → given run s ≡ syncs_in s (raws_of (world run).reserved)
given_are_syncs ring run ok s =
    sym (ap length (syncs_numbered ring run ok s) ∙ counted_length 1 (given run s))
    ∙ as_many s (world run).reserved (λ p item at sync. sync_at ring run ok p item at sync)

taken_are_syncs : (ring : Ring) (run : Run) → IsRun ring run → (s : ℕ) → syncs_taken s (trail_of Consumer run) ≡ syncs_in s (raws_taken (world run).taken)
taken_are_syncs ring run ok s =
    sym (syncs_of_raws s (trail_of Consumer run)) ∙ ap (syncs_in s) (sym (advanced_is ring run ok) ∙ sym (is_read run).taken)

-- what is reserved and not taken
abbrev rest_of : (ring : Ring) (run : Run) → IsRun ring run → List Raw
rest_of ring run ok = (sound ring run ok).delivered.0

rest_length : (ring : Ring) (run : Run) (ok : IsRun ring run) → tail (world run) ≡ head (world run) + length (rest_of ring run ok)
rest_length ring run ok =
    let d = (sound ring run ok).delivered in
    sym (length-map (world run).reserved (λ (x : Item). x.raw)) ∙ ap length d.1 ∙ length-append (raws_taken (world run).taken) d.0
    ∙ ap (λ n. n + length d.0) (length-map (world run).taken (λ (t : Taken). t.raw))

given_is : (ring : Ring) (run : Run) (ok : IsRun ring run) (s : ℕ) → given run s ≡ syncs_taken s (trail_of Consumer run) + syncs_in s (rest_of ring run ok)
given_is ring run ok s =
    let d = (sound ring run ok).delivered in
    given_are_syncs ring run ok s ∙ ap (syncs_in s) d.1 ∙ syncs_append s (raws_taken (world run).taken) d.0
    ∙ ap (λ n. n + syncs_in s d.0) (sym (taken_are_syncs ring run ok s))

acked_are_given : (ring : Ring) (run : Run) → IsRun ring run → (s : ℕ) → acked run s ≤ given run s
acked_are_given ring run ok s = by_number (acked run s) refl
  where
    by_number : (n : ℕ) → acked run s ≡ n → acked run s ≤ given run s
    by_number zero is = omega (arith, is)
    by_number (suc n) is =
        let few = ((syncs_counted ring run ok s (acked run s)).0 (acknowledged ring run ok s (acked run s) (omega (arith, is)) (omega arith))).1 in
        let all = given_is ring run ok s in
        omega (arith, few, all)

-- ---- all are taken at the end

no_syncs : (s : ℕ) (raws : List Raw) → length raws ≡ 0 → syncs_in s raws ≡ 0
no_syncs s [] is = refl
no_syncs s (raw ∷ raws) is = absurd (omega (arith, is))

all_are_taken : (ring : Ring) (run : Run) → IsRun ring run → head (world run) ≡ tail (world run) → AllAreTaken run
all_are_taken ring run ok whole s k some up =
    let long = rest_length ring run ok in
    let none = no_syncs s (rest_of ring run ok) (omega (arith, long, whole)) in
    let all = given_is ring run ok s in
    (syncs_counted ring run ok s k).1 (some, omega (arith, up, none, all))

-- ---- who took no step has no trail

pub no_trail : (senders s : ℕ) (run : Run) → OnlyOf senders run → senders ≤ s → trail_of (Sender s) run ≡ []
no_trail senders s [] only high = refl
no_trail senders s (x ∷ xs) only high = by_seat x.0 x.1 only.0 (no_trail senders s xs only.1 high)
  where
    by_seat : (who : Who) (e : Event) → IsOne senders who → trail_of (Sender s) xs ≡ [] → trail_of (Sender s) ((who, e) ∷ xs) ≡ []
    by_seat Consumer e one rest = rest
    by_seat (Sender t) e one rest =
        ap (λ (v : Bool). cond v (e ∷ trail_of (Sender s) xs) (trail_of (Sender s) xs)) (ne_eqb s t (λ is. omega (arith, is, one, high))) ∙ rest

pub owed_same : (n : ℕ) (run other : Run) → ((s : ℕ) → given other s ≡ given run s) → ((s : ℕ) → acked other s ≡ acked run s) → owed n other ≡ owed n run
owed_same zero run other g a = refl
owed_same (suc n) run other g a =
    let rest = owed_same n run other g a in let one = g n in let two = a n in omega (arith, rest, one, two)

-- ---- the drain

module _ (ring : Ring) (senders : ℕ) (run : Run) (only : OnlyOf senders run) (ok : IsRun ring run) where
  abbrev many : ℕ
  many = tail (world run) - head (world run)

  -- all is taken, and then all is acknowledged
  both : (t : IsTaking ring run many) → head (world t.whole) ≡ tail (world run) → AllAcked ring t.whole senders → (whole : Run) × IsDrained ring senders run whole
  both t all_taken a =
      let on = a.on in
      let long = length-append on.later t.later in
      let taking = t.events in
      let acking = on.events in
      let same_given : (s : ℕ) → given t.whole s ≡ given run s = (λ s. ap numbers_given (t.trails s)) in
      let same_owed = owed_same senders run t.whole same_given t.acknowledged in
      let behind = (sound ring run ok).behind in
      let acks : (s : ℕ) → acked a.whole s ≡ given run s = (λ s. elim (cases_lt s senders) [
        | inl low ↦ a.own s low ∙ same_given s
        | inr high ↦
            let zero_given : given run s ≡ 0 = ap numbers_given (no_trail senders s run only high) in
            let few = acked_are_given ring run ok s in
            let kept = a.others s high in
            let same = t.acknowledged s in
            omega (arith, zero_given, few, kept, same)
      ]) in (
        a.whole,
        record {
          later = on.later ++ t.later;
          whole_is = on.whole_is ∙ ap (λ (l : Run). on.later ++ l) t.whole_is ∙ sym (append_assoc on.later t.later run);
          alone = by_both on.later t.later on.alone t.alone;
          allowed = on.allowed;
          events = omega (arith, long, taking, acking, same_owed, behind);
          reserved = on.reserved ∙ t.reserved;
          taken = ap length on.taken ∙ all_taken ∙ sym (ap length (on.reserved ∙ t.reserved));
          acknowledged = acks;
          trails = λ s. on.trails s ∙ t.trails s;
        },
      )

  ends : NoneIsOpen run → (whole : Run) × IsDrained ring senders run whole
  ends none =
      let behind = (sound ring run ok).behind in
      let t = take_all ring many run ok (all_flipped ring run ok none) (omega (arith, behind)) in
      let head_is = t.head_is in
      let all_taken : head (world t.whole) ≡ tail (world run) = omega (arith, head_is, behind) in
      let a = ack_all ring senders t.whole t.allowed (all_are_taken ring t.whole t.allowed (all_taken ∙ sym (ap length t.reserved))) (acked_are_given ring t.whole t.allowed) in
      both t all_taken a

pub drains_end : DrainsEnd
drains_end ring senders run only ok none = ends ring senders run only ok none

-- ---- how much is owed

-- at most one sender's count has one more
at_most_one : (n : ℕ) (b : ℕ → Bool) (f : ℕ → ℕ) → ((s t : ℕ) → b s ≡ true → b t ≡ true → s ≡ t) → total n (λ s. cond (b s) (suc (f s)) (f s)) ≤ suc (total n f)
unfolding total
at_most_one zero b f one = omega arith
at_most_one (suc n) b f one = elim (cases_Bool (b n)) [
  | inl is ↦
      let rest = total_same n (λ s. cond (b s) (suc (f s)) (f s)) f (λ s low.
      ap (λ (v : Bool). cond v (suc (f s)) (f s)) (false_from_ne_true (b s) (λ also. let same = one s n also is in omega (arith, same, low)))) in
      let last : cond (b n) (suc (f n)) (f n) ≡ suc (f n) = ap (λ (v : Bool). cond v (suc (f n)) (f n)) is in
      omega (arith, rest, last)
  | inr is ↦
      let rest = at_most_one n b f one in
      let last : cond (b n) (suc (f n)) (f n) ≡ f n = ap (λ (v : Bool). cond v (suc (f n)) (f n)) is in
      omega (arith, rest, last)
]

one_sender : (raw : Raw) (s t : ℕ) → is_sync_to s raw ≡ true → is_sync_to t raw ≡ true → s ≡ t
one_sender raw s t a b =
    let mine = (and_parts (is_sync raw) (raw.hi == cell_address s) a).1 in
    let other = (and_parts (is_sync raw) (raw.hi == cell_address t) b).1 in
    eqb-true s t (sym (its_cell s t raw.hi (eqb-true raw.hi (cell_address t) other)) ∙ mine)

zeros : (n : ℕ) → total n (λ s. 0) ≡ 0
unfolding total
zeros zero = refl
zeros (suc n) = let rest = zeros n in omega (arith, rest)

few_syncs : (n : ℕ) (raws : List Raw) → total n (λ s. syncs_in s raws) ≤ length raws
few_syncs n [] = let none = zeros n in omega (arith, none)
few_syncs n (raw ∷ raws) =
    let rest = few_syncs n raws in
    let one = at_most_one n (λ s. is_sync_to s raw) (λ s. syncs_in s raws) (one_sender raw) in
    omega (arith, rest, one)

owed_is : (ring : Ring) (run : Run) (ok : IsRun ring run) → ((s : ℕ) → acked run s ≡ syncs_taken s (trail_of Consumer run)) → (n : ℕ) → owed n run ≡ total n (λ s. syncs_in s (rest_of ring run ok))
unfolding total
owed_is ring run ok nothing zero = refl
owed_is ring run ok nothing (suc n) =
    let rest = owed_is ring run ok nothing n in
    let all = given_is ring run ok n in
    let acks = nothing n in
    omega (arith, rest, all, acks)

pub few_are_owed : FewAreOwed
few_are_owed ring senders run ok nothing =
    let is = owed_is ring run ok nothing senders in
    let few = few_syncs senders (rest_of ring run ok) in
    let long = rest_length ring run ok in
    omega (arith, is, few, long)

-- ---- room

look_found : (ring : Ring) (w : World) (mine : Trail) (who : Who) (found : Control) → Allowed ring w mine who (Look found) → found ≡ control ring.geometry w
look_found ring w mine Consumer found a = a
look_found ring w mine (Sender s) found a = a

pub looks_find_room : IndexesTellTheQueue → LooksFindRoom
looks_find_room queue ring run who found many geometry whole a fits =
    let is = look_found ring (world run) (trail_of who run) who found a in
    let q = (queue ring.geometry (tail (world run)) (head (world run)) geometry (omega (arith, whole)) (omega (arith, whole))).distance in
    let same : distance found.prod found.cons ≡ tail (world run) - head (world run) = ap (λ (c : Control). distance c.prod c.cons) is ∙ q in
    omega (arith, same, whole, fits)

next_same : (number : Option ℕ) (one two : Trail) → two ≡ one → IsNextNumber one number → IsNextNumber two number
next_same number one two is next = subst (λ (t : Trail). IsNextNumber t number) (sym is) next

pub drains_make_room : DrainsMakeRoom
drains_make_room ring senders run whole s body number none d unclosed left body_is next fits =
    let same = d.trails s in
    let taken = d.taken in
    let reserved = ap length d.reserved in
    two_steps ring whole s body number d.allowed record {
      unclosed = unclosed;
      settled = subst IsSettled (sym same) (none s);
      left = subst (λ (t : Trail). batches_made t < ring.max_batches) (sym same) left;
      body_is = body_is;
      next = next_same number (trail_of (Sender s) run) (trail_of (Sender s) whole) same next;
      room = omega (arith, taken, reserved, fits);
    }
