-- Wrong laws of progress, each with a run that refutes it, and runs that show that the laws speak of something.
use Rattle.std.proofs.Common.{◌≡◌, ◌≢◌, ℕ, zero, suc, ◌+◌, ◌<◌, ◌≤◌, Bool, true, false, cond, not, ◌&&◌, [], ◌∷◌, ◌++◌, length, Option, Some, None, slice_get, refl, sym, ap, inl, inr, ◌⊎◌, ◌∙◌, ltb-true, leb-true, ne_eqb, arith}
use Rattle.std.proofs.lemmas.Option.{same_Some}
use Rattle.cmdcodec.specs.declared.raw.Raw.{Raw}
use Rattle.cmdcodec.specs.Bodies.{IsBody}
use Rattle.qindex.specs.declared.control.Control.{Control}
use Rattle.ringcore.specs.declared.world.event.Who.{Who}
use Rattle.ringcore.specs.declared.world.event.Who.TheVariants.{Consumer, Sender}
use Rattle.ringcore.specs.declared.world.event.Half.{Half}
use Rattle.ringcore.specs.declared.world.event.Half.TheVariants.{Lo, Hi}
use Rattle.ringcore.specs.declared.world.event.Event.{Event}
use Rattle.ringcore.specs.declared.world.event.Event.TheVariants.{Look, Won, Lost, Write, Flip, Test, Read, Advance, Close, Acknowledge, Ask}
use Rattle.ringcore.specs.world.Trails.{Run, same, trail_of, batch_length, numbers_given, half_read}
use Rattle.ringcore.specs.world.World.{Item, sync_raw, half_of, tail, head, world, control}
use Rattle.ringcore.specs.world.Allowed.{Ring, length_with, Allowed, IsRun}
use Rattle.ringcore.proofs.WorldLemmas.Lists.{off, none_some}
use Rattle.progress.proofs.Drained.{no_trail}
use Rattle.progress.specs.Contention.{is_change, losses}
use Rattle.progress.specs.Alone.{EachTryEnds}
use Rattle.progress.specs.Draining.{IsByTheConsumer, IsDrained}

abbrev ring_of_two : Ring
ring_of_two = record { geometry = 1; senders = 2; max_batches = 4; flags = 64 }

-- CFGI_STE of stream 5, Leaf 1
abbrev x : Raw
x = record { lo = 0x500000003; hi = 1 }

abbrev shows : ℕ → ℕ → Bool → Control
shows prod cons closed = record { prod = record { geometry = 1; number = prod }; cons = record { geometry = 1; number = cons }; closed = closed }

none : (P : ℕ → Type 0) (i : ℕ) → i < 0 → P i
none P i less = absurd (omega (arith, less))

one : (P : ℕ → Type 0) → P 0 → (i : ℕ) → i < 1 → P i
one P a zero less = a
one P a (suc i) less = absurd (omega (arith, less))

halves_of_one : (P : ℕ → Half → Type 0) → P 0 Lo → P 0 Hi → (i : ℕ) (half : Half) → i < 1 → P i half
halves_of_one P a b zero Lo less = a
halves_of_one P a b zero Hi less = b
halves_of_one P a b (suc i) half less = absurd (omega (arith, less))

a_body : IsBody (x ∷ [])
a_body = record { some = leb-true 1 1 refl; few = leb-true 1 63 refl; no_sync = refl }

-- ---- losses are bounded by changes, and by nothing less

-- A sender looks, somebody closes, and it loses its exchange.
abbrev lost_to : ℕ → Run
lost_to t = (Sender 0, Lost (x ∷ []) false (shows 0 0 true)) ∷ (Sender t, Close) ∷ (Sender 0, Look (shows 0 0 false)) ∷ []

closed_is_other : shows 0 0 true ≢ shows 0 0 false
closed_is_other e = off (sym (ap (λ (c : Control). c.closed) e))

lost_to_another : IsRun ring_of_two (lost_to 1)
lost_to_another = (
  ((tt, refl), tt),
  record {
    before = shows 0 0 false;
    tries = record { looked_at = refl; unclosed = refl; settled = none _; left = ltb-true 0 4 refl; body_is = a_body; room = leb-true 1 2 refl };
    found_is = refl;
    other = closed_is_other;
  },
)

lost_to_itself : IsRun ring_of_two (lost_to 0)
lost_to_itself = (
  ((tt, refl), tt),
  record {
    before = shows 0 0 false;
    tries = record { looked_at = refl; unclosed = refl; settled = none _; left = ltb-true 0 4 refl; body_is = a_body; room = leb-true 1 2 refl };
    found_is = refl;
    other = closed_is_other;
  },
)

abbrev is_look : Event → Bool
is_look (Look found) = true
is_look e = false

abbrev looks_of_others : ℕ → Run → ℕ
looks_of_others s [] = 0
looks_of_others s (x ∷ xs) = cond (is_look x.1 && not (same (Sender s) x.0)) (suc (looks_of_others s xs)) (looks_of_others s xs)

-- Wrong: others' looks alone bound the losses.
abbrev LossesAreFewerThanLooks : Type 0
LossesAreFewerThanLooks = (ring : Ring) (run : Run) → IsRun ring run → (s : ℕ) → losses s run ≤ looks_of_others s run

pub looks_bound_no_losses : ¬ LossesAreFewerThanLooks
looks_bound_no_losses law = let wrong : 1 ≤ 0 = law ring_of_two (lost_to 1) lost_to_another 0 in absurd (omega (arith, wrong))

abbrev changes_of_others : ℕ → Run → ℕ
changes_of_others s [] = 0
changes_of_others s (x ∷ xs) = cond (is_change (world xs) x.1 && not (same (Sender s) x.0)) (suc (changes_of_others s xs)) (changes_of_others s xs)

-- Wrong: others' changes alone bound them. A sender may close between its look and its exchange.
abbrev LossesAreOfOthers : Type 0
LossesAreOfOthers = (ring : Ring) (run : Run) → IsRun ring run → (s : ℕ) → losses s run ≤ changes_of_others s run

pub own_close_loses : ¬ LossesAreOfOthers
own_close_loses law = let wrong : 1 ≤ 0 = law ring_of_two (lost_to 0) lost_to_itself 0 in absurd (omega (arith, wrong))

-- ---- alone

abbrev looked_at : Run
looked_at = (Sender 0, Look (shows 0 0 false)) ∷ []

-- A try whose batch closes with a CMD_SYNC reserves that too, so that the batch has a number.
pub a_try_that_closes_takes_a_number : EachTryEnds → (n : ℕ) × Allowed ring_of_two (world looked_at) (trail_of (Sender 0) looked_at) (Sender 0) (Won (x ∷ []) (Some n))
a_try_that_closes_takes_a_number law =
    by_answer (law ring_of_two looked_at 0 (x ∷ []) true (shows 0 0 false) (leb-true 1 1 refl, leb-true 1 19 refl) (tt, refl)
    record { looked_at = refl; unclosed = refl; settled = none _; left = ltb-true 0 4 refl; body_is = a_body; room = leb-true 2 2 refl })
  where
    by_answer : ((number : Option ℕ) × (batch_length (x ∷ []) number ≡ length_with true (x ∷ [])) × Allowed ring_of_two (world looked_at) (trail_of (Sender 0) looked_at) (Sender 0) (Won (x ∷ []) number))
        ⊎ Allowed ring_of_two (world looked_at) (trail_of (Sender 0) looked_at) (Sender 0) (Lost (x ∷ []) true (control 1 (world looked_at)))
        → (n : ℕ) × Allowed ring_of_two (world looked_at) (trail_of (Sender 0) looked_at) (Sender 0) (Won (x ∷ []) (Some n))
    by_answer (inl (None, long, may)) = absurd (omega (arith, long))
    by_answer (inl (Some n, long, may)) = (n, may)
    by_answer (inr may) = absurd (may.other (may.found_is ∙ same_Some (shows 0 0 false) may.before may.tries.looked_at))

-- ---- waiting

abbrev reserved : Run
reserved = (Sender 0, Won (x ∷ []) None) ∷ (Sender 0, Look (shows 0 0 false)) ∷ []

is_reserved : IsRun ring_of_two reserved
is_reserved = ((tt, refl), record { looked_at = refl; unclosed = refl; settled = none _; left = ltb-true 0 4 refl; body_is = a_body; next = tt; room = leb-true 1 2 refl })

-- A test may find nothing although something is reserved.
pub waiting_happens : IsRun ring_of_two ((Consumer, Test 1 0) ∷ reserved)
waiting_happens = (
  is_reserved,
  record {
    many = (leb-true 1 1 refl, leb-true 1 64 refl);
    most = leb-true 0 1 refl;
    in_word = none _;
    ready = none _;
    no_more = λ less share. refl;
  },
)

abbrev written : Run
written = (Sender 0, Write 0 Hi) ∷ (Sender 0, Write 0 Lo) ∷ reserved

is_written : IsRun ring_of_two written
is_written = ((is_reserved, record { inside = ltb-true 0 1 refl; unflipped = refl }), record { inside = ltb-true 0 1 refl; unflipped = refl })

abbrev published : Run
published = (Sender 0, Flip 0 1) ∷ written

is_published : IsRun ring_of_two published
is_published = (
  is_written,
  record {
    many = (leb-true 1 1 refl, leb-true 1 64 refl);
    inside = leb-true 1 1 refl;
    in_word = one _ refl;
    unflipped = one _ refl;
    written = halves_of_one _ refl refl;
  },
)

-- Wrong: a test finds nothing although all is flipped.
pub published_is_found : ¬ IsRun ring_of_two ((Consumer, Test 1 0) ∷ published)
published_is_found run = off (sym (run.1.no_more (ltb-true 0 1 refl) (one _ refl)))

-- ---- drains

-- Wrong: a drain takes one event for each command that isn't taken.
pub record IsSoonDrained (ring : Ring) (run : Run) : Type 0 where
  pub later : Run
  pub alone : IsByTheConsumer later
  pub allowed : IsRun ring (later ++ run)
  pub events : length later + head (world run) ≤ tail (world run)
  pub taken : head (world (later ++ run)) ≡ tail (world run)

one_step : (who : Who) (e : Event) → who ≡ Consumer → IsRun ring_of_two ((who, e) ∷ published) → head (world ((who, e) ∷ published)) ≡ 1 → ⊥
one_step (Sender s) e is ok all = absurd (cc)
one_step Consumer (Look found) is ok all = absurd (omega (arith, all))
one_step Consumer (Won body number) is ok all = ok.1
one_step Consumer (Lost body closes found) is ok all = ok.1
one_step Consumer (Write offset half) is ok all = ok.1
one_step Consumer (Flip offset count) is ok all = ok.1
one_step Consumer (Test limit found) is ok all = absurd (omega (arith, all))
one_step Consumer (Read offset half word) is ok all = absurd (omega (arith, all))
one_step Consumer (Advance raws) is ok all = let ready = ok.1.ready in let some = ok.1.some in absurd (omega (arith, ready, some))
one_step Consumer Close is ok all = ok.1
one_step Consumer (Acknowledge sender number) is ok all = absurd (omega (arith, all))
one_step Consumer (Ask found) is ok all = ok.1

pub one_event_drains_nothing : ¬ IsSoonDrained ring_of_two published
one_event_drains_nothing d = by_list d.later d.alone d.allowed d.events d.taken
  where
    by_list : (later : Run) → IsByTheConsumer later → IsRun ring_of_two (later ++ published) → length later + 0 ≤ 1 → head (world (later ++ published)) ≡ 1 → ⊥
    by_list [] alone ok few all = absurd (omega (arith, all))
    by_list (e ∷ []) alone ok few all = one_step e.0 e.1 alone.0 ok all
    by_list (e ∷ f ∷ rest) alone ok few all = absurd (omega (arith, few))

-- what the consumer read of the commands that it takes
read_x : (raw : Raw) (half : Half) → x ≡ raw → Some (half_of half x) ≡ Some (half_of half raw)
read_x raw half is = ap (λ (r : Raw). Some (half_of half r)) is

first : 0 < 1
first = ltb-true 0 1 refl

abbrev drain : Run
drain = (Consumer, Advance (x ∷ [])) ∷ (Consumer, Read 0 Hi 1) ∷ (Consumer, Read 0 Lo 0x500000003) ∷ (Consumer, Test 1 1) ∷ []

is_drained : IsRun ring_of_two (drain ++ published)
is_drained = (
  (
    (
      (
        is_published,
        record {
          many = (leb-true 1 1 refl, leb-true 1 64 refl);
          most = leb-true 1 1 refl;
          in_word = one _ refl;
          ready = one _ refl;
          no_more = λ less share. absurd (omega (arith, less));
        },
      ),
      record { ready = ltb-true 0 1 refl; item = record { sender = 0; number = None; place = 0; raw = x }; there = refl; found = refl },
    ),
    record { ready = ltb-true 0 1 refl; item = record { sender = 0; number = None; place = 0; raw = x }; there = refl; found = refl },
  ),
  record { some = leb-true 1 1 refl; ready = leb-true 1 1 refl; read = read },
)
  where
    read : (i : ℕ) (raw : Raw) (half : Half) → slice_get (x ∷ []) i ≡ Some raw → half_read i half (trail_of Consumer ((Consumer, Read 0 Hi 1) ∷ (Consumer, Read 0 Lo 0x500000003) ∷ (Consumer, Test 1 1) ∷ published)) ≡ Some (half_of half raw)
    read zero raw Lo is = read_x raw Lo (same_Some x raw is)
    read zero raw Hi is = read_x raw Hi (same_Some x raw is)
    read (suc i) raw half is = none_some raw is

-- One command that isn't taken costs four steps, and no fewer are a drain.
pub four_steps_drain : IsDrained ring_of_two 1 published (drain ++ published)
four_steps_drain = record {
  later = drain;
  whole_is = refl;
  alone = (refl, (refl, (refl, (refl, tt))));
  allowed = is_drained;
  events = refl;
  reserved = refl;
  taken = refl;
  acknowledged = acks;
  trails = λ s. refl;
}
  where
    acks : (s : ℕ) → 0 ≡ numbers_given (trail_of (Sender s) published)
    acks zero = refl
    acks (suc s) = sym (ap numbers_given (no_trail 1 (suc s) published (first, (first, (first, (first, (first, tt))))) (omega arith)))

-- a batch with its CMD_SYNC, published and taken
abbrev sync : Raw
sync = sync_raw 0 1

abbrev closing : Run
closing =
    (Sender 0, Flip 0 2) ∷ (Sender 0, Write 1 Hi) ∷ (Sender 0, Write 1 Lo) ∷ (Sender 0, Write 0 Hi) ∷ (Sender 0, Write 0 Lo)
    ∷ (Sender 0, Won (x ∷ []) (Some 1)) ∷ (Sender 0, Look (shows 0 0 false)) ∷ []

abbrev taken : Run
taken =
    (Consumer, Advance (x ∷ sync ∷ [])) ∷ (Consumer, Read 1 Hi sync.hi) ∷ (Consumer, Read 1 Lo sync.lo) ∷ (Consumer, Read 0 Hi x.hi)
    ∷ (Consumer, Read 0 Lo x.lo) ∷ (Consumer, Test 2 2) ∷ closing

two : (P : ℕ → Type 0) → P 0 → P 1 → (i : ℕ) → i < 2 → P i
two P a b zero less = a
two P a b (suc zero) less = b
two P a b (suc (suc i)) less = absurd (omega (arith, less))

halves_of_two : (P : ℕ → Half → Type 0) → P 0 Lo → P 0 Hi → P 1 Lo → P 1 Hi → (i : ℕ) (half : Half) → i < 2 → P i half
halves_of_two P a b c d zero Lo less = a
halves_of_two P a b c d zero Hi less = b
halves_of_two P a b c d (suc zero) Lo less = c
halves_of_two P a b c d (suc zero) Hi less = d
halves_of_two P a b c d (suc (suc i)) half less = absurd (omega (arith, less))

abbrev item_of : ℕ → Raw → Item
item_of place raw = record { sender = 0; number = Some 1; place = place; raw = raw }

is_taken : IsRun ring_of_two taken
is_taken = (
  (
    (
      (
        (
          (
            is_closing,
            record {
              many = (leb-true 1 2 refl, leb-true 2 64 refl);
              most = leb-true 2 2 refl;
              in_word = two _ refl refl;
              ready = two _ refl refl;
              no_more = λ less share. absurd (omega (arith, less));
            },
          ),
          record { ready = ltb-true 0 2 refl; item = item_of 0 x; there = refl; found = refl },
        ),
        record { ready = ltb-true 0 2 refl; item = item_of 0 x; there = refl; found = refl },
      ),
      record { ready = ltb-true 1 2 refl; item = item_of 1 sync; there = refl; found = refl },
    ),
    record { ready = ltb-true 1 2 refl; item = item_of 1 sync; there = refl; found = refl },
  ),
  record { some = leb-true 1 2 refl; ready = leb-true 2 2 refl; read = read },
)
  where
    is_closing : IsRun ring_of_two closing
    is_closing = (
      (
        (
          (
            (
              ((tt, refl), record { looked_at = refl; unclosed = refl; settled = none _; left = ltb-true 0 4 refl; body_is = a_body; next = refl; room = leb-true 2 2 refl }),
              record { inside = ltb-true 0 2 refl; unflipped = refl },
            ),
            record { inside = ltb-true 0 2 refl; unflipped = refl },
          ),
          record { inside = ltb-true 1 2 refl; unflipped = refl },
        ),
        record { inside = ltb-true 1 2 refl; unflipped = refl },
      ),
      record {
        many = (leb-true 1 2 refl, leb-true 2 64 refl);
        inside = leb-true 2 2 refl;
        in_word = two _ refl refl;
        unflipped = two _ refl refl;
        written = halves_of_two _ refl refl refl refl;
      },
    )

    read_of : (was : Raw) (raw : Raw) (half : Half) → was ≡ raw → Some (half_of half was) ≡ Some (half_of half raw)
    read_of was raw half is = ap (λ (r : Raw). Some (half_of half r)) is

    read : (i : ℕ) (raw : Raw) (half : Half) → slice_get (x ∷ sync ∷ []) i ≡ Some raw → half_read i half (trail_of Consumer ((Consumer, Read 1 Hi sync.hi) ∷ (Consumer, Read 1 Lo sync.lo) ∷ (Consumer, Read 0 Hi x.hi) ∷ (Consumer, Read 0 Lo x.lo) ∷ (Consumer, Test 2 2) ∷ closing)) ≡ Some (half_of half raw)
    read zero raw Lo is = read_of x raw Lo (same_Some x raw is)
    read zero raw Hi is = read_of x raw Hi (same_Some x raw is)
    read (suc zero) raw Lo is = read_of sync raw Lo (same_Some sync raw is)
    read (suc zero) raw Hi is = read_of sync raw Hi (same_Some sync raw is)
    read (suc (suc i)) raw half is = none_some raw is

-- Where all is taken, a number that isn't acknowledged still costs a step.
pub one_owed_step_drains : IsDrained ring_of_two 1 taken ((Consumer, Acknowledge 0 1) ∷ taken)
one_owed_step_drains = record {
  later = (Consumer, Acknowledge 0 1) ∷ [];
  whole_is = refl;
  alone = (refl, tt);
  allowed = (is_taken, record { next = refl; taken = record { position = 1; place = 1; below = ltb-true 1 2 refl; there = refl } });
  events = refl;
  reserved = refl;
  taken = refl;
  acknowledged = acks;
  trails = λ s. refl;
}
  where
    acks : (s : ℕ) → (world ((Consumer, Acknowledge 0 1) ∷ taken)).acknowledged s ≡ numbers_given (trail_of (Sender s) taken)
    acks zero = refl
    acks (suc s) =
        ap (λ (v : Bool). let n : ℕ = cond v 1 0 in n) (ne_eqb (suc s) 0 (λ is. omega (arith, is)))
        ∙ sym (ap numbers_given (no_trail 1 (suc s) taken (tt, (tt, (tt, (tt, (tt, (tt, (first, (first, (first, (first, (first, (first, (first, tt))))))))))))) (omega arith)))
