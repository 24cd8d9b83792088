-- What the definitions of order refuse: for each a list of events, or a world, of which it is false.
use Rattle.std.proofs.Common.{◌≡◌, ℕ, zero, suc, ◌+◌, true, false, List, [], ◌∷◌, ◌++◌, length, Option, Some, None, refl, sym, ap, ap₂, ◌∙◌, arith}
use Rattle.std.proofs.lemmas.Option.{none-some, same_Some}
use Rattle.std.specs.Prelude.{slice_get}
use Rattle.cmdcodec.specs.declared.raw.Raw.{Raw}
use Rattle.qindex.specs.declared.control.Control.{Control}
use Rattle.ringcore.specs.declared.world.event.Who.TheVariants.{Consumer, Sender}
use Rattle.ringcore.specs.declared.world.event.Event.TheVariants.{Look, Won, Test, Advance, Close}
use Rattle.ringcore.specs.world.Trails.{Run, trail_of}
use Rattle.ringcore.specs.declared.world.event.Outcome.TheVariants.{Applied}
use Rattle.ringcore.specs.world.World.{Item, World, Taken, opening, world, sync_raw}
use Rattle.ringcore.specs.world.Allowed.{Ring, IsRun}
use Rattle.ringcore.specs.world.Delivery.{Batch, batches, joined, TakenInOrder, NumberedInOrder, NoneAfterClose, IsCompleted}
use Rattle.ringcore.specs.world.Laws.{StandsAt, StandInOrder, IsApplied, BatchesAreUnbroken, SendersOrderIsKept, batches_of, own_batches}
use Rattle.ring_tests.proofs.WorkedCases.{x, y, shows}

-- the low words of the first command, and of the second
abbrev first_lo : List Raw → ℕ
first_lo [] = 0
first_lo (raw ∷ raws) = raw.lo

-- a batch of one command without a closing sync
abbrev bare : ℕ → Raw → Batch
bare s raw = record { sender = s; number = None; body = raw ∷ [] }

abbrev item : ℕ → Option ℕ → ℕ → Raw → Item
item s number place raw = record { sender = s; number = number; place = place; raw = raw }

-- a world in which these are reserved
abbrev with_reserved : List Item → World
with_reserved reserved = record opening { reserved = reserved }

-- ---- each step reads what its events leave

abbrev ring_of_two : Ring
ring_of_two = record { geometry = 1; senders = 2; max_batches = 4; flags = 64 }

-- Both senders look at an empty ring. Sender 1 reserves a batch, and sender 0 would win its exchange by the old look.
abbrev stale_look : Run
stale_look =
    (Sender 0, Won (x ∷ []) None) ∷ (Sender 1, Won (x ∷ []) None) ∷ (Sender 1, Look (shows 1 0 0 false)) ∷ (Sender 0, Look (shows 1 0 0 false)) ∷ []

abbrev prod_of : Option Control → ℕ
prod_of None = 0
prod_of (Some seen) = seen.prod.number

pub stale_look_wins_nothing : ¬ IsRun ring_of_two stale_look
stale_look_wins_nothing run = let same : 0 ≡ 1 = ap prod_of run.1.looked_at in absurd (omega (arith, same))

-- A command is found ready that nobody has written.
abbrev unwritten_found : Run
unwritten_found = (Consumer, Test 1 1) ∷ (Sender 0, Won (x ∷ []) None) ∷ (Sender 0, Look (shows 1 0 0 false)) ∷ []

pub unwritten_is_not_ready : ¬ IsRun ring_of_two unwritten_found
unwritten_is_not_ready run = let ready : false ≡ true = run.1.ready 0 (omega arith) in absurd (cc)

-- ---- the commands taken are a beginning of the reserved commands in reservation order

-- Sender 0 reserves x and sender 1 reserves y, and y is taken first.
abbrev second_taken_first : Run
second_taken_first = (Consumer, Advance (y ∷ [])) ∷ (Sender 1, Won (y ∷ []) None) ∷ (Sender 0, Won (x ∷ []) None) ∷ []

pub second_is_not_first : ¬ TakenInOrder second_taken_first
second_is_not_first begins = let same : 0x500000003 ≡ 0x600000003 = ap first_lo begins.1 in absurd (omega (arith, same))

-- One more is taken than was reserved.
abbrev taken_beyond : Run
taken_beyond = (Consumer, Advance (x ∷ x ∷ [])) ∷ (Sender 0, Won (x ∷ []) None) ∷ []

pub none_beyond_the_reserved : ¬ TakenInOrder taken_beyond
none_beyond_the_reserved begins = let many : 1 ≡ suc (suc (length begins.0)) = ap length begins.1 in absurd (omega (arith, many))

-- ---- batches unbroken

-- A command of sender 1 comes between x of sender 0 and its closing sync.
abbrev broken : World
broken = with_reserved (item 0 (Some 1) 0 x ∷ item 1 None 0 y ∷ item 0 (Some 1) 1 (sync_raw 0 1) ∷ [])

abbrev whose : Option Item → ℕ
whose None = 0
whose (Some it) = it.sender

pub broken_is_not_unbroken : ¬ StandsAt broken 0 (record { sender = 0; number = Some 1; body = x ∷ [] })
broken_is_not_unbroken stands = let same : 1 ≡ 0 = ap whose (stands 1 (item 0 (Some 1) 1 (sync_raw 0 1)) refl) in absurd (omega (arith, same))

-- ---- each sender's order kept

-- If the first of two places is taken by y and the second by x, and both are sender 0's:
abbrev turned_round : World
turned_round = with_reserved (item 0 None 0 y ∷ item 0 None 0 x ∷ [])

abbrev lo_of : Option Item → ℕ
lo_of None = 0
lo_of (Some it) = it.raw.lo

-- no command comes after those that are reserved
beyond : (reserved : List Item) (place : ℕ) (it : Item) → slice_get reserved place ≡ None → ¬ (slice_get reserved (place + 0) ≡ Some it)
beyond reserved place it none there =
    let here : place + 0 ≡ place = omega arith in
    let both : None ≡ Some it = sym none ∙ ap (slice_get reserved) (sym here) ∙ there in absurd (cc)

at_second : (place : ℕ) → StandsAt turned_round place (bare 0 x) → place ≡ 1
at_second zero stands = let same : 0x600000003 ≡ 0x500000003 = ap lo_of (stands 0 (item 0 None 0 x) refl) in absurd (omega (arith, same))
at_second (suc zero) stands = refl
at_second (suc (suc place)) stands = absurd (beyond turned_round.reserved (suc (suc place)) (item 0 None 0 x) refl (stands 0 (item 0 None 0 x) refl))

at_first : (place : ℕ) → StandsAt turned_round place (bare 0 y) → place ≡ 0
at_first zero stands = refl
at_first (suc zero) stands = let same : 0x500000003 ≡ 0x600000003 = ap lo_of (stands 0 (item 0 None 0 y) refl) in absurd (omega (arith, same))
at_first (suc (suc place)) stands = absurd (beyond turned_round.reserved (suc (suc place)) (item 0 None 0 y) refl (stands 0 (item 0 None 0 y) refl))

-- x doesn't come before y.
pub later_is_not_earlier : ¬ StandInOrder turned_round (bare 0 x) (bare 0 y)
later_is_not_earlier it = absurd (omega (arith, at_second it.first it.first_is, at_first it.second it.second_is, it.order))

-- A command is there once, and two batches that are alike have no place for both.
abbrev once : World
once = with_reserved (item 0 None 0 x ∷ [])

at_only : (place : ℕ) → StandsAt once place (bare 0 x) → place ≡ 0
at_only zero stands = refl
at_only (suc place) stands = absurd (beyond once.reserved (suc place) (item 0 None 0 x) refl (stands 0 (item 0 None 0 x) refl))

pub two_do_not_share_a_place : ¬ StandInOrder once (bare 0 x) (bare 0 x)
two_do_not_share_a_place it = absurd (omega (arith, at_only it.first it.first_is, at_only it.second it.second_is, it.order))

-- ---- none reserved after closing

abbrev reserved_after_a_close : Run
reserved_after_a_close = (Sender 0, Won (x ∷ []) None) ∷ (Sender 1, Close) ∷ []

pub none_after_a_close : ¬ NoneAfterClose reserved_after_a_close
none_after_a_close none = let closed : true ≡ false = none [] ((Sender 1, Close) ∷ []) 0 (x ∷ []) None refl in absurd (cc)

-- ---- every command reserved before it was applied

-- Sender 1 reserved a batch, and nothing of it is taken.
abbrev only_reserved : Run
only_reserved = (Sender 1, Won (x ∷ []) (Some 1)) ∷ []

pub reserved_is_not_completed : ¬ IsCompleted only_reserved 1 1
reserved_is_not_completed it = let none : None ≡ Some (sync_raw 1 1) = it.sync in absurd (cc)

only_one : (ahead behind : List Batch) (a b : Batch) → a ∷ [] ≡ ahead ++ b ∷ behind → (ahead ≡ []) × (a ≡ b)
only_one [] behind a b is = (refl, head_is)
  where
    head_is : a ≡ b
    head_is = search
only_one (c ∷ []) behind a b is = absurd (cc)
only_one (c ∷ d ∷ ahead) behind a b is = absurd (cc)

-- Nobody reserved a batch of number 2.
pub one_is_not_two : ¬ IsCompleted only_reserved 1 2
one_is_not_two it =
    let one : Some 1 ≡ Some 2 = ap (λ (b : Batch). b.number) (only_one it.ahead it.behind (record { sender = 1; number = Some 1; body = x ∷ [] }) (record { sender = 1; number = Some 2; body = it.body }) it.reserved).1 in
    let same : 1 ≡ 2 = same_Some 1 2 one in absurd (omega (arith, same))

-- Its closing sync is taken, and before it another command than the one that was reserved there.
abbrev another_taken : Run
another_taken = (Consumer, Advance (y ∷ sync_raw 1 1 ∷ [])) ∷ only_reserved

pub another_is_not_completed : ¬ IsCompleted another_taken 1 1
another_is_not_completed it =
    let only = only_one it.ahead it.behind (record { sender = 1; number = Some 1; body = x ∷ [] }) (record { sender = 1; number = Some 1; body = it.body }) it.reserved in
    let ahead : joined it.ahead ++ it.body ≡ x ∷ [] = ap₂ (λ ahead (b : Batch). joined ahead ++ b.body) only.0 (sym only.1) in
    let same : 0x600000003 ≡ 0x500000003 = ap first_lo it.all_ahead.1 ∙ ap (λ raws. first_lo (raws ++ it.all_ahead.0)) ahead in
    absurd (omega (arith, same))

-- It is taken, and its closing sync isn't.
abbrev sync_untaken : Run
sync_untaken = (Consumer, Advance (x ∷ [])) ∷ only_reserved

pub untaken_sync_is_not_completed : ¬ IsCompleted sync_untaken 1 1
untaken_sync_is_not_completed it =
    let reserved : Batch = record { sender = 1; number = Some 1; body = x ∷ [] } in
    let only = only_one it.ahead it.behind reserved (record reserved { body = it.body }) it.reserved in
    let ahead : joined it.ahead ++ it.body ≡ x ∷ [] = ap₂ (λ ahead (b : Batch). joined ahead ++ b.body) only.0 (sym only.1) in
    none-some _ (ap (λ (raws : List Raw). slice_get (x ∷ []) (length raws)) (sym ahead) ∙ it.sync)

-- A closing sync is taken that nobody reserved.
pub unreserved_is_not_completed : ¬ IsCompleted ((Consumer, Advance (sync_raw 1 1 ∷ [])) ∷ []) 1 1
unreserved_is_not_completed it = nothing_is_more it.ahead (record { sender = 1; number = Some 1; body = it.body }) it.behind it.reserved
  where
    nothing_is_more : (ahead : List Batch) (b : Batch) (behind : List Batch) → ¬ ([] ≡ ahead ++ b ∷ behind)
    nothing_is_more [] b behind is = absurd (cc)
    nothing_is_more (a ∷ ahead) b behind is = absurd (cc)

-- ---- each sender's batches in order, and each batch in its place

abbrev numbered_2 : Run
numbered_2 = (Sender 0, Won (x ∷ []) (Some 2)) ∷ []

abbrev first_number : List ℕ → ℕ
first_number [] = 0
first_number (n ∷ ns) = n

pub two_is_not_the_first_number : ¬ NumberedInOrder numbered_2
two_is_not_the_first_number in_order = let same : 2 ≡ 1 = ap first_number (in_order 0) in absurd (omega (arith, same))

-- What a sender reserved is what is reserved of it, batch by batch.
pub order_is_kept_batch_by_batch : (run : Run) (s : ℕ) (bs : List Batch) → SendersOrderIsKept run → batches_of s (batches run) ≡ bs → own_batches s (trail_of (Sender s) run) ≡ bs
order_is_kept_batch_by_batch run s bs kept is = sym (kept s) ∙ is

abbrev two_batches : Run
two_batches = (Sender 1, Won (y ∷ []) None) ∷ (Sender 0, Won (x ∷ []) None) ∷ []

pub second_stands_behind_the_first : BatchesAreUnbroken two_batches → StandsAt (world two_batches) 1 (bare 1 y)
second_stands_behind_the_first unbroken = unbroken (bare 0 x ∷ []) [] (bare 1 y) refl

-- A closing sync that was taken without effect isn't applied.
pub replaced_sync_is_not_applied : (run : Run) (s number : ℕ) (it : IsApplied run s number) (t : Taken)
    → slice_get (world run).taken (length (joined it.completed.ahead ++ it.completed.body)) ≡ Some t → t.outcome ≡ Applied
replaced_sync_is_not_applied run s number it t at = ap (λ (t : Taken). t.outcome) (same_Some _ _ (sym at ∙ it.applied))
