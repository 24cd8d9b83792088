-- The consumer's trail says which closing syncs are taken.
use Rattle.std.proofs.Common.{◌≡◌, ℕ, zero, suc, ◌+◌, ◌-◌, ◌/◌, ◌^◌, ◌<◌, ◌≤◌, Bool, true, false, cond, ◌==◌, ◌&&◌, List, [], ◌∷◌, ◌++◌, length, map, Option, Some, None, refl, sym, ap, ap₂, ◌∙◌, subst, inl, inr, eqb-true, eq-eqb, ne_eqb, arith}
use Rattle.std.proofs.Math.Bool.{and-false}
use Rattle.std.proofs.lemmas.Bool.{and_parts, cases_eq}
use Rattle.std.proofs.lemmas.List.{length-map, map-append}
use Rattle.std.proofs.lemmas.Option.{slice_get_within, same_Some}
use Rattle.std.specs.Prelude.{slice_get}
use Rattle.cmdcodec.specs.declared.raw.Raw.{Raw}
use Rattle.cmdcodec.specs.ClosingSync.{cell_address}
use Rattle.cmdcodec.specs.Opcodes.{is_sync}
use Rattle.cmdcodec.specs.Words.{encoding}
use Rattle.ringcore.specs.declared.world.event.Who.{Who}
use Rattle.ringcore.specs.declared.world.event.Who.TheVariants.{Consumer, Sender}
use Rattle.ringcore.specs.declared.world.event.Event.{Event}
use Rattle.ringcore.specs.declared.world.event.Event.TheVariants.{Look, Won, Lost, Write, Flip, Test, Read, Advance, Close, Acknowledge, Ask}
use Rattle.ringcore.specs.world.Trails.{Run, trail_of}
use Rattle.ringcore.specs.world.World.{Item, Taken, World, sync_raw, taken_as, head, world}
use Rattle.ringcore.specs.world.Allowed.{Ring, SyncIsTaken, Allowed, IsRun}
use Rattle.ringcore.specs.world.Delivery.{number_of, counted}
use Rattle.ringcore.specs.world.Laws.{is_sync_to, syncs_in, syncs_taken, SyncsTellTheirBatch, SyncsAreCounted}
use Rattle.ringcore.proofs.WorldLemmas.Lists.{none_some, get_shorter}
use Rattle.ringcore.proofs.WorldLemmas.Reading.{raws_of, raws_taken, taken_again}
use Rattle.ringcore.proofs.WorldLemmas.Sound.{Sound, sound}
use Rattle.ringcore.proofs.WorldLemmas.Syncs.{sync_opcode, IsSyncOf, sync_at, sync_numbers, syncs_numbered}

-- ---- the trail counts what is taken

pub syncs_append : (s : ℕ) (xs ys : List Raw) → syncs_in s (xs ++ ys) ≡ syncs_in s xs + syncs_in s ys
syncs_append s [] ys = omega arith
syncs_append s (x ∷ xs) ys = by_kind (syncs_append s xs ys) (is_sync_to s x)
  where
    by_kind : syncs_in s (xs ++ ys) ≡ syncs_in s xs + syncs_in s ys → (v : Bool) → cond v (suc (syncs_in s (xs ++ ys))) (syncs_in s (xs ++ ys)) ≡ cond v (suc (syncs_in s xs)) (syncs_in s xs) + syncs_in s ys
    by_kind rest true = omega (arith, rest)
    by_kind rest false = rest

abbrev CountsTaken : ℕ → Run → Type 0
CountsTaken s run = syncs_taken s (trail_of Consumer run) ≡ syncs_in s (raws_taken (world run).taken)

counts_after_event : (ring : Ring) (xs : Run) (s : ℕ) (who : Who) (e : Event) → Allowed ring (world xs) (trail_of who xs) who e → CountsTaken s xs → CountsTaken s ((who, e) ∷ xs)
counts_after_event ring xs s Consumer (Look found) a is = is
counts_after_event ring xs s Consumer (Won body number) a is = absurd a
counts_after_event ring xs s Consumer (Lost body closes found) a is = absurd a
counts_after_event ring xs s Consumer (Write offset half) a is = absurd a
counts_after_event ring xs s Consumer (Flip offset count) a is = absurd a
counts_after_event ring xs s Consumer (Test limit found) a is = is
counts_after_event ring xs s Consumer (Read offset half word) a is = is
counts_after_event ring xs s Consumer (Advance raws) a is =
    ap (λ n. n + syncs_in s raws) is
    ∙ sym (ap (syncs_in s) (map-append (λ (t : Taken). t.raw) (world xs).taken (map taken_as raws) ∙ ap (λ l. raws_taken (world xs).taken ++ l) (taken_again raws))
    ∙ syncs_append s (raws_taken (world xs).taken) raws)
counts_after_event ring xs s Consumer Close a is = absurd a
counts_after_event ring xs s Consumer (Acknowledge sender number) a is = is
counts_after_event ring xs s Consumer (Ask found) a is = absurd a
counts_after_event ring xs s (Sender t) (Look found) a is = is
counts_after_event ring xs s (Sender t) (Won body number) a is = is
counts_after_event ring xs s (Sender t) (Lost body closes found) a is = is
counts_after_event ring xs s (Sender t) (Write offset half) a is = is
counts_after_event ring xs s (Sender t) (Flip offset count) a is = is
counts_after_event ring xs s (Sender t) (Test limit found) a is = absurd a
counts_after_event ring xs s (Sender t) (Read offset half word) a is = absurd a
counts_after_event ring xs s (Sender t) (Advance raws) a is = absurd a
counts_after_event ring xs s (Sender t) Close a is = is
counts_after_event ring xs s (Sender t) (Acknowledge sender number) a is = absurd a
counts_after_event ring xs s (Sender t) (Ask found) a is = is

counts : (ring : Ring) (run : Run) → IsRun ring run → (s : ℕ) → CountsTaken s run
counts ring [] ok s = refl
counts ring (x ∷ xs) ok s = counts_after_event ring xs s x.0 x.1 ok.1 (counts ring xs ok.0 s)

-- ---- what is taken is the front of what is reserved

record IsSplit {A : Type 0} (xs : List A) (n : ℕ) : Type 0 where
  front : List A
  rest : List A
  is : xs ≡ front ++ rest
  long : length front ≡ n

split : {A : Type 0} (xs : List A) (n : ℕ) → n ≤ length xs → IsSplit xs n
split xs zero le = record { front = []; rest = xs; is = refl; long = refl }
split [] (suc n) le = absurd (omega (arith, le))
split (x ∷ xs) (suc n) le =
    let s = split xs n (omega (arith, le)) in
    record { front = x ∷ s.front; rest = s.rest; is = ap (λ l. x ∷ l) s.is; long = ap suc s.long }

same_front : {A : Type 0} (a b c d : List A) → a ++ b ≡ c ++ d → length a ≡ length c → a ≡ c
same_front [] b [] d e l = refl
same_front [] b (z ∷ c) d e l = absurd (omega (arith, l))
same_front (x ∷ a) b [] d e l = absurd (omega (arith, l))
same_front (x ∷ a) b (z ∷ c) d e l =
    let one : x ≡ z = cc in let more : a ++ b ≡ c ++ d = cc in ap₂ (λ y m. y ∷ m) one (same_front a b c d more (omega (arith, l)))

-- ---- numbers in a row

counted_front : (first n : ℕ) (xs ys : List ℕ) → xs ++ ys ≡ counted first n → xs ≡ counted first (length xs)
counted_front first n [] ys e = refl
counted_front first zero (x ∷ xs) ys e = absurd (cc)
counted_front first (suc n) (x ∷ xs) ys e =
    let one : x ≡ first = cc in let more : xs ++ ys ≡ counted (suc first) n = cc in ap₂ (λ y m. y ∷ m) one (counted_front (suc first) n xs ys more)

pub in_counted : (first n i k : ℕ) → slice_get (counted first n) i ≡ Some k → (k ≡ first + i) × (i < n)
in_counted first zero i k e = none_some k e
in_counted first (suc n) zero k e = (let one = same_Some first k e in omega (arith, one), omega arith)
in_counted first (suc n) (suc i) k e = let r = in_counted (suc first) n i k e in (omega (arith, r.0), omega (arith, r.1))

counted_at : (first n i : ℕ) → i < n → slice_get (counted first n) i ≡ Some (first + i)
counted_at first zero i l = absurd (omega (arith, l))
counted_at first (suc n) zero l = ap Some (omega arith)
counted_at first (suc n) (suc i) l = counted_at (suc first) n i (omega (arith, l)) ∙ ap Some (omega arith)

-- ---- the numbers of the syncs in a list of items

pub numbers_append : (s : ℕ) (xs ys : List Item) → sync_numbers s (xs ++ ys) ≡ sync_numbers s xs ++ sync_numbers s ys
numbers_append s [] ys = refl
numbers_append s (x ∷ xs) ys = by_kind (numbers_append s xs ys) (s == x.sender && is_sync x.raw) x.number
  where
    by_kind : sync_numbers s (xs ++ ys) ≡ sync_numbers s xs ++ sync_numbers s ys → (v : Bool) (number : Option ℕ)
        → cond v (number_of number (sync_numbers s (xs ++ ys))) (sync_numbers s (xs ++ ys)) ≡ cond v (number_of number (sync_numbers s xs)) (sync_numbers s xs) ++ sync_numbers s ys
    by_kind rest true None = rest
    by_kind rest true (Some n) = ap (λ l. n ∷ l) rest
    by_kind rest false number = rest

-- an item that is a sync of this sender and number is among them
pub number_there : (s k : ℕ) (xs : List Item) (p : ℕ) (item : Item) → slice_get xs p ≡ Some item → item.sender ≡ s → item.number ≡ Some k → is_sync item.raw ≡ true
    → (i : ℕ) × (slice_get (sync_numbers s xs) i ≡ Some k)
number_there s k [] p item at sender number sync = none_some item at
number_there s k (x ∷ xs) zero item at sender number sync =
    let is : x ≡ item = same_Some x item at in
    let kind : (s == x.sender && is_sync x.raw) ≡ true =
    ap₂ (λ a b. a && b) (eq-eqb s x.sender (sym (ap (λ (i : Item). i.sender) is ∙ sender))) (ap (λ (i : Item). is_sync i.raw) is ∙ sync) in (
      0,
      ap (λ b. slice_get (cond b (number_of x.number (sync_numbers s xs)) (sync_numbers s xs)) 0) kind
          ∙ ap (λ n. slice_get (number_of n (sync_numbers s xs)) 0) (ap (λ (i : Item). i.number) is ∙ number),
    )
number_there s k (x ∷ xs) (suc p) item at sender number sync =
    let r = number_there s k xs p item at sender number sync in by_kind (s == x.sender && is_sync x.raw) x.number r
  where
    by_kind : (v : Bool) (n : Option ℕ) → ((i : ℕ) × (slice_get (sync_numbers s xs) i ≡ Some k))
        → (i : ℕ) × (slice_get (cond v (number_of n (sync_numbers s xs)) (sync_numbers s xs)) i ≡ Some k)
    by_kind true None r = r
    by_kind true (Some n) r = (suc r.0, r.1)
    by_kind false n r = r

-- and every number among them is that of such an item
record IsAt (s k : ℕ) (xs : List Item) : Type 0 where
  position : ℕ
  item : Item
  there : slice_get xs position ≡ Some item
  sender_is : item.sender ≡ s
  number_is : item.number ≡ Some k
  sync : is_sync item.raw ≡ true

item_of_number : (s k : ℕ) (xs : List Item) (i : ℕ) → slice_get (sync_numbers s xs) i ≡ Some k → IsAt s k xs
item_of_number s k [] i at = none_some k at
item_of_number s k (x ∷ xs) i at = by_kind (item_of_number s k xs) (s == x.sender && is_sync x.raw) refl x.number refl i at
  where
    on : IsAt s k xs → IsAt s k (x ∷ xs)
    on r = record { position = suc r.position; item = r.item; there = r.there; sender_is = r.sender_is; number_is = r.number_is; sync = r.sync }

    by_kind : ((i : ℕ) → slice_get (sync_numbers s xs) i ≡ Some k → IsAt s k xs) → (v : Bool) → (s == x.sender && is_sync x.raw) ≡ v → (n : Option ℕ) → x.number ≡ n → (i : ℕ)
        → slice_get (cond v (number_of n (sync_numbers s xs)) (sync_numbers s xs)) i ≡ Some k → IsAt s k (x ∷ xs)
    by_kind later true kind None number i at = on (later i at)
    by_kind later true kind (Some n) number zero at =
        let both = and_parts (s == x.sender) (is_sync x.raw) kind in record {
          position = 0;
          item = x;
          there = refl;
          sender_is = sym (eqb-true s x.sender both.0);
          number_is = number ∙ at;
          sync = both.1;
        }
    by_kind later true kind (Some n) number (suc i) at = on (later i at)
    by_kind later false kind n number i at = on (later i at)

-- If all that have the sync's opcode are syncs, there are as many numbers as closing syncs.
abbrev pub AllSyncs : List Item → Type 0
AllSyncs xs = (p : ℕ) (item : Item) → slice_get xs p ≡ Some item → is_sync item.raw ≡ true → IsSyncOf item

address_is : (s n : ℕ) → (sync_raw s n).hi ≡ cell_address s
unfolding encoding
address_is s n = omega arith

-- No two senders have the same cell.
pub its_cell : (s t address : ℕ) → address ≡ cell_address t → (address == cell_address s) ≡ (s == t)
its_cell s t address its = elim (cases_eq s t) [
  | inl one ↦ eq-eqb address (cell_address s) (omega (arith, its, one)) ∙ sym (eq-eqb s t one)
  | inr two ↦ ne_eqb address (cell_address s) (λ e. two (omega (arith, its, e))) ∙ sym (ne_eqb s t two)
]

number_at : (s n : ℕ) → (sync_raw s n).lo / 2 ^ 32 ≡ n
unfolding encoding
number_at s n = omega arith

pub tells_its_batch : SyncsTellTheirBatch
tells_its_batch s n = record {
  opcode = sync_opcode s n;
  cell = address_is s n;
  number_is = number_at s n;
  sender_is = λ other.
      ap (λ b. b && (sync_raw s n).hi == cell_address other) (sync_opcode s n) ∙ its_cell other s (sync_raw s n).hi (address_is s n);
}

kind_is : (s : ℕ) (item : Item) → (is_sync item.raw ≡ true → IsSyncOf item) → is_sync_to s item.raw ≡ (s == item.sender && is_sync item.raw)
kind_is s item all = by_kind (is_sync item.raw) refl
  where
    and_true : (b : Bool) → (b && true) ≡ b
    and_true true = refl
    and_true false = refl

    by_kind : (v : Bool) → is_sync item.raw ≡ v → is_sync_to s item.raw ≡ (s == item.sender && is_sync item.raw)
    by_kind true sync =
        let is = all sync in
        let hi : item.raw.hi ≡ cell_address item.sender = ap (λ (r : Raw). r.hi) is.raw_is ∙ address_is item.sender is.number in
        ap₂ (λ a b. a && b) sync (its_cell s item.sender item.raw.hi hi) ∙ sym (and_true (s == item.sender)) ∙ ap (λ b. s == item.sender && b) (sym sync)
    by_kind false other =
        ap (λ b. b && item.raw.hi == cell_address s) other ∙ sym (and-false (s == item.sender)) ∙ ap (λ b. s == item.sender && b) (sym other)

pub as_many : (s : ℕ) (xs : List Item) → AllSyncs xs → length (sync_numbers s xs) ≡ syncs_in s (raws_of xs)
as_many s [] all = refl
as_many s (x ∷ xs) all = by_kind (as_many s xs (λ p item at sync. all (suc p) item at sync)) (s == x.sender && is_sync x.raw) refl
  where
    numbered : (n : Option ℕ) (k : ℕ) → n ≡ Some k → length (number_of n (sync_numbers s xs)) ≡ suc (length (sync_numbers s xs))
    numbered n k is = ap (λ m. length (number_of m (sync_numbers s xs))) is

    kind : is_sync_to s x.raw ≡ (s == x.sender && is_sync x.raw)
    kind = kind_is s x (λ sync. all 0 x refl sync)

    by_kind : length (sync_numbers s xs) ≡ syncs_in s (raws_of xs) → (v : Bool) → (s == x.sender && is_sync x.raw) ≡ v → length (sync_numbers s (x ∷ xs)) ≡ syncs_in s (raws_of (x ∷ xs))
    by_kind rest true is =
        let sync = all 0 x refl (and_parts (s == x.sender) (is_sync x.raw) is).1 in
        ap (λ b. length (cond b (number_of x.number (sync_numbers s xs)) (sync_numbers s xs))) is
        ∙ numbered x.number sync.number sync.number_is ∙ ap suc rest
        ∙ sym (ap (λ b. cond b (suc (syncs_in s (raws_of xs))) (syncs_in s (raws_of xs))) (kind ∙ is))
    by_kind rest false is =
        ap (λ b. length (cond b (number_of x.number (sync_numbers s xs)) (sync_numbers s xs))) is ∙ rest
        ∙ sym (ap (λ b. cond b (suc (syncs_in s (raws_of xs))) (syncs_in s (raws_of xs))) (kind ∙ is))

-- ---- the law

pub syncs_counted : (ring : Ring) (run : Run) → IsRun ring run → SyncsAreCounted run
syncs_counted ring run ok s k = (there, back)
  where
    w : World
    w = world run

    i : Sound ring run
    i = sound ring run ok

    parts : IsSplit (world run).reserved (head (world run))
    parts = split (world run).reserved (head (world run)) (sound ring run ok).behind

    -- an item of the front is one of all
    whole : (p : ℕ) (item : Item) → slice_get parts.front p ≡ Some item → slice_get (world run).reserved p ≡ Some item
    whole p item at = ap (λ l. slice_get l p) parts.is ∙ get_shorter parts.front parts.rest p (slice_get_within parts.front p item at) ∙ at

    all : AllSyncs parts.front
    all p item at sync = sync_at ring run ok p item (whole p item at) sync

    raws : raws_of parts.front ≡ raws_taken (world run).taken
    raws =
        let begins = (sound ring run ok).delivered in
        same_front (raws_of parts.front) (raws_of parts.rest) (raws_taken (world run).taken) begins.0
        (sym (map-append (λ (t : Item). t.raw) parts.front parts.rest) ∙ ap raws_of (sym parts.is) ∙ begins.1)
        (length-map parts.front (λ (t : Item). t.raw) ∙ parts.long ∙ sym (length-map (world run).taken (λ (t : Taken). t.raw)))

    many : length (sync_numbers s parts.front) ≡ syncs_taken s (trail_of Consumer run)
    many = as_many s parts.front all ∙ ap (syncs_in s) raws ∙ sym (counts ring run ok s)

    in_a_row : sync_numbers s parts.front ≡ counted 1 (length (sync_numbers s parts.front))
    in_a_row = counted_front 1 _ (sync_numbers s parts.front) (sync_numbers s parts.rest)
        (sym (numbers_append s parts.front parts.rest) ∙ ap (sync_numbers s) (sym parts.is) ∙ syncs_numbered ring run ok s)

    there : SyncIsTaken (world run) s k → (1 ≤ k) × (k ≤ syncs_taken s (trail_of Consumer run))
    there t =
        let p = t.position in
        let inside : p < length parts.front = subst (λ n. p < n) (sym parts.long) t.below in
        let item : Item = record { sender = s; number = Some k; place = t.place; raw = sync_raw s k } in
        let at : slice_get parts.front p ≡ Some item = sym (get_shorter parts.front parts.rest p inside) ∙ ap (λ l. slice_get l p) (sym parts.is) ∙ t.there in
        let found = number_there s k parts.front p item at refl refl (sync_opcode s k) in
        let its = in_counted 1 (length (sync_numbers s parts.front)) found.0 k (ap (λ l. slice_get l found.0) (sym in_a_row) ∙ found.1) in
        (omega (arith, its.0), omega (arith, its.0, its.1, many))

    back : (1 ≤ k) × (k ≤ syncs_taken s (trail_of Consumer run)) → SyncIsTaken (world run) s k
    back b =
        let j = k - 1 in
        let inside : j < length (sync_numbers s parts.front) = omega (arith, b.0, b.1, many) in
        let is : 1 + j ≡ k = omega (arith, b.0) in
        let at : slice_get (sync_numbers s parts.front) j ≡ Some k = ap (λ l. slice_get l j) in_a_row ∙ counted_at 1 (length (sync_numbers s parts.front)) j inside ∙ ap Some is in
        let r = item_of_number s k parts.front j at in
        let sync = sync_at ring run ok r.position r.item (whole r.position r.item r.there) r.sync in
        let number : sync.number ≡ k = same_Some sync.number k (sym sync.number_is ∙ r.number_is) in
        let raw : r.item.raw ≡ sync_raw s k = sync.raw_is ∙ ap₂ sync_raw r.sender_is number in record {
          position = r.position;
          place = r.item.place;
          below = subst (λ n. r.position < n) parts.long (slice_get_within parts.front r.position r.item r.there);
          there = whole r.position r.item r.there ∙ ap Some (λ q. record { sender = r.sender_is q; number = r.number_is q; place = r.item.place; raw = raw q });
        }
