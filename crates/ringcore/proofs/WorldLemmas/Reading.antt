-- What the world and the events both say of a run.
use Rattle.std.proofs.Common.{◌≡◌, ℕ, zero, suc, true, List, [], ◌∷◌, ◌++◌, length, map, Option, Some, refl, sym, ap, ap₂, ◌∙◌, append_assoc, append-nil}
use Rattle.std.proofs.lemmas.Option.{same_Some}
use Rattle.std.proofs.lemmas.List.{length-map, map-append}
use Rattle.std.specs.Prelude.{slice_get}
use Rattle.cmdcodec.specs.declared.raw.Raw.{Raw}
use Rattle.ringcore.proofs.WorldLemmas.Lists.{none_some}
use Rattle.ringcore.specs.declared.world.event.Who.{Who}
use Rattle.ringcore.specs.declared.world.event.Who.TheVariants.{Consumer, Sender}
use Rattle.ringcore.specs.declared.world.event.Event.{Event}
use Rattle.ringcore.specs.declared.world.event.Event.TheVariants.{Look, Won, Lost, Write, Flip, Test, Read, Advance, Close, Acknowledge, Ask}
use Rattle.ringcore.specs.world.Trails.{Run}
use Rattle.ringcore.specs.world.World.{Item, Taken, World, commands, items_from, items, taken_as, world}
use Rattle.ringcore.specs.world.Delivery.{Batch, batches, joined, advanced, has_close}

abbrev pub raws_of : List Item → List Raw
raws_of l = map (λ (i : Item). i.raw) l

abbrev pub raws_taken : List Taken → List Raw
raws_taken l = map (λ (t : Taken). t.raw) l

abbrev pub batch_items : Batch → List Item
batch_items b = items b.sender b.number b.body

-- the items of batches, one batch after another
abbrev pub all_items : List Batch → List Item
all_items [] = []
all_items (b ∷ bs) = batch_items b ++ all_items bs

pub all_items_append : (xs ys : List Batch) → all_items (xs ++ ys) ≡ all_items xs ++ all_items ys
all_items_append [] ys = refl
all_items_append (b ∷ xs) ys =
    ap (λ l. batch_items b ++ l) (all_items_append xs ys) ∙ sym (append_assoc (batch_items b) (all_items xs) (all_items ys))

raws_from : (place s : ℕ) (number : Option ℕ) (raws : List Raw) → raws_of (items_from place s number raws) ≡ raws
raws_from place s number [] = refl
raws_from place s number (raw ∷ raws) = ap (λ l. raw ∷ l) (raws_from (suc place) s number raws)

pub raws_of_batch : (b : Batch) → raws_of (batch_items b) ≡ commands b.sender b.number b.body
raws_of_batch b = raws_from 0 b.sender b.number (commands b.sender b.number b.body)

pub raws_of_all : (bs : List Batch) → raws_of (all_items bs) ≡ joined bs
raws_of_all [] = refl
raws_of_all (b ∷ bs) =
    map-append (λ (i : Item). i.raw) (batch_items b) (all_items bs) ∙ ap₂ (λ x y. x ++ y) (raws_of_batch b) (raws_of_all bs)

pub joined_append : (xs ys : List Batch) → joined (xs ++ ys) ≡ joined xs ++ joined ys
joined_append [] ys = refl
joined_append (b ∷ xs) ys =
    ap (λ l. commands b.sender b.number b.body ++ l) (joined_append xs ys)
    ∙ sym (append_assoc (commands b.sender b.number b.body) (joined xs) (joined ys))

pub length_of_all : (bs : List Batch) → length (all_items bs) ≡ length (joined bs)
length_of_all bs = sym (length-map (all_items bs) (λ (i : Item). i.raw)) ∙ ap length (raws_of_all bs)

pub taken_again : (raws : List Raw) → raws_taken (map taken_as raws) ≡ raws
taken_again [] = refl
taken_again (raw ∷ raws) = ap (λ l. raw ∷ l) (taken_again raws)

-- an item of a batch is the command at its place
pub record IsItemOf (s : ℕ) (number : Option ℕ) (raws : List Raw) (i : ℕ) (item : Item) : Type 0 where
  pub raw_is : slice_get raws i ≡ Some item.raw
  pub sender_is : item.sender ≡ s
  pub number_is : item.number ≡ number

pub item_of : (place s : ℕ) (number : Option ℕ) (raws : List Raw) (i : ℕ) (item : Item) → slice_get (items_from place s number raws) i ≡ Some item
    → IsItemOf s number raws i item
item_of place s number [] i item is = none_some item is
item_of place s number (raw ∷ raws) zero item is =
    let same = sym (same_Some _ item is) in record {
      raw_is = ap (λ (x : Item). Some x.raw) (sym same);
      sender_is = ap (λ (x : Item). x.sender) same;
      number_is = ap (λ (x : Item). x.number) same;
    }
item_of place s number (raw ∷ raws) (suc i) item is =
    let r = item_of (suc place) s number raws i item is in record { raw_is = r.raw_is; sender_is = r.sender_is; number_is = r.number_is }

-- ---- the two readings of a run

pub record IsRead (run : Run) : Type 0 where
  pub reserved : (world run).reserved ≡ all_items (batches run)
  pub taken : raws_taken (world run).taken ≡ advanced run
  pub closed : (world run).closed ≡ has_close run

-- An event that neither records leaves both as they were.
read_unmoved_by_others : (who : Who) (e : Event) (xs : Run) → (world ((who, e) ∷ xs)).reserved ≡ (world xs).reserved → (world ((who, e) ∷ xs)).taken ≡ (world xs).taken
    → (world ((who, e) ∷ xs)).closed ≡ (world xs).closed → batches ((who, e) ∷ xs) ≡ batches xs → advanced ((who, e) ∷ xs) ≡ advanced xs
    → has_close ((who, e) ∷ xs) ≡ has_close xs → IsRead xs → IsRead ((who, e) ∷ xs)
read_unmoved_by_others who e xs r t c b a h i = record {
  reserved = r ∙ i.reserved ∙ ap all_items (sym b);
  taken = ap raws_taken t ∙ i.taken ∙ sym a;
  closed = c ∙ i.closed ∙ sym h;
}

reserves : (s : ℕ) (body : List Raw) (number : Option ℕ) (xs : Run) → IsRead xs → IsRead ((Sender s, Won body number) ∷ xs)
reserves s body number xs i =
    let b : Batch = record { sender = s; number = number; body = body } in record {
      reserved = ap₂ (λ x y. x ++ y) i.reserved (sym (append-nil (batch_items b))) ∙ sym (all_items_append (batches xs) (b ∷ []));
      taken = i.taken;
      closed = i.closed;
    }

takes : (who : Who) (raws : List Raw) (xs : Run) → (world ((who, Advance raws) ∷ xs)) ≡ record (world xs) { taken = (world xs).taken ++ map taken_as raws }
    → batches ((who, Advance raws) ∷ xs) ≡ batches xs → IsRead xs → IsRead ((who, Advance raws) ∷ xs)
takes who raws xs is b i = record {
  reserved = ap (λ (w : World). w.reserved) is ∙ i.reserved ∙ ap all_items (sym b);
  taken =
      ap (λ (w : World). raws_taken w.taken) is ∙ map-append (λ (t : Taken). t.raw) (world xs).taken (map taken_as raws) ∙ ap₂ (λ x y. x ++ y) i.taken (taken_again raws);
  closed = ap (λ (w : World). w.closed) is ∙ i.closed;
}

closes : (who : Who) (xs : Run) → world ((who, Close) ∷ xs) ≡ record (world xs) { closed = true } → batches ((who, Close) ∷ xs) ≡ batches xs
    → IsRead xs → IsRead ((who, Close) ∷ xs)
closes who xs is b i = record {
  reserved = ap (λ (w : World). w.reserved) is ∙ i.reserved ∙ ap all_items (sym b);
  taken = ap (λ (w : World). raws_taken w.taken) is ∙ i.taken;
  closed = ap (λ (w : World). w.closed) is;
}

read_after_event : (who : Who) (e : Event) (xs : Run) → IsRead xs → IsRead ((who, e) ∷ xs)
read_after_event Consumer (Look found) xs i = read_unmoved_by_others Consumer (Look found) xs refl refl refl refl refl refl i
read_after_event Consumer (Won body number) xs i = read_unmoved_by_others Consumer (Won body number) xs refl refl refl refl refl refl i
read_after_event Consumer (Lost body closes found) xs i = read_unmoved_by_others Consumer (Lost body closes found) xs refl refl refl refl refl refl i
read_after_event Consumer (Write offset half) xs i = read_unmoved_by_others Consumer (Write offset half) xs refl refl refl refl refl refl i
read_after_event Consumer (Flip offset count) xs i = read_unmoved_by_others Consumer (Flip offset count) xs refl refl refl refl refl refl i
read_after_event Consumer (Test limit found) xs i = read_unmoved_by_others Consumer (Test limit found) xs refl refl refl refl refl refl i
read_after_event Consumer (Read offset half word) xs i = read_unmoved_by_others Consumer (Read offset half word) xs refl refl refl refl refl refl i
read_after_event Consumer (Advance raws) xs i = takes Consumer raws xs refl refl i
read_after_event Consumer Close xs i = closes Consumer xs refl refl i
read_after_event Consumer (Acknowledge sender number) xs i = read_unmoved_by_others Consumer (Acknowledge sender number) xs refl refl refl refl refl refl i
read_after_event Consumer (Ask found) xs i = read_unmoved_by_others Consumer (Ask found) xs refl refl refl refl refl refl i
read_after_event (Sender s) (Look found) xs i = read_unmoved_by_others (Sender s) (Look found) xs refl refl refl refl refl refl i
read_after_event (Sender s) (Won body number) xs i = reserves s body number xs i
read_after_event (Sender s) (Lost body closes found) xs i = read_unmoved_by_others (Sender s) (Lost body closes found) xs refl refl refl refl refl refl i
read_after_event (Sender s) (Write offset half) xs i = read_unmoved_by_others (Sender s) (Write offset half) xs refl refl refl refl refl refl i
read_after_event (Sender s) (Flip offset count) xs i = read_unmoved_by_others (Sender s) (Flip offset count) xs refl refl refl refl refl refl i
read_after_event (Sender s) (Test limit found) xs i = read_unmoved_by_others (Sender s) (Test limit found) xs refl refl refl refl refl refl i
read_after_event (Sender s) (Read offset half word) xs i = read_unmoved_by_others (Sender s) (Read offset half word) xs refl refl refl refl refl refl i
read_after_event (Sender s) (Advance raws) xs i = takes (Sender s) raws xs refl refl i
read_after_event (Sender s) Close xs i = closes (Sender s) xs refl refl i
read_after_event (Sender s) (Acknowledge sender number) xs i = read_unmoved_by_others (Sender s) (Acknowledge sender number) xs refl refl refl refl refl refl i
read_after_event (Sender s) (Ask found) xs i = read_unmoved_by_others (Sender s) (Ask found) xs refl refl refl refl refl refl i

pub is_read : (run : Run) → IsRead run
is_read [] = record { reserved = refl; taken = refl; closed = refl }
is_read (x ∷ xs) = read_after_event x.0 x.1 xs (is_read xs)

pub reserved_raws : (run : Run) → raws_of (world run).reserved ≡ joined (batches run)
reserved_raws run = ap raws_of (is_read run).reserved ∙ raws_of_all (batches run)
