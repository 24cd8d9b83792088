-- The closing syncs in the reserved list: each is that of one batch, and a sender's are numbered 1, 2, 3 and so on.
use Rattle.std.proofs.Common.{◌≡◌, ℕ, zero, suc, ◌+◌, ◌-◌, Bool, true, false, cond, ◌&&◌, List, [], ◌∷◌, ◌++◌, length, Option, Some, None, refl, sym, ap, ◌∙◌, inl, inr, eq-eqb, arith, length-append, append_assoc}
use Rattle.std.proofs.Math.Bool.{and-false}
use Rattle.std.proofs.lemmas.Bool.{or_parts, cases_lt}
use Rattle.std.proofs.lemmas.List.{length-map}
use Rattle.std.proofs.lemmas.Option.{slice_get_within, same_Some}
use Rattle.std.specs.Prelude.{slice_get, ◌==◌}
use Rattle.std.specs.List.{list_any}
use Rattle.cmdcodec.specs.declared.raw.Raw.{Raw}
use Rattle.cmdcodec.specs.Bodies.{IsBody}
use Rattle.cmdcodec.specs.Opcodes.{opcode_of, is_sync}
use Rattle.cmdcodec.specs.Words.{encoding}
use Rattle.ringcore.specs.world.Trails.{Run, trail_of, numbers_given}
use Rattle.ringcore.specs.declared.world.event.Who.TheVariants.{Sender}
use Rattle.ringcore.specs.world.World.{Item, sync_raw, commands, items_from, items, world}
use Rattle.ringcore.specs.world.Allowed.{Ring, IsRun}
use Rattle.ringcore.specs.world.Delivery.{Batch, batches, joined, number_of, numbers, counted}
use Rattle.ringcore.proofs.WorldLemmas.Lists.{off, none_some, get_shorter, get_behind}
use Rattle.ringcore.proofs.WorldLemmas.Reading.{item_of, batch_items, all_items, raws_of_batch, is_read}
use Rattle.ringcore.proofs.WorldLemmas.Numbering.{AllBodies, is_kept}

-- ---- the batch of a sync

-- A closing sync is a CMD_SYNC.
pub sync_opcode : (s number : ℕ) → is_sync (sync_raw s number) ≡ true
unfolding encoding
sync_opcode s number = eq-eqb (opcode_of (sync_raw s number)) 0x46 (omega arith)

no_sync_at : (raws : List Raw) → list_any is_sync raws ≡ false → (i : ℕ) (raw : Raw) → slice_get raws i ≡ Some raw → is_sync raw ≡ false
no_sync_at [] none i raw at = none_some raw at
no_sync_at (x ∷ xs) none zero raw at = ap is_sync (sym (same_Some x raw at)) ∙ (or_parts (is_sync x) (list_any is_sync xs) none).0
no_sync_at (x ∷ xs) none (suc i) raw at = no_sync_at xs (or_parts (is_sync x) (list_any is_sync xs) none).1 i raw at

-- In a batch without a CMD_SYNC in its body, one can only be right after the body.
at_end : (s : ℕ) (number : Option ℕ) (body : List Raw) (i : ℕ) (raw : Raw) → IsBody body → slice_get (commands s number body) i ≡ Some raw
    → is_sync raw ≡ true → i ≡ length body
at_end s None body i raw is at sync = off (sym (no_sync_at body is.no_sync i raw at) ∙ sync)
at_end s (Some number) body i raw is at sync =
    elim (cases_lt i (length body)) [
      | inl inside ↦ off (sym (no_sync_at body is.no_sync i raw (sym (get_shorter body (sync_raw s number ∷ []) i inside) ∙ at)) ∙ sync)
      | inr behind ↦
          let within = slice_get_within (body ++ sync_raw s number ∷ []) i raw at in
          let long = length-append body (sync_raw s number ∷ []) in
          omega (arith, behind, within, long)
    ]

-- where the batch of an item is among the batches
pub record IsBatchOf (bs : List Batch) (position : ℕ) (item : Item) : Type 0 where
  pub ahead : List Batch
  pub batch : Batch
  pub behind : List Batch
  pub whole : bs ≡ ahead ++ batch ∷ behind
  pub sender_is : item.sender ≡ batch.sender
  pub number_is : item.number ≡ batch.number
  pub position_is : position ≡ length (joined ahead ++ batch.body)
  pub raw_is : slice_get (commands batch.sender batch.number batch.body) (length batch.body) ≡ Some item.raw

pub batch_of_sync : (bs : List Batch) → AllBodies bs → (position : ℕ) (item : Item) → slice_get (all_items bs) position ≡ Some item
    → is_sync item.raw ≡ true → IsBatchOf bs position item
batch_of_sync [] bodies position item at sync = none_some item at
batch_of_sync (b ∷ bs) bodies position item at sync =
    let mine = batch_items b in
    let mine_raws = commands b.sender b.number b.body in
    elim (cases_lt position (length mine)) [
      | inl inside ↦
          let here : slice_get mine position ≡ Some item = sym (get_shorter mine (all_items bs) position inside) ∙ at in
          let is = item_of 0 b.sender b.number (commands b.sender b.number b.body) position item here in
          let end = at_end b.sender b.number b.body position item.raw bodies.0 is.raw_is sync in
          record {
            ahead = [];
            batch = b;
            behind = bs;
            whole = refl;
            sender_is = is.sender_is;
            number_is = is.number_is;
            position_is = end;
            raw_is = ap (slice_get mine_raws) (sym end) ∙ is.raw_is;
          }
      | inr beyond ↦
          let on : position ≡ length mine + (position - length mine) = omega (arith, beyond) in
          let there : slice_get (all_items bs) (position - length mine) ≡ Some item =
          sym (get_behind mine (all_items bs) (position - length mine)) ∙ ap (slice_get (all_items (b ∷ bs))) (sym on) ∙ at in
          let r = batch_of_sync bs bodies.1 (position - length mine) item there sync in
          record {
            ahead = b ∷ r.ahead;
            batch = r.batch;
            behind = r.behind;
            whole = ap (λ l. b ∷ l) r.whole;
            sender_is = r.sender_is;
            number_is = r.number_is;
            position_is =
                let last = r.position_is in
                let first : length mine ≡ length mine_raws = sym (length-map mine (λ (x : Item). x.raw)) ∙ ap length (raws_of_batch b) in
                let near = length-append (joined r.ahead) r.batch.body in
                let far = length-append (mine_raws ++ joined r.ahead) r.batch.body in
                let both = length-append mine_raws (joined r.ahead) in
                omega (arith, beyond, last, first, near, far, both);
            raw_is = r.raw_is;
          }
    ]

-- ---- what a reserved command with the sync's opcode is

-- the sync of its sender and of its number
pub record IsSyncOf (item : Item) : Type 0 where
  pub number : ℕ
  pub number_is : item.number ≡ Some number
  pub raw_is : item.raw ≡ sync_raw item.sender number

sync_of : (s : ℕ) (number : Option ℕ) (body : List Raw) (item : Item) → item.sender ≡ s → item.number ≡ number
    → slice_get (commands s number body) (length body) ≡ Some item.raw → IsSyncOf item
sync_of s None body item sender_is number_is at =
    let inside = slice_get_within body (length body) item.raw at in absurd (omega (arith, inside))
sync_of s (Some number) body item sender_is number_is at =
    let last : slice_get (body ++ sync_raw s number ∷ []) (length body + 0) ≡ Some (sync_raw s number) = get_behind body (sync_raw s number ∷ []) 0 in
    let here : length body + 0 ≡ length body = omega arith in
    let raw : item.raw ≡ sync_raw s number = same_Some item.raw (sync_raw s number) (sym at ∙ ap (slice_get (body ++ sync_raw s number ∷ [])) (sym here) ∙ last) in
    record { number = number; number_is = number_is; raw_is = raw ∙ ap (λ t. sync_raw t number) (sym sender_is) }

pub sync_at : (ring : Ring) (run : Run) → IsRun ring run → (position : ℕ) (item : Item) → slice_get (world run).reserved position ≡ Some item
    → is_sync item.raw ≡ true → IsSyncOf item
sync_at ring run ok position item at sync =
    let there = ap (λ l. slice_get l position) (sym (is_read run).reserved) ∙ at in
    let r = batch_of_sync (batches run) (is_kept ring run ok).bodies position item there sync in
    sync_of r.batch.sender r.batch.number r.batch.body item r.sender_is r.number_is r.raw_is

-- ---- the numbers of the syncs in the reserved list

-- the numbers of a sender's syncs
abbrev pub sync_numbers : ℕ → List Item → List ℕ
sync_numbers s [] = []
sync_numbers s (item ∷ items) = cond (s == item.sender && is_sync item.raw) (number_of item.number (sync_numbers s items)) (sync_numbers s items)

none_in_body : (s place t : ℕ) (number : Option ℕ) (body : List Raw) (rest : List Item) → list_any is_sync body ≡ false
    → sync_numbers s (items_from place t number body ++ rest) ≡ sync_numbers s rest
none_in_body s place t number [] rest no_sync = refl
none_in_body s place t number (raw ∷ body) rest no_sync =
    let both = or_parts (is_sync raw) (list_any is_sync body) no_sync in
    let here : (s == t && is_sync raw) ≡ false = ap (λ b. s == t && b) both.0 ∙ and-false (s == t) in
    ap (λ b. cond b (number_of number (sync_numbers s (items_from (suc place) t number body ++ rest))) (sync_numbers s (items_from (suc place) t number body ++ rest))) here
    ∙ none_in_body s (suc place) t number body rest both.1

items_append : (place t : ℕ) (number : Option ℕ) (xs ys : List Raw) → items_from place t number (xs ++ ys) ≡ items_from place t number xs ++ items_from (place + length xs) t number ys
items_append place t number [] ys = ap (λ p. items_from p t number ys) (let z : place ≡ place + 0 = omega arith in z)
items_append place t number (x ∷ xs) ys =
    let on : suc place + length xs ≡ place + suc (length xs) = omega arith in
    ap (λ l. record { sender = t; number = number; place = place; raw = x } ∷ l)
    (items_append (suc place) t number xs ys ∙ ap (λ p. items_from (suc place) t number xs ++ items_from p t number ys) on)

of_batch : (s t : ℕ) (number : Option ℕ) (body : List Raw) (rest : List Item) → IsBody body
    → sync_numbers s (items t number body ++ rest) ≡ cond (s == t) (number_of number (sync_numbers s rest)) (sync_numbers s rest)
of_batch s t None body rest is = none_in_body s 0 t None body rest is.no_sync ∙ same (s == t) (sync_numbers s rest)
  where
    same : (b : Bool) (l : List ℕ) → l ≡ cond b l l
    same true l = refl
    same false l = refl
of_batch s t (Some number) body rest is =
    let sync = sync_raw t number in
    let last : List Item = items_from (length body) t (Some number) (sync ∷ []) in
    ap (λ l. sync_numbers s (l ++ rest)) (items_append 0 t (Some number) body (sync ∷ []) ∙ ap (λ p. items_from 0 t (Some number) body ++ items_from p t (Some number) (sync ∷ [])) (let z : 0 + length body ≡ length body = omega arith in z))
    ∙ ap (sync_numbers s) (append_assoc (items_from 0 t (Some number) body) last rest)
    ∙ none_in_body s 0 t (Some number) body (last ++ rest) is.no_sync
    ∙ ap (λ b. cond (s == t && b) (number ∷ sync_numbers s rest) (sync_numbers s rest)) (sync_opcode t number)
    ∙ ap (λ b. cond b (number ∷ sync_numbers s rest) (sync_numbers s rest)) (and_true (s == t))
  where
    and_true : (b : Bool) → (b && true) ≡ b
    and_true true = refl
    and_true false = refl

of_batches : (s : ℕ) (bs : List Batch) → AllBodies bs → sync_numbers s (all_items bs) ≡ numbers s bs
of_batches s [] all = refl
of_batches s (b ∷ bs) all =
    of_batch s b.sender b.number b.body (all_items bs) all.0
    ∙ ap (λ l. cond (s == b.sender) (number_of b.number l) l) (of_batches s bs all.1)

-- A sender's syncs are numbered 1, 2, 3 and so on, as many as its trail says.
pub syncs_numbered : (ring : Ring) (run : Run) → IsRun ring run → (s : ℕ) → sync_numbers s (world run).reserved ≡ counted 1 (numbers_given (trail_of (Sender s) run))
syncs_numbered ring run ok s =
    let kept = is_kept ring run ok in
    ap (sync_numbers s) (is_read run).reserved ∙ of_batches s (batches run) kept.bodies ∙ kept.numbers s
