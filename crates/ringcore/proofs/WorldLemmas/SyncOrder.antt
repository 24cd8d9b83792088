-- The closing syncs that are taken come in the order of their numbers.
use Rattle.std.proofs.Common.{◌≡◌, ℕ, ◌+◌, ◌<◌, Bool, true, false, cond, ◌==◌, ◌&&◌, List, [], ◌∷◌, ◌++◌, length, Some, refl, sym, ap, ap₂, ◌∙◌, subst, eq-eqb, append_assoc, arith}
use Rattle.std.specs.Prelude.{slice_get}
use Rattle.cmdcodec.specs.declared.raw.Raw.{Raw}
use Rattle.cmdcodec.specs.Opcodes.{is_sync}
use Rattle.ringcore.specs.declared.world.event.Who.TheVariants.{Sender}
use Rattle.ringcore.specs.world.Trails.{Run, same, trail_of, numbers_given}
use Rattle.ringcore.specs.world.World.{Item, World, world}
use Rattle.ringcore.specs.world.Delivery.{number_of, counted}
use Rattle.ringcore.specs.world.Laws.{IsOne, OnlyOf, syncs_in, SyncsComeInOrder}
use Rattle.ringcore.proofs.WorldLemmas.Lists.{get_longer, get_behind}
use Rattle.ringcore.proofs.WorldLemmas.LookedControls.{same_is}
use Rattle.ringcore.proofs.WorldLemmas.Reading.{raws_of, is_read}
use Rattle.ringcore.proofs.WorldLemmas.Sound.{sound}
use Rattle.ringcore.proofs.WorldLemmas.Syncs.{IsSyncOf, sync_at, sync_numbers, syncs_numbered}
use Rattle.ringcore.proofs.WorldLemmas.SyncCounts.{numbers_append, AllSyncs, as_many, in_counted}

-- the item of a command among all that are reserved
record IsAmong (xs : List Item) (ahead : List Raw) (raw : Raw) : Type 0 where
  front : List Item
  item : Item
  rest : List Item
  is : xs ≡ front ++ item ∷ rest
  ahead_is : raws_of front ≡ ahead
  raw_is : item.raw ≡ raw

among : (xs : List Item) (ahead behind : List Raw) (raw : Raw) → raws_of xs ≡ ahead ++ raw ∷ behind → IsAmong xs ahead raw
among [] [] behind raw e = absurd (cc)
among [] (a ∷ ahead) behind raw e = absurd (cc)
among (x ∷ xs) [] behind raw e =
    let here : x.raw ≡ raw = cc in
    record { front = []; item = x; rest = xs; is = refl; ahead_is = refl; raw_is = here }
among (x ∷ xs) (a ∷ ahead) behind raw e =
    let one : x.raw ≡ a = cc in
    let more : raws_of xs ≡ ahead ++ raw ∷ behind = cc in
    let r = among xs ahead behind raw more in
    record { front = x ∷ r.front; item = r.item; rest = r.rest; is = ap (λ l. x ∷ l) r.is; ahead_is = ap₂ (λ y l. y ∷ l) one r.ahead_is; raw_is = r.raw_is }

-- A sender that has given a number has taken a step.
gave : (senders s : ℕ) (run : Run) → OnlyOf senders run → 0 < numbers_given (trail_of (Sender s) run) → s < senders
gave senders s [] only some = absurd (omega arith)
gave senders s (x ∷ xs) only some = by_seat (same (Sender s) x.0) refl some (gave senders s xs only.1)
  where
    by_seat : (v : Bool) → same (Sender s) x.0 ≡ v → 0 < numbers_given (cond v (x.1 ∷ trail_of (Sender s) xs) (trail_of (Sender s) xs))
        → (0 < numbers_given (trail_of (Sender s) xs) → s < senders) → s < senders
    by_seat true is some later = subst (IsOne senders) (sym (same_is (Sender s) x.0 is)) only.0
    by_seat false is some later = later some

pub come_in_order : SyncsComeInOrder
come_in_order ring senders run only ok ahead behind raw at sync =
    let w : World = world run in
    let begins = (sound ring run ok).delivered in
    let whole : raws_of w.reserved ≡ ahead ++ raw ∷ (behind ++ begins.0) =
    begins.1 ∙ ap (λ l. l ++ begins.0) ((is_read run).taken ∙ at) ∙ append_assoc ahead (raw ∷ behind) begins.0 in
    let r = among w.reserved ahead (behind ++ begins.0) raw whole in
    let item : Item = r.item in
    let s : ℕ = item.sender in
    let first_place : length r.front ≡ length r.front + 0 = omega arith in
    let position : slice_get w.reserved (length r.front) ≡ Some item =
    ap (λ l. slice_get l (length r.front)) r.is ∙ ap (slice_get (r.front ++ item ∷ r.rest)) first_place ∙ get_behind r.front (item ∷ r.rest) 0 in
    let its_kind : is_sync item.raw ≡ true = ap is_sync r.raw_is ∙ sync in
    let its : IsSyncOf item = sync_at ring run ok (length r.front) item position its_kind in
    let all : AllSyncs r.front = (λ p other there kind. sync_at ring run ok p other (ap (λ l. slice_get l p) r.is ∙ get_longer r.front (item ∷ r.rest) p other there) kind) in
    let its_own : (s == item.sender && is_sync item.raw) ≡ true = ap₂ (λ a b. a && b) (eq-eqb s item.sender refl) its_kind in
    let first : sync_numbers s (item ∷ r.rest) ≡ its.number ∷ sync_numbers s r.rest =
    ap (λ b. cond b (number_of item.number (sync_numbers s r.rest)) (sync_numbers s r.rest)) its_own ∙ ap (λ n. number_of n (sync_numbers s r.rest)) its.number_is in
    let given : ℕ = numbers_given (trail_of (Sender s) run) in
    let front = sync_numbers s r.front in
    let row : front ++ its.number ∷ sync_numbers s r.rest ≡ counted 1 given =
    ap (λ l. front ++ l) (sym first) ∙ sym (numbers_append s r.front (item ∷ r.rest)) ∙ ap (sync_numbers s) (sym r.is) ∙ syncs_numbered ring run ok s in
    let last_place : length front ≡ length front + 0 = omega arith in
    let there : slice_get (counted 1 given) (length front) ≡ Some its.number =
    ap (λ l. slice_get l (length front)) (sym row) ∙ ap (slice_get (front ++ its.number ∷ sync_numbers s r.rest)) last_place
    ∙ get_behind front (its.number ∷ sync_numbers s r.rest) 0 in
    let place = in_counted 1 given (length front) its.number there in
    let many : length front ≡ syncs_in s ahead = as_many s r.front all ∙ ap (syncs_in s) r.ahead_is in
    let number : its.number ≡ 1 + length front = place.0 in
    let low = place.1 in
    record {
      sender = s;
      number = its.number;
      known = gave senders s run only (omega arith);
      raw_is = sym r.raw_is ∙ its.raw_is;
      next = omega arith;
    }
