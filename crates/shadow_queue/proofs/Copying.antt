-- What is copied out of memory.
use Rattle.std.proofs.Common.{◌≡◌, ℕ, zero, suc, ◌+◌, ◌-◌, ◌<◌, ◌≤◌, List, [], ◌∷◌, ◌++◌, length, Some, refl, ap, ap₂, sym, subst, ◌∙◌, arith, add-one, append-nil, length-append, length-drop}
use Rattle.std.proofs.lemmas.List.{drop_all, drop_more, length-take-le}
use Rattle.std.proofs.lemmas.Option.{slice_get-get_or, slice_get_within}
use Rattle.std.specs.Prelude.{slice_get, slice_index_or, Contains, drop, take}
use Rattle.cmdcodec.specs.declared.raw.Raw.{Raw}
use Rattle.qindex.specs.Positions.{IndexValue, place, index_of}
use Rattle.hardware_queue.specs.Queues.{QueueValue, plain_sync, in_memory}
use Rattle.hardware_queue.specs.declared.forwarded.Forwarded.{Forwarded}
use Rattle.hardware_queue.specs.declared.forwarded.Forwarded.TheVariants.{Empty, Drained, Unwritten, Full, Shown, Replaced, Broken}
use Rattle.hardware_queue.specs.Standing.{Stands}
use Rattle.hardware_queue.specs.Steps.{ForwarderValue, HasForwarded}
use Rattle.shadow_queue.specs.declared.placement.Placement.{Placement}
use Rattle.shadow_queue.specs.Placing.{IsPlaced, count_shown}
use Rattle.shadow_queue.specs.Shadows.{IsUnlostFrom, IsShadow}
use Rattle.shadow_queue.specs.Messages.{message_of}

some_same : {A : Type 0} (a b : A) → Some a ≡ Some b → a ≡ b
some_same a b is = cc

in_memory_more : (g : ℕ) (m : List Raw) (t n : ℕ) → in_memory g m t (suc n) ≡ in_memory g m t n ++ slice_index_or m (place g (t + n)) plain_sync ∷ []
in_memory_more g m t zero = ap (λ (p : ℕ). slice_index_or m (place g p) plain_sync ∷ []) (omega arith)
in_memory_more g m t (suc n) =
    ap (λ (xs : List Raw). slice_index_or m (place g t) plain_sync ∷ xs)
    (in_memory_more g m (suc t) n ∙ ap (λ (p : ℕ). in_memory g m (suc t) n ++ slice_index_or m (place g p) plain_sync ∷ []) (omega arith))

pub copied_more : (g : ℕ) (m so_far new : List Raw) (t : ℕ) (n slot : ℕ) (d : Raw) → so_far ≡ in_memory g m t n → new ≡ so_far ++ slice_index_or m slot d ∷ [] → slot ≡ place g (t + n) → slot < length m
    → new ≡ in_memory g m t (n + 1)
copied_more g m so_far new t n slot d is more there inside =
    let same : slice_index_or m slot d ≡ slice_index_or m slot plain_sync = some_same _ _ (sym (slice_get-get_or m slot d inside) ∙ slice_get-get_or m slot plain_sync inside) in
    more ∙ ap₂ (λ (xs : List Raw) (x : Raw). xs ++ x ∷ []) is (same ∙ ap (λ (k : ℕ). slice_index_or m k plain_sync) there) ∙ sym (in_memory_more g m t n) ∙ ap (in_memory g m t) (sym (add-one n))

-- What stands in memory of the commands that were shown last is these, where none of them is lost.
newest_stand : (q : QueueValue) → Stands q → (t n : ℕ) → t + n ≡ length q.shown → q.consumed ≤ t → IsUnlostFrom t q → in_memory q.geometry q.memory t n ≡ drop t q.shown
newest_stand q stands t zero all order unlost = sym (drop_all t q.shown (omega (arith, all)))
newest_stand q stands t (suc n) all order unlost =
    let x : Raw = slice_index_or q.shown t plain_sync in
    let at : slice_get q.shown t ≡ Some x = slice_get-get_or q.shown t plain_sync (omega (arith, all)) in
    let there : slice_get q.memory (place q.geometry t) ≡ Some x = stands t x order at (λ lost. let low = unlost t lost in absurd (omega (arith, low))) in
    let inside = slice_get_within q.memory (place q.geometry t) x there in
    let one : slice_index_or q.memory (place q.geometry t) plain_sync ≡ x = some_same _ _ (sym (slice_get-get_or q.memory (place q.geometry t) plain_sync inside) ∙ there) in
    ap₂ (λ (y : Raw) (ys : List Raw). y ∷ ys) one (newest_stand q stands (suc t) n (omega (arith, all)) (omega (arith, order)) (λ p lost. let low = unlost p lost in omega (arith, low)))
    ∙ sym (drop_more q.shown t plain_sync (omega (arith, all)) ∙ ap (λ (k : ℕ). x ∷ drop k q.shown) (add-one t))

pub newest_of : (q : QueueValue) (prod cons : IndexValue) (t n : ℕ) → IsShadow q prod cons → t + n ≡ length q.shown → q.consumed ≤ t → IsUnlostFrom t q → in_memory q.geometry q.memory t n ≡ drop t q.shown
newest_of q prod cons t n is all order unlost = newest_stand q is.stands t n all order unlost

drop-append : (xs ys : List Raw) → drop (length xs) (xs ++ ys) ≡ ys
drop-append [] ys = refl
drop-append (x ∷ xs) ys = drop-append xs ys

pub own_geometry : (i : IndexValue) (g p : ℕ) → i ≡ index_of g p → i ≡ index_of i.geometry p
own_geometry i g p is = is ∙ ap (λ (k : ℕ). index_of k p) (sym (ap (λ (j : IndexValue). j.geometry) is))

-- ---- a call of forward

as_long : (q r : QueueValue) → r ≡ q → length r.shown ≡ length q.shown + 0
as_long q r same = let l = ap (λ (x : QueueValue). length x.shown) same in omega (arith, l)

-- So many more were shown as the answer says.
pub longer : (old new : ForwarderValue QueueValue) (answer : Forwarded) → HasForwarded (λ (q : QueueValue). q) old new answer → length new.owner.queue.shown ≡ length old.owner.queue.shown + count_shown answer
longer old new Empty has = as_long _ _ has.untouched
longer old new Drained has = as_long _ _ has.untouched
longer old new Unwritten has = as_long _ _ has.untouched
longer old new Full has = as_long _ _ (ap (λ (f : ForwarderValue QueueValue). f.owner.queue) has.1)
longer old new (Broken word) has = as_long _ _ (ap (λ (f : ForwarderValue QueueValue). f.owner.queue) has.1)
longer old new (Replaced raw) has = as_long _ _ has.done.untouched
longer old new (Shown count) has =
    let done = has.done in
    let w = done.whole in
    let l = ap (λ (x : QueueValue). length x.shown) done.pushed.new_is ∙ length-append old.owner.queue.shown (take count done.all) in
    let long : length (take count done.all) ≡ count = length-take-le count done.all (omega (arith, w)) in
    omega (arith, l, long)

same_shown : (q r : QueueValue) → r ≡ q → r.shown ≡ q.shown ++ []
same_shown q r same = ap (λ (x : QueueValue). x.shown) same ∙ sym (append-nil q.shown)

-- What was shown before stands ahead of what was shown since.
shown_since : (old new : ForwarderValue QueueValue) (answer : Forwarded) → HasForwarded (λ (q : QueueValue). q) old new answer → (since : List Raw) × (new.owner.queue.shown ≡ old.owner.queue.shown ++ since)
shown_since old new Empty has = ([], same_shown _ _ has.untouched)
shown_since old new Drained has = ([], same_shown _ _ has.untouched)
shown_since old new Unwritten has = ([], same_shown _ _ has.untouched)
shown_since old new Full has = ([], same_shown _ _ (ap (λ (f : ForwarderValue QueueValue). f.owner.queue) has.1))
shown_since old new (Broken word) has = ([], same_shown _ _ (ap (λ (f : ForwarderValue QueueValue). f.owner.queue) has.1))
shown_since old new (Replaced raw) has = ([], same_shown _ _ has.done.untouched)
shown_since old new (Shown count) has = (take count has.done.all, ap (λ (x : QueueValue). x.shown) has.done.pushed.new_is)

pub shown_more : (old new : ForwarderValue QueueValue) (answer : Forwarded) → HasForwarded (λ (q : QueueValue). q) old new answer
    → new.owner.queue.shown ≡ old.owner.queue.shown ++ drop (length new.owner.queue.shown - count_shown answer) new.owner.queue.shown
shown_more old new answer has =
    let q : QueueValue = old.owner.queue in
    let r : QueueValue = new.owner.queue in
    let l = longer old new answer has in
    let start : length r.shown - count_shown answer ≡ length q.shown = omega (arith, l) in
    let is = shown_since old new answer has in
    is.1 ∙ ap (λ (l : List Raw). q.shown ++ l) (sym (ap (λ (k : ℕ). drop k r.shown) start ∙ ap (drop (length q.shown)) is.1 ∙ drop-append q.shown is.0))

-- None of those that were shown since is lost.
pub unlost_since : (old new : ForwarderValue QueueValue) (answer : Forwarded) → HasForwarded (λ (q : QueueValue). q) old new answer → IsUnlostFrom (length old.owner.queue.shown) old.owner.queue
    → new.owner.queue.lost ≡ old.owner.queue.lost → IsUnlostFrom (length new.owner.queue.shown - count_shown answer) new.owner.queue
unlost_since old new answer has unlost lost p gone =
    let l = longer old new answer has in
    let low = unlost p (subst (λ (l : List ℕ). Contains l p) lost gone) in
    omega (arith, l, low)

-- What is told of them.
pub placed : (old new : ForwarderValue QueueValue) (answer : Forwarded) (before after : List Raw) (told : Placement) → HasForwarded (λ (q : QueueValue). q) old new answer → IsUnlostFrom (length old.owner.queue.shown) old.owner.queue
    → new.owner.queue.lost ≡ old.owner.queue.lost → told.count ≡ count_shown answer
    → (IsUnlostFrom (length new.owner.queue.shown - told.count) new.owner.queue → after ≡ drop (length new.owner.queue.shown - told.count) new.owner.queue.shown ++ drop told.count before)
    → told.slot ≡ place old.owner.queue.geometry (length old.owner.queue.shown) → told.prod ≡ (index_of new.owner.queue.geometry (length new.owner.queue.shown)).number
    → told.message ≡ message_of (length old.owner.queue.shown + 1) old.owner.queue
    → IsPlaced before after old.owner.queue new.owner.queue told
placed old new answer before after told has unlost lost count tells slot prod message =
    let r : QueueValue = new.owner.queue in
    let commands : List Raw = drop (length r.shown - told.count) r.shown in
    let l = longer old new answer has in
    let many : told.count ≡ length commands = let d = length-drop (length r.shown - told.count) r.shown in omega (arith, l, count, d) in
    record {
      commands = commands;
      shown = subst (λ (k : ℕ). r.shown ≡ old.owner.queue.shown ++ drop (length r.shown - k) r.shown) (sym count) (shown_more old new answer has);
      count = many;
      buffer = tells (subst (λ (k : ℕ). IsUnlostFrom (length r.shown - k) r) (sym count) (unlost_since old new answer has unlost lost)) ∙ ap (λ (k : ℕ). commands ++ drop k before) many;
      slot = slot;
      prod = prod;
      message = message;
    }
