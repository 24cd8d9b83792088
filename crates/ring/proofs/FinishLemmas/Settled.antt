-- What a sender was told is settled, where just the closing syncs that are settled were acknowledged.
use Rattle.std.proofs.Common.{◌≡◌, ◌⊎◌, ⊎_elim, ℕ, zero, suc, ◌/◌, ◌^◌, ◌<◌, ◌≤◌, Bool, true, false, cond, ◌==◌, List, [], ◌∷◌, ◌++◌, length, take, Option, Some, refl, sym, ap, ◌∙◌, subst, append_assoc, append-nil, eqb-true, eq-eqb, arith}
use Rattle.std.specs.Prelude.{slice_get, drop}
use Rattle.ring.specs.Runs.{Raw, Consumer, Sender, Advance, Acknowledge, Ask, Run, Trail, trail_of, raws_by, acknowledged_by, world, sync_raw, Ring, IsRun, OnlyOf, Begins}
use Rattle.ring.specs.Runs.{advanced, EveryRun, TellsTheNumbers, TellsWhatIsAdvanced, TookSyncsInOrder, IsNextSync, SyncsTellTheirBatch, is_sync_to, syncs_in}
use Rattle.ring.specs.Finishing.{SummaryValue, WasTold, WasToldAll, reserved_ahead, WasToldOfSettled, AllToldOfSettled, IsEnd, IsDeferredEnd}
use Rattle.ring.specs.Rings.{RingValue}
use Rattle.ring.specs.sender.{SenderValue}
use Rattle.ring.specs.table.{PortValue}
use Rattle.ring.specs.consumer.{IsDeferring, consumer_of, without_device}

-- ---- a run goes on

earlier_run : (ring : Ring) (later earlier : Run) → IsRun ring (later ++ earlier) → IsRun ring earlier
earlier_run ring [] earlier is = is
earlier_run ring (x ∷ later) earlier is = earlier_run ring later earlier is.0

begins_later : (later earlier : Run) → Begins (advanced earlier) (advanced (later ++ earlier))
begins_later [] earlier = ([], sym (append-nil (advanced earlier)))
begins_later ((who, Advance raws) ∷ later) earlier =
    let so_far = begins_later later earlier in
    (so_far.0 ++ raws, ap (λ (l : List Raw). l ++ raws) so_far.1 ∙ append_assoc (advanced earlier) so_far.0 raws)
begins_later ((who, e) ∷ later) earlier = begins_later later earlier

-- A number that was acknowledged stays so, or a greater one is.
next_is_more : (v : Bool) (s t n old : ℕ) (acknowledged : ℕ → ℕ) → (s == t) ≡ v → n ≡ suc (acknowledged t) → old ≤ acknowledged s → old ≤ cond v n (acknowledged s)
next_is_more true s t n old acknowledged is next less =
    let same : acknowledged s ≡ acknowledged t = ap acknowledged (eqb-true s t is) in omega (arith, same, next, less)
next_is_more false s t n old acknowledged is next less = less

acknowledged_later : (ring : Ring) (s : ℕ) (later earlier : Run) → IsRun ring (later ++ earlier) → (world earlier).acknowledged s ≤ (world (later ++ earlier)).acknowledged s
acknowledged_later ring s [] earlier is = omega arith
acknowledged_later ring s ((Consumer, Acknowledge t n) ∷ later) earlier is =
    next_is_more (s == t) s t n ((world earlier).acknowledged s) (world (later ++ earlier)).acknowledged refl is.1.next (acknowledged_later ring s later earlier is.0)
acknowledged_later ring s ((Sender u, Acknowledge t n) ∷ later) earlier is = absurd is.1
acknowledged_later ring s ((who, e) ∷ later) earlier is = acknowledged_later ring s later earlier is.0

-- ---- a closing sync among those that are settled

-- what comes behind a beginning, from its first
behind : (xs rest : List Raw) (x : Raw) → slice_get (xs ++ rest) (length xs) ≡ Some x → rest ≡ x ∷ drop 1 rest
behind [] [] x at = absurd (cc)
behind [] (y ∷ rest) x at = let same : y ≡ x = cc in ap (λ (z : Raw). z ∷ rest) same
behind (y ∷ xs) rest x at = behind xs rest x at

get_longer : (xs ys : List Raw) (i : ℕ) (x : Raw) → slice_get xs i ≡ Some x → slice_get (xs ++ ys) i ≡ Some x
get_longer [] ys i x at = absurd (cc)
get_longer (y ∷ xs) ys zero x at = at
get_longer (y ∷ xs) ys (suc i) x at = get_longer xs ys i x at

-- no more syncs are in a part of a list
less_of : (v : Bool) (few more : ℕ) → few ≤ more → cond v (suc few) few ≤ cond v (suc more) more
less_of true few more less = omega (arith, less)
less_of false few more less = less

none_of : (v : Bool) (n : ℕ) → 0 ≤ cond v (suc n) n
none_of v n = omega arith

syncs_in_part : (s : ℕ) (xs ys : List Raw) (n : ℕ) → n ≤ length xs → syncs_in s (take n (xs ++ ys)) ≤ syncs_in s xs
syncs_in_part s [] ys zero few = omega arith
syncs_in_part s [] ys (suc n) few = absurd (omega (arith, few))
syncs_in_part s (x ∷ xs) ys zero few = none_of (is_sync_to s x) (syncs_in s xs)
syncs_in_part s (x ∷ xs) ys (suc n) few = less_of (is_sync_to s x) _ _ (syncs_in_part s xs ys n (omega (arith, few)))

-- a part that reaches beyond an element has it
reaches : (xs ys : List Raw) (y : Raw) (n : ℕ) → length xs < n → Begins (xs ++ y ∷ []) (take n (xs ++ y ∷ ys))
reaches [] ys y zero low = absurd (omega (arith, low))
reaches [] ys y (suc n) low = (take n ys, refl)
reaches (x ∷ xs) ys y zero low = absurd (omega (arith, low))
reaches (x ∷ xs) ys y (suc n) low = let rest = reaches xs ys y n (omega (arith, low)) in (rest.0, ap (λ (l : List Raw). x ∷ l) rest.1)

by_order : (n m : ℕ) → (n ≤ m) ⊎ (m < n)
by_order n m = grind arith

module _ (words : SyncsTellTheirBatch) (s number n : ℕ) (first rest : List Raw) (next : IsNextSync n first (sync_raw s number)) where
  -- a closing sync's number is one more than there are before it
  pub counted : number ≡ suc (syncs_in s first)
  counted =
      let its = words s number in
      let theirs = words next.sender next.number in
      let number_is : number ≡ next.number = sym its.number_is ∙ ap (λ (r : Raw). r.lo / 2 ^ 32) next.raw_is ∙ theirs.number_is in
      let to_own : is_sync_to s (sync_raw s number) ≡ true = its.sender_is s ∙ eq-eqb s s refl in
      let to_next : (s == next.sender) ≡ true = sym (theirs.sender_is s) ∙ ap (is_sync_to s) (sym next.raw_is) ∙ to_own in
      number_is ∙ next.next ∙ ap (λ (u : ℕ). suc (syncs_in u first)) (sym (eqb-true s next.sender to_next))

-- ---- a sender was told

module _ (words : SyncsTellTheirBatch) (advances : EveryRun TellsWhatIsAdvanced) (numbers : EveryRun TellsTheNumbers) (order : TookSyncsInOrder) (ring : Ring) (run : Run) (trail : Trail) (settled : ℕ)
    (is_a_run : IsRun ring run) (only : OnlyOf ring.senders run) (trail_is : trail_of Consumer run ≡ trail) (deferring : IsDeferring trail settled) where
  pub told_of_settled : (s told : ℕ) (older : Trail) → WasTold run s told older → WasToldOfSettled (take settled (raws_by trail)) run s told older
  told_of_settled s told older was = record {
    was_told = was;
    settled_are = λ number some most.
        let applied = was.applied number some most in
        let first : List Raw = reserved_ahead applied in
        let sync : Raw = sync_raw s number in
        let all : List Raw = raws_by trail in
        let ask : Run = (Sender s, Ask told) ∷ was.earlier in
        let all_is : advanced run ≡ all = advances ring run is_a_run ∙ ap raws_by trail_is in
        let whole = subst (λ (r : Run). IsRun ring r) was.run_is is_a_run in
        let up_to_now = subst (λ (r : Run). Begins (advanced was.earlier) (advanced r)) (sym was.run_is) (begins_later was.later ask) in
        let front = applied.completed.all_ahead in
        let at : slice_get (first ++ front.0) (length first) ≡ Some sync = subst (λ (l : List Raw). slice_get l (length first) ≡ Some sync) front.1 applied.completed.sync in
        let front_is : front.0 ≡ sync ∷ drop 1 front.0 = behind first front.0 sync at in
        let more : List Raw = drop 1 front.0 ++ up_to_now.0 in
        let split : all ≡ first ++ sync ∷ more =
        sym all_is ∙ up_to_now.1 ∙ ap (λ (l : List Raw). l ++ up_to_now.0) (front.1 ∙ ap (λ (l : List Raw). first ++ l) front_is)
        ∙ append_assoc first (sync ∷ drop 1 front.0) up_to_now.0 in
        let next = order ring ring.senders run only is_a_run first more sync (ap raws_by trail_is ∙ split) (words s number).opcode in
        let count : number ≡ suc (syncs_in s first) = counted words s number ring.senders first more next in
        let asked : told ≡ (world was.earlier).acknowledged s = (earlier_run ring was.later ask whole).1 in
        let kept : (world was.earlier).acknowledged s ≤ (world run).acknowledged s =
        subst (λ (r : Run). (world was.earlier).acknowledged s ≤ (world r).acknowledged s) (sym was.run_is) (acknowledged_later ring s was.later ask whole) in
        let now : (world run).acknowledged s ≡ syncs_in s (take settled all) = numbers ring run is_a_run s ∙ ap (acknowledged_by s) trail_is ∙ deferring.current s in
        subst (λ (l : List Raw). Begins (first ++ sync ∷ []) (take settled l)) (sym split)
        (⊎_elim
        (λ (low : settled ≤ length first).
        let part : syncs_in s (take settled all) ≤ syncs_in s first = subst (λ (l : List Raw). syncs_in s (take settled l) ≤ syncs_in s first) (sym split) (syncs_in_part s first (sync ∷ more) settled low) in
        absurd (omega (arith, part, now, kept, asked, most, count)))
        (λ (high : length first < settled). reaches first more sync settled high)
        (by_order settled (length first)));
  }

  pub all_told_of_settled : (s : ℕ) (own : Trail) → WasToldAll run s own → AllToldOfSettled (take settled (raws_by trail)) run s own
  all_told_of_settled s own was newer older number at = told_of_settled s number older (was newer older number at)

-- ---- the end

-- The device that was lent last says nothing of the end.
pub with_device : {D : Type 0} (ring : RingValue) (senders : List SenderValue) (p : PortValue) (lent : Option D) (end : SummaryValue) → IsEnd ring senders (without_device p) end
    → IsEnd ring senders (consumer_of p lent) end
with_device ring senders p lent end is = record {
  run = is.run;
  run_of = record {
    run_is = is.run_of.run_is;
    only = is.run_of.only;
    of_senders = is.run_of.of_senders;
    of_consumer = is.run_of.of_consumer;
    known_to_senders = is.run_of.known_to_senders;
    known_to_consumer = is.run_of.known_to_consumer;
  };
  delivery = is.delivery;
  merge = is.merge;
  taken_in_order = is.taken_in_order;
  taken_list = is.taken_list;
  told = is.told;
  reserved = is.reserved;
  taken = is.taken;
  closed = is.closed;
  whole = is.whole;
  drained = is.drained;
  lost = is.lost;
}

pub deferred_end : {D : Type 0} → SyncsTellTheirBatch → EveryRun TellsWhatIsAdvanced → EveryRun TellsTheNumbers → TookSyncsInOrder → (ring : RingValue) (senders : List SenderValue) (p : PortValue) (lent : Option D) (raws : List Raw) (settled : ℕ)
    (end : SummaryValue) → p.ring ≡ ring → IsDeferring p.trail settled → IsEnd ring senders (without_device p) end
    → IsDeferredEnd ring senders (record { consumer = consumer_of p lent; raws = raws; settled = settled }) end
unfolding with_device
deferred_end words advances numbers order ring senders p lent raws settled end own is_deferring is = record {
  end_is = with_device ring senders p lent end is;
  settled = λ k s at newer older number told.
      told_of_settled words advances numbers order ring.made_with is.run p.trail settled is.run_of.run_is is.run_of.only is.run_of.of_consumer is_deferring
      k number older (is.told k s at newer older number told);
}
