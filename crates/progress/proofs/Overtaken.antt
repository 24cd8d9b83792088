-- Before each lost exchange stands the event that overtook its sender.
use Rattle.std.proofs.Common.{◌≡◌, ◌≢◌, ℕ, Bool, true, false, cond, not, List, [], ◌∷◌, Option, Some, refl, sym, ap, ◌∙◌, inl, inr, ◌⊎◌, eqb-true, eq-eqb}
use Rattle.std.proofs.lemmas.Bool.{not-true}
use Rattle.std.proofs.lemmas.Option.{same_Some}
use Rattle.std.specs.Prelude.{◌==◌}
use Rattle.cmdcodec.specs.declared.raw.Raw.{Raw}
use Rattle.qindex.specs.declared.control.Control.{Control}
use Rattle.qindex.specs.Positions.{index_of}
use Rattle.qindex.specs.Indexes.{IsGeometry}
use Rattle.qindex.specs.Laws.{IndexesTellTheQueue}
use Rattle.ringcore.specs.declared.world.event.Who.{Who}
use Rattle.ringcore.specs.declared.world.event.Who.TheVariants.{Consumer, Sender}
use Rattle.ringcore.specs.declared.world.event.Event.{Event}
use Rattle.ringcore.specs.declared.world.event.Event.TheVariants.{Look, Won, Lost, Write, Flip, Test, Read, Advance, Close, Acknowledge, Ask}
use Rattle.ringcore.specs.world.Trails.{Trail, Run, same, trail_of, looked}
use Rattle.ringcore.specs.world.World.{World, tail, head, after, world, control}
use Rattle.ringcore.specs.world.Allowed.{Ring, MayLose, Allowed, IsRun}
use Rattle.ringcore.proofs.WorldLemmas.Lists.{off, none_some}
use Rattle.progress.specs.Contention.{is_change, overtakes, is_try, ChangeSince, WasOvertaken, ClosedItself, HasStaleLook, OvertakersAreOthers, EachLossHadAStaleLook}
use Rattle.progress.proofs.Changing.{changes_are_these}

-- an overtaking is a change
pub overtaking_changes : (s : ℕ) (w : World) (who : Who) (e : Event) → overtakes s w who e ≡ true → is_change w e ≡ true
overtaking_changes s w who (Look found) is = off is
overtaking_changes s w who (Won body number) is = refl
overtaking_changes s w who (Lost body closes found) is = off is
overtaking_changes s w who (Write offset half) is = off is
overtaking_changes s w who (Flip offset count) is = off is
overtaking_changes s w who (Test limit found) is = off is
overtaking_changes s w who (Read offset half word) is = off is
overtaking_changes s w who (Advance raws) is = refl
overtaking_changes s w who Close is = is
overtaking_changes s w who (Acknowledge sender number) is = off is
overtaking_changes s w who (Ask found) is = off is

others_close : (ring : Ring) (s : ℕ) (w : World) (mine : Trail) (who : Who) (e : Event) → Allowed ring w mine who e → overtakes s w who e ≡ true
    → (same (Sender s) who ≡ false) ⊎ (e ≡ Close)
others_close ring s w mine who (Look found) a is = off is
others_close ring s w mine who (Won body number) a is = inl (not-true (same (Sender s) who) is)
others_close ring s w mine who (Lost body closes found) a is = off is
others_close ring s w mine who (Write offset half) a is = off is
others_close ring s w mine who (Flip offset count) a is = off is
others_close ring s w mine who (Test limit found) a is = off is
others_close ring s w mine who (Read offset half word) a is = off is
others_close ring s w mine Consumer (Advance raws) a is = inl refl
others_close ring s w mine (Sender t) (Advance raws) a is = absurd a
others_close ring s w mine who Close a is = inr refl
others_close ring s w mine who (Acknowledge sender number) a is = off is
others_close ring s w mine who (Ask found) a is = off is

pub overtakers : OvertakersAreOthers
overtakers ring s w mine who e a is = (overtaking_changes s w who e is, others_close ring s w mine who e a is)

-- What sender s looked at, it looked at before this event too. Either the event overtook it, or it left the
-- control word as it was and isn't a try of this sender.
data Step (ring : Ring) (s : ℕ) (xs : Run) (who : Who) (e : Event) (c : Control) : Type 0 where
  by_it : looked (trail_of (Sender s) xs) ≡ Some c → overtakes s (world xs) who e ≡ true → Step ring s xs who e c
  before_it : looked (trail_of (Sender s) xs) ≡ Some c → c ≢ control ring.geometry (world xs) → (same (Sender s) who ≡ true → is_try e ≡ false) → Step ring s xs who e c

module _ (ring : Ring) (s : ℕ) (xs : Run) (c : Control) where
  abbrev w : World
  w = world xs

  abbrev mine : Trail
  mine = trail_of (Sender s) xs

  abbrev now : Control
  now = control ring.geometry w

  -- an event of the sender that isn't a try
  kept : (v : Bool) (e : Event) → ((t : Trail) → looked (e ∷ t) ≡ looked t) → looked (cond v (e ∷ mine) mine) ≡ Some c → looked mine ≡ Some c
  kept true e same is = sym (same mine) ∙ is
  kept false e same is = is

  looks : (t : ℕ) (v : Bool) → (s == t) ≡ v → (found : Control) → found ≡ now → looked (cond v (Look found ∷ mine) mine) ≡ Some c → c ≢ now → Step ring s xs (Sender t) (Look found) c
  looks t true at found is seen differs = absurd (differs (sym (same_Some found c seen) ∙ is))
  looks t false at found is seen differs = before_it seen differs (λ here. off (sym at ∙ here))

  won : (t : ℕ) (v : Bool) → (s == t) ≡ v → (body : List Raw) (number : Option ℕ) → looked (cond v (Won body number ∷ mine) mine) ≡ Some c → Step ring s xs (Sender t) (Won body number) c
  won t true at body number seen = none_some c seen
  won t false at body number seen = by_it seen (ap not at)

  lost : (t : ℕ) (v : Bool) → (s == t) ≡ v → (body : List Raw) (closes : Bool) (found : Control) → looked (cond v (Lost body closes found ∷ mine) mine) ≡ Some c → c ≢ now
      → Step ring s xs (Sender t) (Lost body closes found) c
  lost t true at body closes found seen differs = none_some c seen
  lost t false at body closes found seen differs = before_it seen differs (λ here. off (sym at ∙ here))

  closes_it : (t : ℕ) (v : Bool) → w.closed ≡ v → looked (cond (s == t) (Close ∷ mine) mine) ≡ Some c → c ≢ control ring.geometry (after w (Sender t) Close) → Step ring s xs (Sender t) Close c
  closes_it t true is seen differs =
      let same : now ≡ control ring.geometry (after w (Sender t) Close) = ap (λ b. record { prod = index_of ring.geometry (tail w); cons = index_of ring.geometry (head w); closed = b }) is in
      before_it (kept (s == t) Close (λ u. refl) seen) (λ e. differs (e ∙ same)) (λ here. refl)
  closes_it t false is seen differs = by_it (kept (s == t) Close (λ u. refl) seen) (ap not is)

  step : (who : Who) (e : Event) → Allowed ring w (trail_of who xs) who e → looked (trail_of (Sender s) ((who, e) ∷ xs)) ≡ Some c
      → c ≢ control ring.geometry (world ((who, e) ∷ xs)) → Step ring s xs who e c
  step Consumer (Look found) a seen differs = before_it seen differs (λ here. off here)
  step Consumer (Won body number) a seen differs = absurd a
  step Consumer (Lost body closes found) a seen differs = absurd a
  step Consumer (Write offset half) a seen differs = absurd a
  step Consumer (Flip offset count) a seen differs = absurd a
  step Consumer (Test limit found) a seen differs = before_it seen differs (λ here. refl)
  step Consumer (Read offset half word) a seen differs = before_it seen differs (λ here. refl)
  step Consumer (Advance raws) a seen differs = by_it seen refl
  step Consumer Close a seen differs = absurd a
  step Consumer (Acknowledge sender number) a seen differs = before_it seen differs (λ here. refl)
  step Consumer (Ask found) a seen differs = absurd a
  step (Sender t) (Look found) a seen differs = looks t (s == t) refl found a seen differs
  step (Sender t) (Won body number) a seen differs = won t (s == t) refl body number seen
  step (Sender t) (Lost body closes found) a seen differs = lost t (s == t) refl body closes found seen differs
  step (Sender t) (Write offset half) a seen differs = before_it (kept (s == t) (Write offset half) (λ u. refl) seen) differs (λ here. refl)
  step (Sender t) (Flip offset count) a seen differs = before_it (kept (s == t) (Flip offset count) (λ u. refl) seen) differs (λ here. refl)
  step (Sender t) (Test limit found) a seen differs = absurd a
  step (Sender t) (Read offset half word) a seen differs = absurd a
  step (Sender t) (Advance raws) a seen differs = absurd a
  step (Sender t) Close a seen differs = closes_it t w.closed refl seen differs
  step (Sender t) (Acknowledge sender number) a seen differs = absurd a
  step (Sender t) (Ask found) a seen differs = before_it (kept (s == t) (Ask found) (λ u. refl) seen) differs (λ here. refl)

-- an overtaking is no try of the sender itself
no_try : (s : ℕ) (w : World) (who : Who) (e : Event) → overtakes s w who e ≡ true → same (Sender s) who ≡ true → is_try e ≡ false
no_try s w who (Look found) is here = off is
no_try s w who (Won body number) is here = off (sym (not-true (same (Sender s) who) is) ∙ here)
no_try s w who (Lost body closes found) is here = off is
no_try s w who (Write offset half) is here = refl
no_try s w who (Flip offset count) is here = refl
no_try s w who (Test limit found) is here = refl
no_try s w who (Read offset half word) is here = refl
no_try s w who (Advance raws) is here = refl
no_try s w who Close is here = refl
no_try s w who (Acknowledge sender number) is here = refl
no_try s w who (Ask found) is here = refl

-- whose seat it is
another : (s : ℕ) (who : Who) → same (Sender s) who ≡ false → who ≢ Sender s
another s who is e = off (sym is ∙ ap (same (Sender s)) e ∙ eq-eqb s s refl)

itself : (s : ℕ) (who : Who) → same (Sender s) who ≡ true → who ≡ Sender s
itself s Consumer is = off is
itself s (Sender t) is = ap Sender (sym (eqb-true s t is))

pub stale : IndexesTellTheQueue → (ring : Ring) → IsGeometry ring.geometry → (s : ℕ) (c : Control) (run : Run) → IsRun ring run
    → looked (trail_of (Sender s) run) ≡ Some c → c ≢ control ring.geometry (world run) → HasStaleLook ring s run
stale queue ring geometry s c [] ok seen differs = none_some c seen
stale queue ring geometry s c (x ∷ xs) ok seen differs =
    by_step (step ring s xs c x.0 x.1 ok.1 seen differs) (stale queue ring geometry s c xs ok.0)
  where
    by_it_here : overtakes s (world xs) x.0 x.1 ≡ true → ChangeSince ring.geometry xs (x ∷ xs)
    by_it_here is = record {
      later = [];
      who = x.0;
      event = x.1;
      earlier = [];
      run_is = refl;
      changed = (changes_are_these queue ring xs x.0 x.1 geometry ok.0 ok.1).1 (overtaking_changes s (world xs) x.0 x.1 is);
    }

    whose : (v : Bool) → same (Sender s) x.0 ≡ v → overtakes s (world xs) x.0 x.1 ≡ true → WasOvertaken ring.geometry (Sender s) xs (x ∷ xs) ⊎ ClosedItself ring.geometry s xs (x ∷ xs)
    whose false here is = inl (by_it_here is, another s x.0 here)
    whose true here is = elim (others_close ring s (world xs) (trail_of x.0 xs) x.0 x.1 ok.1 is) [
      | inl other ↦ off (sym other ∙ here)
      | inr close ↦ inr (by_it_here is, itself s x.0 here, close)
    ]

    one_later : (older : Run) → ChangeSince ring.geometry older xs → ChangeSince ring.geometry older (x ∷ xs)
    one_later older r = record { later = x ∷ r.later; who = r.who; event = r.event; earlier = r.earlier; run_is = ap (λ l. x ∷ l) r.run_is; changed = r.changed }

    also_later : (older : Run) → WasOvertaken ring.geometry (Sender s) older xs ⊎ ClosedItself ring.geometry s older xs
        → WasOvertaken ring.geometry (Sender s) older (x ∷ xs) ⊎ ClosedItself ring.geometry s older (x ∷ xs)
    also_later older (inl o) = inl (one_later older o.0, o.1)
    also_later older (inr own) = inr (one_later older own.0, own.1, own.2)

    by_step : Step ring s xs x.0 x.1 c → (looked (trail_of (Sender s) xs) ≡ Some c → c ≢ control ring.geometry (world xs) → HasStaleLook ring s xs) → HasStaleLook ring s (x ∷ xs)
    by_step (by_it at is) rest = record {
      newer = x ∷ [];
      older = xs;
      run_is = refl;
      since = (no_try s (world xs) x.0 x.1 is, tt);
      seen = c;
      looked = at;
      changed = whose (same (Sender s) x.0) refl is;
    }
    by_step (before_it at other none) rest =
        let r = rest at other in record {
          newer = x ∷ r.newer;
          older = r.older;
          run_is = ap (λ l. x ∷ l) r.run_is;
          since = (none, r.since);
          seen = r.seen;
          looked = r.looked;
          changed = also_later r.older r.changed;
        }

pub each_loss : IndexesTellTheQueue → EachLossHadAStaleLook
each_loss queue ring run s body closes found geometry ok =
    let a : MayLose ring (world run) (trail_of (Sender s) run) body closes found = ok.1 in
    stale queue ring geometry s a.before run ok.0 a.tries.looked_at (λ e. a.other (a.found_is ∙ sym e))
