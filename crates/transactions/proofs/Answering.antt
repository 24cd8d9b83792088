-- What becomes of what a walk read, by what is kept.
use Rattle.std.proofs.Common.{◌≡◌, ◌≤◌, ◌<◌, ℕ, List, [], ◌++◌, length, Option, Some, None, Result, Ok, Err, refl, sym, ap, subst, ◌∙◌, arith, append-nil, ⊎_elim}
use Rattle.std.specs.FinMap as finite
use Rattle.ringcore.specs.world.World.{Taken}
use Rattle.caches.specs.declared.tag.Tag.{Tag}
use Rattle.caches.specs.declared.tag.Entry.{Entry}
use Rattle.caches.specs.declared.fault.CacheFault.{CacheFault}
use Rattle.caches.specs.declared.fault.CacheFault.TheVariants.{BadBlock}
use Rattle.caches.specs.Blocks.{IsBlock}
use Rattle.caches.specs.Stored.{Stored, IsFillAnswer}
use Rattle.std.specs.Result.{OnOk, OnErr}
use Rattle.engine.specs.Units.{UnitValue, with_entries}
use Rattle.engine.specs.Counting.{taken}
use Rattle.engine.specs.Settled.{HasCovered, IsSettledEntry, StaysSettledWith}
use Rattle.transactions.specs.declared.walk.WalkFault.{WalkFault}
use Rattle.transactions.specs.declared.walk.WalkFault.TheVariants.{Overtaken, TooOld, OtherUnit, Refused}
use Rattle.transactions.specs.declared.recent_invalidations.Invalidation.{Invalidation}
use Rattle.transactions.specs.RecentInvalidations.{IsBeforeOldest, HasCovering}
use Rattle.transactions.specs.Since.{HasCoveredSince, IsTooOld}
use Rattle.transactions.specs.Tracking.{TrackedValue, IsTracked}
use Rattle.transactions.specs.Between.{IsRefusal}
use Rattle.transactions.specs.Walks.{IsWalkAnswer}
use Rattle.transactions.specs.Transactions.{IsRefusedFor}
use Rattle.transactions.proofs.Sinces.{too_old, is_too_old, has_been, still_kept}

abbrev Answer : Type 0
Answer = Result (Option Entry) WalkFault

below : (a b : ℕ) → a ≤ b → b < a → ⊥
below a b le lt = omega (arith, le, lt)

along : (a b c : ℕ) → a ≤ b → b ≡ c → a ≤ c
along a b c le is = omega (arith, le, is)

beyond : (a b c : ℕ) → b < a → b ≡ c → c < a
beyond a b c lt is = omega (arith, lt, is)

pub refused_for : (t : TrackedValue) (began : ℕ) (tag : Tag) (fault : WalkFault) → IsRefusal t began tag (Some fault) → IsRefusedFor tag fault
refused_for t began tag Overtaken is = is.0
refused_for t began tag TooOld is = is.0
refused_for t began tag OtherUnit is = is.0
refused_for t began tag (Refused fault) never = absurd never

module _ (t : TrackedValue) (list : List Taken) (began : ℕ) (tag : Tag) (is : IsTracked t list) where
  forgets : began ≤ length list → IsBeforeOldest t.recent began → IsTooOld list began
  forgets within long = too_old list began within (subst (λ (l : List Invalidation). IsBeforeOldest l began) is.recorded long)

  forgot : began ≤ length list → IsTooOld list began → IsBeforeOldest t.recent began
  forgot within old = subst (λ (l : List Invalidation). IsBeforeOldest l began) (sym is.recorded) (is_too_old list began within old)

  found : began ≤ length list → HasCovering t.recent began tag → HasCoveredSince list began tag
  found within c = has_been list began within tag (subst (λ (l : List Invalidation). HasCovering l began tag) is.recorded c)

  finds : began ≤ length list → ¬ IsTooOld list began → HasCoveredSince list began tag → HasCovering t.recent began tag
  finds within young h = subst (λ (l : List Invalidation). HasCovering l began tag) (sym is.recorded) (still_kept list began within tag young h)

  pub refused : (fault : WalkFault) → IsRefusal t began tag (Some fault) → IsWalkAnswer list began tag (Err fault)
  refused Overtaken (block, within, recent, covered) =
      let inside = along began (taken t.unit.counts) (length list) within is.many in
      record {
        accepted = tt;
        overtaken = (λ _. (block, inside, (λ old. recent (forgot inside old)), found inside covered), λ _. refl);
        too_old = (λ e. absurd (cc), λ o. absurd (recent (forgot inside o.2)));
        other = (λ e. absurd (cc), λ o. absurd (below began (length list) inside o.1));
      }
  refused TooOld (block, within, long) =
      let inside = along began (taken t.unit.counts) (length list) within is.many in
      record {
        accepted = tt;
        overtaken = (λ e. absurd (cc), λ o. absurd (o.2 (forgets inside long)));
        too_old = (λ _. (block, inside, forgets inside long), λ _. refl);
        other = (λ e. absurd (cc), λ o. absurd (below began (length list) inside o.1));
      }
  refused OtherUnit (block, after) =
      let later = beyond began (taken t.unit.counts) (length list) after is.many in
      record {
        accepted = tt;
        overtaken = (λ e. absurd (cc), λ o. absurd (below began (length list) o.1 later));
        too_old = (λ e. absurd (cc), λ o. absurd (below began (length list) o.1 later));
        other = (λ _. (block, later), λ _. refl);
      }
  refused (Refused fault) never = absurd never

  module _ (none : IsRefusal t began tag None) where
    pub good : IsBlock tag → (began ≤ taken t.unit.counts) × ¬ IsBeforeOldest t.recent began × ¬ HasCovering t.recent began tag
    good block = ⊎_elim (λ (not_block : ¬ IsBlock tag). absurd (not_block block)) (λ (g : IsBlock tag × (began ≤ taken t.unit.counts) × ¬ IsBeforeOldest t.recent began × ¬ HasCovering t.recent began tag). (g.1, g.2, g.3)) none

    pub inside_of : IsBlock tag → began ≤ length list
    inside_of block = along began (taken t.unit.counts) (length list) (good block).0 is.many

    pub uncovered : IsBlock tag → ¬ HasCoveredSince list began tag
    uncovered block h = (good block).2 (finds (inside_of block) (λ old. (good block).1 (forgot (inside_of block) old)) h)

    pub caches_refuse : (fault : CacheFault) → IsWalkAnswer list began tag (Err (Refused fault))
    caches_refuse fault = record {
      accepted = tt;
      overtaken = (λ e. absurd (cc), λ o. absurd (uncovered o.0 o.3));
      too_old = (λ e. absurd (cc), λ o. absurd ((good o.0).1 (forgot o.1 o.2)));
      other = (λ e. absurd (cc), λ o. absurd (below began (length list) (inside_of o.0) o.1));
    }

    pub accepts : (was : Option Entry) → IsBlock tag → IsWalkAnswer list began tag (Ok was)
    accepts was block = record {
      accepted = (inside_of block, uncovered block);
      overtaken = (λ e. absurd (cc), λ o. absurd (uncovered o.0 o.3));
      too_old = (λ e. absurd (cc), λ o. absurd ((good o.0).1 (forgot o.1 o.2)));
      other = (λ e. absurd (cc), λ o. absurd (below began (length list) (inside_of o.0) o.1));
    }

    pub settles : (entry : Entry) → entry.tag ≡ tag → entry.born ≡ began → IsBlock tag → IsSettledEntry list entry.tag entry
    settles entry tag_is born_is block = record {
      born = along_born entry.born began (length list) born_is (inside_of block);
      uncovered = λ place t at from covered. uncovered block (record { place = place; taken = t; at = at; since = from_born began entry.born place born_is from; covered = subst (λ (x : Tag). HasCovered t x) tag_is covered });
    }
      where
        along_born : (a b c : ℕ) → a ≡ b → b ≤ c → a ≤ c
        along_born a b c is le = omega (arith, is, le)

        from_born : (a b c : ℕ) → b ≡ a → b ≤ c → a ≤ c
        from_born a b c is le = omega (arith, is, le)

    pub block_of : (stored : Stored) (answer : Result (Option Entry) CacheFault) (was : Option Entry) → IsFillAnswer stored tag answer → answer ≡ Ok was → IsBlock tag
    block_of stored answer was is_answer ok =
        ⊎_elim
        (λ (not_block : ¬ IsBlock tag). let bad : answer ≡ Err BadBlock = is_answer.bad.1 not_block in absurd (cc))
        (λ (g : IsBlock tag × (began ≤ taken t.unit.counts) × ¬ IsBeforeOldest t.recent began × ¬ HasCovering t.recent began tag). g.0)
        none

-- ---- the caches were asked

pub still_tracked : (old : TrackedValue) (unit : UnitValue) (list : List Taken) (entry : Entry) (answer : Result (Option Entry) CacheFault) → IsTracked old list
    → OnOk answer (unit ≡ with_entries old.unit (finite.insert old.unit.caches.entries entry.tag entry)) → OnErr answer (unit ≡ old.unit)
    → StaysSettledWith entry old.unit.caches.entries unit.caches.entries → ((was : Option Entry) → answer ≡ Ok was → IsSettledEntry list entry.tag entry)
    → IsTracked (record old { unit = unit }) (list ++ [])
still_tracked old unit list entry (Ok was) is ok err keeps own =
    subst (IsTracked (record old { unit = unit })) (sym (append-nil list))
    (record { many = ap (λ (u : UnitValue). taken u.counts) ok ∙ is.many; settled = keeps list (own was refl) is.settled; recorded = is.recorded; covered = is.covered; on_time = is.on_time })
still_tracked old unit list entry (Err fault) is ok err keeps own =
    subst (λ (u : UnitValue). IsTracked (record old { unit = u }) (list ++ [])) (sym err) (subst (IsTracked old) (sym (append-nil list)) is)
