-- The closing syncs of a run that was taken are acknowledged one after another, and what a completion leaves.
use Rattle.std.proofs.Common.{◌≡◌, ℕ, suc, ◌+◌, ◌*◌, ◌<◌, ◌≤◌, Bool, true, false, cond, ◌==◌, ◌&&◌, List, [], ◌∷◌, ◌++◌, take, Some, refl, sym, ap, ◌∙◌, subst, append_assoc, eq-eqb, eqb-true, arith}
use Rattle.std.proofs.Common.{length, map, ap₂}
use Rattle.std.specs.Prelude.{slice_get}
use Rattle.std.proofs.lemmas.Bool.{cond_both}
use Rattle.std.proofs.lemmas.List.{map-append}
use Rattle.ring.specs.Runs.{Raw, Acknowledge, Advance, Trail, raws_by, acknowledged_by, taken_by, is_sync_to, syncs_in, syncs_taken, SyncsAreInOrder, IsNextSync, SyncsAddUp, SyncsTellTheirBatch}
use Rattle.ring.specs.Runs.{SyncsOfRawsAreCounted, Outcome, Taken, taken_as}
use Rattle.cmdcodec.specs.Opcodes.{is_sync}
use Rattle.cmdcodec.specs.ClosingSync.{cell_address}
use Rattle.qindex.specs.Positions.{IndexValue, index_of}
use Rattle.ring.specs.table.{PortValue}
use Rattle.ring.specs.consumer.{sync_sender, sync_number, acknowledged, all_acknowledged, without_newest, HasAdvanced, IsDue, completed_trail, taken_of, with_outcome, HasOutcome, IsAtHead}
use Rattle.ring.proofs.Lists.{take_more, split_at}

-- ---- acknowledgements change nothing else

pub acknowledged_keep : {X : Type 0} (f : Trail → X) → ((s n : ℕ) (t : Trail) → f (Acknowledge s n ∷ t) ≡ f t) → (raws : List Raw) (t : Trail) → f (all_acknowledged raws t) ≡ f t
acknowledged_keep f same [] t = refl
acknowledged_keep f same (raw ∷ raws) t = acknowledged_keep f same raws (acknowledged raw t)
    ∙ cond_both (is_sync raw) (Acknowledge (sync_sender raw) (sync_number raw) ∷ t) t (λ u. f u ≡ f t) (λ _. same (sync_sender raw) (sync_number raw) t) (λ _. refl)

acknowledged_snoc : (raws : List Raw) (raw : Raw) (t : Trail) → all_acknowledged (raws ++ raw ∷ []) t ≡ acknowledged raw (all_acknowledged raws t)
acknowledged_snoc [] raw t = refl
acknowledged_snoc (r ∷ rs) raw t = acknowledged_snoc rs raw (acknowledged r t)

-- ---- one of them: those before it are acknowledged, and those after it aren't

module _ (add_up : SyncsAddUp) (by_raws : SyncsOfRawsAreCounted) (words : SyncsTellTheirBatch) (senders : ℕ) (few : senders ≤ 256) (before : Trail)
    (ahead behind : List Raw) (raw : Raw) (now : Trail) (acks : (s : ℕ) → acknowledged_by s now ≡ syncs_taken s before + syncs_in s ahead) where
  one_more : (s : ℕ) → syncs_in s (ahead ++ raw ∷ []) ≡ syncs_in s ahead + cond {A = ℕ} (is_sync_to s raw) 1 0
  one_more s = add_up s ahead (raw ∷ [])

  pub passed : is_sync raw ≡ false → (s : ℕ) → acknowledged_by s now ≡ syncs_taken s before + syncs_in s (ahead ++ raw ∷ [])
  passed other s =
      let more = one_more s in let old = acks s in
      let none : cond {A = ℕ} (is_sync_to s raw) 1 0 ≡ 0 = ap (λ (b : Bool). cond {A = ℕ} (b && raw.hi == cell_address s) 1 0) other in
      omega (arith, more, old, none)

  module _ (order : SyncsAreInOrder senders (raws_by before ++ (ahead ++ raw ∷ behind))) (sync : is_sync raw ≡ true) where
    its : IsNextSync senders (raws_by before ++ ahead) raw
    its = order (raws_by before ++ ahead) behind raw (sym (append_assoc (raws_by before) ahead (raw ∷ behind))) sync

    hi_is : raw.hi ≡ cell_address its.sender
    hi_is = ap (λ (r : Raw). r.hi) its.raw_is ∙ (words its.sender its.number).cell

    sender_is : sync_sender raw ≡ its.sender
    sender_is = let h : raw.hi ≡ 0x40000000 + 4 * its.sender = hi_is in let x : ℕ = raw.hi in omega (arith, h)

    number_is : sync_number raw ≡ its.number
    number_is = ap sync_number its.raw_is ∙ (words its.sender its.number).number_is

    to : (s : ℕ) → is_sync_to s raw ≡ (s == its.sender)
    to s = ap (is_sync_to s) its.raw_is ∙ (words its.sender its.number).sender_is s

    counted : its.number ≡ suc (syncs_taken its.sender before + syncs_in its.sender ahead)
    counted = its.next ∙ ap suc (add_up its.sender (raws_by before) ahead ∙ ap (λ (n : ℕ). n + syncs_in its.sender ahead) (by_raws its.sender before))

    pub due : ((s : ℕ) → syncs_taken s now ≡ syncs_taken s before + syncs_in s (ahead ++ raw ∷ behind)) → IsDue senders now raw
    due whole =
        let s : ℕ = its.sender in
        let all : syncs_in s (ahead ++ raw ∷ behind) ≡ syncs_in s ahead + syncs_in s (raw ∷ behind) = add_up s ahead (raw ∷ behind) in
        let one : syncs_in s (raw ∷ behind) ≡ suc (syncs_in s behind) = ap (λ (b : Bool). cond {A = ℕ} b (suc (syncs_in s behind)) (syncs_in s behind)) (to s ∙ eq-eqb s s refl) in
        let n = counted in let w = whole s in record {
          closing = record { sender = s; few = (let k = its.known in omega (arith, k, few)); address = hi_is };
          known = subst (λ (u : ℕ). u < senders) (sym sender_is) its.known;
          next = number_is ∙ counted ∙ ap suc (sym (acks s) ∙ ap (λ (u : ℕ). acknowledged_by u now) (sym sender_is));
          taken = subst (λ (t : ℕ × ℕ). t.0 ≤ syncs_taken t.1 now) (λ k. (sym number_is k, sym sender_is k)) (omega (arith, n, w, all, one));
        }

    pub grown : (s : ℕ) → acknowledged_by s (Acknowledge (sync_sender raw) (sync_number raw) ∷ now) ≡ syncs_taken s before + syncs_in s (ahead ++ raw ∷ [])
    grown s = ap (λ (t : ℕ × ℕ). acknowledged_by s (Acknowledge t.0 t.1 ∷ now)) (λ k. (sender_is k, number_is k)) ∙ by_sender (s == its.sender) refl (to s)
      where
        by_sender : (v : Bool) → (s == its.sender) ≡ v → is_sync_to s raw ≡ v → cond v its.number (acknowledged_by s now) ≡ syncs_taken s before + syncs_in s (ahead ++ raw ∷ [])
        by_sender true is to_is =
            let same : s ≡ its.sender = eqb-true s its.sender is in
            let one : cond {A = ℕ} (is_sync_to s raw) 1 0 ≡ 1 = ap (λ (b : Bool). cond {A = ℕ} b 1 0) to_is in
            let mine : syncs_taken s before + syncs_in s ahead ≡ syncs_taken its.sender before + syncs_in its.sender ahead = ap (λ (u : ℕ). syncs_taken u before + syncs_in u ahead) same in
            let more = one_more s in let n = counted in omega (arith, more, n, one, mine)
        by_sender false is to_is =
            let none : cond {A = ℕ} (is_sync_to s raw) 1 0 ≡ 0 = ap (λ (b : Bool). cond {A = ℕ} b 1 0) to_is in
            let more = one_more s in let old = acks s in omega (arith, more, old, none)

-- ---- as the loop has it

module _ (old : PortValue) (raws : List Raw) where
  abbrev After : PortValue → ℕ → Type 0
  After now i = record now { history = [] } ≡ record old { trail = all_acknowledged (take i raws) old.trail; history = [] }

  abbrev Soon : PortValue → ℕ → Type 0
  Soon now i = (s : ℕ) → acknowledged_by s now.trail ≡ syncs_taken s (without_newest old.trail) + syncs_in s (take i raws)

-- one command of the loop: what acknowledges it needs, and what stays so
pub record IsTurn (old : PortValue) (raws : List Raw) (senders : ℕ) (now : PortValue) (i : ℕ) (raw : Raw) : Type 0 where
  pub due : is_sync raw ≡ true → IsDue senders now.trail raw
  pub then_after : is_sync raw ≡ true → (new : PortValue) → record new { history = [] } ≡ record now { trail = Acknowledge (sync_sender raw) (sync_number raw) ∷ now.trail; history = [] } → After old raws new (i + 1) × Soon old raws new (i + 1)
  pub else_after : is_sync raw ≡ false → (new : PortValue) → new ≡ now → After old raws new (i + 1) × Soon old raws new (i + 1)

module _ (old : PortValue) (raws : List Raw) (n : ℕ) (advanced : HasAdvanced old.trail (take n raws)) where
  abbrev start : Trail
  start = without_newest old.trail

  whole : (now : PortValue) (i : ℕ) → After old raws now i → (s : ℕ) → syncs_taken s now.trail ≡ syncs_taken s start + syncs_in s (take n raws)
  whole now i after s =
      ap (λ (p : PortValue). syncs_taken s p.trail) after ∙ acknowledged_keep (syncs_taken s) (λ u k t. refl) (take i raws) old.trail ∙ ap (syncs_taken s) advanced.trail_is

  pub all_are : (now : PortValue) (i : ℕ) → i ≡ n → After old raws now i → Soon old raws now i → (s : ℕ) → acknowledged_by s now.trail ≡ syncs_taken s now.trail
  all_are now i end after acks s = acks s ∙ ap (λ (k : ℕ). syncs_taken s start + syncs_in s (take k raws)) end ∙ sym (whole now i after s)

  module _ (add_up : SyncsAddUp) (by_raws : SyncsOfRawsAreCounted) (words : SyncsTellTheirBatch) (senders : ℕ) (few : senders ≤ 256) (order : SyncsAreInOrder senders (raws_by old.trail))
      (now : PortValue) (i : ℕ) (raw : Raw) (low : i < n) (at : slice_get raws i ≡ Some raw) (after : After old raws now i) (acks : Soon old raws now i) where
    abbrev behind : List Raw
    behind = (split_at raws i n raw low at).0

    split : take n raws ≡ take i raws ++ raw ∷ behind
    split = (split_at raws i n raw low at).1

    ordered : SyncsAreInOrder senders (raws_by start ++ (take i raws ++ raw ∷ behind))
    ordered = subst (SyncsAreInOrder senders) (ap raws_by advanced.trail_is ∙ ap (λ (l : List Raw). raws_by start ++ l) split) order

    goes_on : (new : PortValue) → record new { history = [] } ≡ record now { trail = acknowledged raw now.trail; history = [] }
        → ((s : ℕ) → acknowledged_by s new.trail ≡ syncs_taken s start + syncs_in s (take i raws ++ raw ∷ [])) → After old raws new (i + 1) × Soon old raws new (i + 1)
    goes_on new is sums = (
      is ∙ ap (λ (p : PortValue). let q : PortValue = record p { trail = acknowledged raw p.trail } in q) after
          ∙ ap (λ (t : Trail). let q : PortValue = record old { trail = t; history = [] } in q) (sym (ap (λ (l : List Raw). all_acknowledged l old.trail) (take_more raws i raw at) ∙ acknowledged_snoc (take i raws) raw old.trail)),
      λ s. sums s ∙ ap (λ (l : List Raw). syncs_taken s start + syncs_in s l) (sym (take_more raws i raw at)),
    )

    by_kind : (b : Bool) → is_sync raw ≡ b → ◌≡◌ {A = PortValue} (record now { trail = cond b (Acknowledge (sync_sender raw) (sync_number raw) ∷ now.trail) now.trail; history = [] }) (record now { trail = acknowledged raw now.trail; history = [] })
    by_kind b is = ap (λ (v : Bool). let q : PortValue = record now { trail = cond v (Acknowledge (sync_sender raw) (sync_number raw) ∷ now.trail) now.trail; history = [] } in q) (sym is)

    pub turn : IsTurn old raws senders now i raw
    turn = record {
      due = λ sync. due add_up by_raws words senders few start (take i raws) behind raw now.trail acks ordered sync (λ s. whole now i after s ∙ ap (λ (l : List Raw). syncs_taken s start + syncs_in s l) split);
      then_after = λ sync new is. goes_on new (is ∙ by_kind true sync)
          (λ s. ap (λ (p : PortValue). acknowledged_by s p.trail) is ∙ grown add_up by_raws words senders few start (take i raws) behind raw now.trail acks ordered sync s);
      else_after = λ other new is. goes_on new (ap (λ (p : PortValue). let q : PortValue = record p { history = [] } in q) is ∙ by_kind false other)
          (λ s. ap (λ (p : PortValue). acknowledged_by s p.trail) is ∙ passed add_up by_raws words senders few start (take i raws) behind raw now.trail acks other s);
    }

-- ---- what a completion leaves

-- The taken list grows by these, with this outcome.
with_outcomes : (outcome : Outcome) (raws : List Raw) → HasOutcome outcome raws → map taken_as raws ≡ map (with_outcome outcome) raws
with_outcomes outcome [] is = refl
with_outcomes outcome (raw ∷ raws) is =
    ap₂ (λ (x : Taken) (l : List Taken). x ∷ l) (ap (λ (o : Outcome). with_outcome o raw) (sym (is 0 raw refl))) (with_outcomes outcome raws (λ i other at. is (suc i) other at))

pub taken_after : (t : Trail) (raws : List Raw) (outcome : Outcome) → HasOutcome outcome raws → taken_of (completed_trail raws t) ≡ taken_of t ++ map (with_outcome outcome) raws
taken_after t raws outcome is =
    ap (map taken_as) (acknowledged_keep raws_by (λ s n u. refl) raws (Advance raws ∷ t)) ∙ map-append taken_as (raws_by t) raws
    ∙ ap (λ (l : List Taken). taken_of t ++ l) (with_outcomes outcome raws is)

pub still_at_head : (old new : PortValue) (head : IndexValue) (taken : ℕ) (raws : List Raw) → IsAtHead old head taken
    → record new { history = [] } ≡ record old { trail = all_acknowledged raws old.trail; history = [] } → IsAtHead new head taken
still_at_head old new head taken raws is new_is = record {
  who_is = ap (λ (p : PortValue). p.who) new_is ∙ is.who_is;
  head_is = is.head_is ∙ ap (λ (p : PortValue). index_of p.ring.made_with.geometry taken) (sym new_is);
  taken_is = is.taken_is ∙ sym (ap (λ (p : PortValue). taken_by p.trail) new_is ∙ acknowledged_keep taken_by (λ s n u. refl) raws old.trail);
}

pub further_at_head : (old new : PortValue) (head further : IndexValue) (taken many : ℕ) (raws : List Raw) → IsAtHead old head taken
    → record new { history = [] } ≡ record old { trail = Advance raws ∷ old.trail; history = [] }
    → length raws ≡ many → further ≡ index_of old.ring.made_with.geometry (taken + many) → IsAtHead new further (taken + many)
further_at_head old new head further taken many raws is new_is long further_is = record {
  who_is = ap (λ (p : PortValue). p.who) new_is ∙ is.who_is;
  head_is = further_is ∙ ap (λ (p : PortValue). index_of p.ring.made_with.geometry (taken + many)) (sym new_is);
  taken_is =
      let counted : taken_by new.trail ≡ taken_by old.trail + length raws = ap (λ (p : PortValue). taken_by p.trail) new_is in
      let before = is.taken_is in omega (arith, counted, before, long);
}
