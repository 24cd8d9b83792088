-- What became of the commands that were settled.
use Rattle.std.proofs.Common.{◌≡◌, ◌⊎◌, ℕ, zero, suc, ◌+◌, ◌*◌, ◌<◌, ◌≤◌, Bool, true, false, cond, ◌==◌, ◌&&◌, List, [], ◌∷◌, ◌++◌, length, map, take, Some, None, inl, inr, refl, sym, ap, ◌∙◌, subst, append_assoc, append-nil, length-append, eqb-true, arith}
use Rattle.std.specs.Prelude.{slice_get, Contains, if◌then◌else◌}
use Rattle.cmdcodec.specs.declared.raw.Raw.{Raw}
use Rattle.cmdcodec.specs.Legality.{first_ill}
use Rattle.cmdcodec.specs.Opcodes.{is_sync}
use Rattle.cmdcodec.specs.ClosingSync.{cell_address}
use Rattle.ringcore.specs.declared.world.event.Outcome.{Outcome}
use Rattle.ringcore.specs.declared.world.event.Outcome.TheVariants.{Applied, Replaced}
use Rattle.ringcore.specs.world.World.{outcome_of, sync_raw}
use Rattle.ringcore.specs.world.Laws.{SyncsTellTheirBatch, SyncsAddUp, SyncsAreInOrder, IsNextSync, syncs_in, is_sync_to}
use Rattle.ring.specs.consumer.Completing.{sync_sender, sync_number, IsClosingSync}
use Rattle.batch_outcomes.specs.declared.settled.Settled.{Settled}
use Rattle.batch_outcomes.specs.declared.settled.Settled.TheVariants.{Command, Sync}
use Rattle.batch_outcomes.specs.Settled.{lost_behind, losses_of, last_of, AreNumbered}
use Rattle.hardware_queue.specs.declared.flight.InFlight.{InFlight}
use Rattle.hardware_queue.specs.Flights.{passed_for, count_passed}
use Rattle.ring.specs.consumer.Consumers.{ConsumerValue}
use Rattle.ring.specs.consumer.Completing.{taken_of}
use Rattle.ring.specs.consumer.Deferring.{DeferringValue, deferring, settled_raws}
use Rattle.ringcore.specs.world.Trails.{raws_by, taken_by}
use Rattle.ringcore.specs.world.World.{taken_as}
use Rattle.hardware_queue.specs.declared.command_error.CommandError.{CommandError}
use Rattle.hardware_queue.specs.declared.remedy.Remedy.{Remedy}
use Rattle.hardware_queue.specs.declared.remedy.Remedy.TheVariants.{Retry, Replace}
use Rattle.hardware_queue.specs.Queues.{QueueValue}
use Rattle.hardware_queue.specs.Owners.{HasAcknowledged}
use Rattle.hardware_queue.specs.Fates.{IsFate, AreFates, EndsWithSync, IsWhole, FatesValue, is_carried_out, over_behind, fate, settled_with, remedied, IsOver, IsKnown}
use Rattle.hardware_queue.proofs.Forwards.{legal_of}
use Rattle.hardware_queue.proofs.Settlements.{settled_more}
use Rattle.hardware_queue.proofs.Losses.{first_or_rest}

is_applied : (raw : Raw) → first_ill raw ≡ None → Applied ≡ outcome_of raw
is_applied raw none = search

never_both : Applied ≡ Replaced → ⊥
never_both is = cc

-- ---- one more is settled

module _ (lost : List ℕ) (position : ℕ) (c : InFlight) (over : Bool) (outcome_is : c.outcome ≡ outcome_of c.raw) (is : IsOver lost position over) where
  command_fate : (o : Outcome) → c.outcome ≡ o → (v : Bool) → over ≡ v → is_sync c.raw ≡ false → IsFate lost position c.raw (Command (is_carried_out v o))
  command_fate Applied o_is true v_is other = (other, λ legal. is.here v_is)
  command_fate Applied o_is false v_is other =
      (other, legal_of c.raw (sym o_is ∙ outcome_is), λ there. let both : false ≡ true = sym v_is ∙ (is.none_else position (omega arith) there).1 in absurd (cc))
  command_fate Replaced o_is v v_is other = (other, λ legal. absurd (never_both (is_applied c.raw legal ∙ sym outcome_is ∙ o_is)))

  pub its_fate : (is_sync c.raw ≡ true → c.raw ≡ sync_raw (sync_sender c.raw) (sync_number c.raw)) → IsFate lost position c.raw (fate over c)
  its_fate sync_is = by_kind (is_sync c.raw) refl
    where
      by_kind : (b : Bool) → is_sync c.raw ≡ b → IsFate lost position c.raw (if b then Sync (sync_sender c.raw) (sync_number c.raw) else Command (is_carried_out over c.outcome))
      by_kind true sync = sync_is sync
      by_kind false other = command_fate c.outcome refl over refl other

  pub over_after : (next : ℕ) → (o : Outcome) → next ≡ position + count_passed o → IsOver lost next (over_behind over o)
  over_after next Applied next_is = record {
    here = λ never. absurd (cc);
    none_else = λ p low there. let at = (is.none_else p (omega (arith, low, next_is)) there).0 in absurd (omega (arith, low, next_is, at));
  }
  over_after next Replaced next_is =
      let same : next ≡ position = omega (arith, next_is) in
      record {
        here = λ v. subst (λ (p : ℕ). Contains lost p) (sym same) (is.here v);
        none_else = λ p low there. let found = is.none_else p (omega (arith, low, same)) there in (found.0 ∙ sym same, found.1);
      }

pub known_more : (lost : List ℕ) (settled : List Raw) (n : ℕ) (f : FatesValue) (c : InFlight) → c.outcome ≡ outcome_of c.raw → (is_sync c.raw ≡ true → c.raw ≡ sync_raw (sync_sender c.raw) (sync_number c.raw))
    → IsKnown lost settled n f → IsKnown lost (settled ++ c.raw ∷ []) n (settled_with f c)
known_more lost settled n f c outcome_is sync_is is = record {
  fates = (settled, c.raw, refl, its_fate lost (length (passed_for settled)) c f.over outcome_is is.over sync_is, is.fates);
  senders_are = is.senders_are;
  over = over_after lost (length (passed_for settled)) c f.over outcome_is is.over (length (passed_for (settled ++ c.raw ∷ []))) c.outcome (settled_more settled c.raw c.outcome outcome_is);
}

-- ---- a closing CMD_SYNC

-- A sender's newest number is the count of its CMD_SYNCs.
counted_by : (v : Bool) (s t k n m : ℕ) → (t == s) ≡ v → k ≡ suc (m + 0) → n ≡ m → cond v k n ≡ m + cond {A = ℕ} v 1 0
counted_by true s t k n m is next same = omega (arith, next)
counted_by false s t k n m is next same = omega (arith, same)

module _ (words : SyncsTellTheirBatch) (add_up : SyncsAddUp) (lost : List ℕ) where
  one_more : (s : ℕ) (ahead : List Raw) (raw : Raw) → syncs_in s (ahead ++ raw ∷ []) ≡ syncs_in s ahead + cond {A = ℕ} (is_sync_to s raw) 1 0
  one_more s ahead raw = add_up s ahead (raw ∷ [])

  pub last_is : (s : ℕ) (raws : List Raw) (fates : List Settled) → AreNumbered fates → AreFates lost raws fates → last_of s fates ≡ syncs_in s raws
  last_is s raws [] ok is = ap (syncs_in s) (sym is)
  last_is s raws (Command b ∷ older) ok (ahead, raw, raws_is, its, before) =
      let other : is_sync raw ≡ false = other_of b its in
      let none : cond {A = ℕ} (is_sync_to s raw) 1 0 ≡ 0 = ap (λ (v : Bool). cond {A = ℕ} (v && raw.hi == cell_address s) 1 0) other in
      let more = one_more s ahead raw in
      let rest = last_is s ahead older ok before in
      let all : syncs_in s raws ≡ syncs_in s (ahead ++ raw ∷ []) = ap (syncs_in s) raws_is in
      omega (arith, none, more, rest, all)
    where
      other_of : (v : Bool) → IsFate lost (length (passed_for ahead)) raw (Command v) → is_sync raw ≡ false
      other_of true f = f.0
      other_of false f = f.0
  last_is s raws (Sync t k ∷ older) ok (ahead, raw, raws_is, its, before) =
      let to : is_sync_to s raw ≡ (s == t) = ap (is_sync_to s) its ∙ (words t k).sender_is s in
      let swap : (s == t) ≡ (t == s) = same_either s t in
      let more = one_more s ahead raw ∙ ap (λ (v : Bool). syncs_in s ahead + cond {A = ℕ} v 1 0) (to ∙ swap) in
      let rest = last_is s ahead older ok.1 before in
      let own = last_is t ahead older ok.1 before in
      by_sender (t == s) refl rest own ∙ sym more ∙ ap (syncs_in s) (sym raws_is)
    where
      same_either : (a b : ℕ) → (a == b) ≡ (b == a)
      same_either a b = grind arith

      by_sender : (v : Bool) → (t == s) ≡ v → last_of s older ≡ syncs_in s ahead → last_of t older ≡ syncs_in t ahead → cond v k (last_of s older) ≡ syncs_in s ahead + cond {A = ℕ} v 1 0
      by_sender true same rest own =
          let sender : t ≡ s = eqb-true t s same in
          let next : k ≡ suc (syncs_in s ahead) = ok.0 ∙ ap suc own ∙ ap (λ (u : ℕ). suc (syncs_in u ahead)) sender in omega (arith, next)
      by_sender false other rest own = omega (arith, rest)

-- The next command, if it is a CMD_SYNC, is the next of its sender.
module _ (words : SyncsTellTheirBatch) (add_up : SyncsAddUp) (senders : ℕ) (few : senders ≤ 256) (settled rest : List Raw) (raw : Raw) (order : SyncsAreInOrder senders (settled ++ raw ∷ rest)) (sync : is_sync raw ≡ true) where
  its : IsNextSync senders settled raw
  its = order settled rest raw refl sync

  hi_is : raw.hi ≡ cell_address its.sender
  hi_is = ap (λ (r : Raw). r.hi) its.raw_is ∙ (words its.sender its.number).cell

  sender_is : sync_sender raw ≡ its.sender
  sender_is = let h : raw.hi ≡ 0x40000000 + 4 * its.sender = hi_is in let x : ℕ = raw.hi in omega (arith, h)

  number_is : sync_number raw ≡ its.number
  number_is = ap sync_number its.raw_is ∙ (words its.sender its.number).number_is

  pub is_closing : IsClosingSync raw
  is_closing = record { sender = its.sender; few = (let k = its.known in omega (arith, k, few)); address = hi_is }

  pub is_known : sync_sender raw < senders
  is_known = subst (λ (u : ℕ). u < senders) (sym sender_is) its.known

  pub is_itself : raw ≡ sync_raw (sync_sender raw) (sync_number raw)
  is_itself = its.raw_is ∙ (λ k. sync_raw (sym sender_is k) (sym number_is k))

  pub is_next : (lost : List ℕ) (fates : List Settled) → AreNumbered fates → AreFates lost settled fates → sync_number raw ≡ suc (last_of (sync_sender raw) fates)
  is_next lost fates ok are =
      number_is ∙ its.next ∙ ap (λ (u : ℕ). suc (syncs_in u settled)) (sym sender_is) ∙ ap suc (sym (last_is words add_up lost (sync_sender raw) settled fates ok are))

-- ---- another is written over

module _ (lost : List ℕ) (position : ℕ) where
  abbrev more : List ℕ
  more = position ∷ lost

  there_still : (p : ℕ) → Contains lost p → Contains more p
  there_still p (k, inside, is) = (suc k, omega (arith, inside), is)

  here_now : Contains more position
  here_now = (0, omega arith, refl)

  fates_still : (raws : List Raw) (fates : List Settled) → length (passed_for raws) ≤ position → AreFates lost raws fates → AreFates more raws fates
  fates_still raws [] low is = is
  fates_still raws (f ∷ older) low (ahead, raw, raws_is, its, before) =
      let whole : length (passed_for raws) ≡ length (passed_for ahead) + count_passed (outcome_of raw) =
      ap (λ (l : List Raw). length (passed_for l)) raws_is ∙ settled_more ahead raw (outcome_of raw) refl in
      (ahead, raw, raws_is, one f its whole, fates_still ahead older (omega (arith, whole, low)) before)
    where
      one : (g : Settled) → IsFate lost (length (passed_for ahead)) raw g → length (passed_for raws) ≡ length (passed_for ahead) + count_passed (outcome_of raw) → IsFate more (length (passed_for ahead)) raw g
      one (Command true) i whole =
          let counts : count_passed (outcome_of raw) ≡ 1 = ap count_passed (sym (is_applied raw i.1)) in (
            i.0,
            i.1,
            λ there. elim (first_or_rest position (length (passed_for ahead)) lost there) [
              | inl same ↦ absurd (omega (arith, same, whole, counts, low))
              | inr before ↦ i.2 before
            ],
          )
      one (Command false) i whole = (i.0, λ legal. there_still (length (passed_for ahead)) (i.1 legal))
      one (Sync s k) i whole = i

pub known_over : (lost : List ℕ) (settled : List Raw) (n : ℕ) (f : FatesValue) → IsKnown lost settled n f → IsKnown (length (passed_for settled) ∷ lost) settled n (record f { over = true })
known_over lost settled n f is =
    let position : ℕ = length (passed_for settled) in
    record {
      fates = fates_still lost position settled f.settled (omega arith) is.fates;
      senders_are = is.senders_are;
      over = record {
        here = λ v. here_now lost position;
        none_else = λ p low there. elim (first_or_rest position p lost there) [
          | inl same ↦ (sym same, refl)
          | inr before ↦ ((is.over.none_else p low before).0, refl)
        ];
      };
    }

-- An error was acknowledged.
pub known_remedied : (remedy : Remedy) (error : CommandError) (q r : QueueValue) (settled : List Raw) (n : ℕ) (f : FatesValue) → HasAcknowledged remedy error q r → q.consumed ≡ length (passed_for settled)
    → IsKnown q.lost settled n f → IsKnown r.lost settled n (remedied remedy f)
known_remedied Retry error q r settled n f a consumed is = subst (λ (l : List ℕ). IsKnown l settled n f) (sym (ap (λ (x : QueueValue). x.lost) a.new_is)) is
known_remedied Replace error q r settled n f a consumed is =
    let more : r.lost ≡ length (passed_for settled) ∷ q.lost = ap (λ (x : QueueValue). x.lost) a.new_is ∙ ap (λ (p : ℕ). p ∷ q.lost) consumed in
    subst (λ (l : List ℕ). IsKnown l settled n (record f { over = true })) (sym more) (known_over q.lost settled n f is)

-- ---- what stays, and how it begins

pub known_still : (lost other : List ℕ) (settled same : List Raw) (n m : ℕ) (f : FatesValue) → other ≡ lost → same ≡ settled → m ≡ n → IsKnown lost settled n f → IsKnown other same m f
known_still lost other settled same n m f lost_is settled_is n_is is =
    subst (λ (x : List ℕ × (List Raw × ℕ)). IsKnown x.0 x.1.0 x.1.1 f) (λ k. (sym lost_is k, (sym settled_is k, sym n_is k))) is

pub known_met : {D : Type 0} (lost : List ℕ) (old new : DeferringValue D) (f : FatesValue) → IsKnown lost (settled_raws old) old.consumer.ring.made_with.senders f
    → record new.consumer { history = [] } ≡ record old.consumer { history = [] } → new.settled ≡ old.settled → IsKnown lost (settled_raws new) new.consumer.ring.made_with.senders f
known_met lost old new f is same settled =
    known_still lost lost (settled_raws old) (settled_raws new) old.consumer.ring.made_with.senders new.consumer.ring.made_with.senders f refl
    (λ k. take (settled k) (raws_by ((same k).trail))) (ap (λ (c : ConsumerValue _). c.ring.made_with.senders) same) is

no_raws : (raws : List Raw) → map taken_as raws ≡ [] → raws ≡ []
no_raws [] is = refl
no_raws (raw ∷ raws) is = absurd (cc)

none_taken : (n : ℕ) (raws : List Raw) → raws ≡ [] → take n raws ≡ []
none_taken n raws is = ap (take n) is ∙ of_none n
  where
    of_none : (k : ℕ) → ◌≡◌ {A = List Raw} (take k []) []
    of_none zero = refl
    of_none (suc k) = refl

pub known_begins : {D : Type 0} (lost : List ℕ) (consumer : ConsumerValue D) (c : DeferringValue D) (n : ℕ) (f : FatesValue) → lost ≡ [] → taken_of consumer.trail ≡ [] → c ≡ deferring consumer → n ≡ consumer.ring.made_with.senders
    → f ≡ record { settled = []; senders = n; over = false } → IsKnown lost (settled_raws c) c.consumer.ring.made_with.senders f
known_begins lost consumer c n f none taken c_is n_is f_is =
    let settled : settled_raws c ≡ [] = ap settled_raws c_is ∙ none_taken (taken_by consumer.trail) (raws_by consumer.trail) (no_raws (raws_by consumer.trail) taken) in
    let senders : c.consumer.ring.made_with.senders ≡ n = ap (λ (d : DeferringValue _). d.consumer.ring.made_with.senders) c_is ∙ sym n_is in
    known_still [] lost [] (settled_raws c) n c.consumer.ring.made_with.senders f none settled senders
    (subst (λ (g : FatesValue). IsKnown [] [] n g) (sym f_is) (record {
      fates = refl;
      senders_are = refl;
      over = record { here = λ v. absurd (cc); none_else = λ p low there. absurd (let inside = there.1 in omega (arith, inside)) };
    }))

-- ---- a whole batch

-- What stands behind the newest CMD_SYNC, all carried out.
record IsStretch (lost : List ℕ) (raws : List Raw) : Type 0 where
  ahead : List Raw
  body : List Raw
  raws_is : raws ≡ ahead ++ body
  ends : EndsWithSync ahead
  no_sync : (i : ℕ) (raw : Raw) → slice_get body i ≡ Some raw → is_sync raw ≡ false
  legal : (i : ℕ) (raw : Raw) → slice_get body i ≡ Some raw → first_ill raw ≡ None
  kept : (i : ℕ) → i < length body → ¬ Contains lost (length (passed_for ahead) + i)

-- the place of an element of a list with one more
in_or_last : (xs : List Raw) (x y : Raw) (i : ℕ) → slice_get (xs ++ x ∷ []) i ≡ Some y → (slice_get xs i ≡ Some y) ⊎ (x ≡ y)
in_or_last [] x y zero at = inr (cc)
in_or_last [] x y (suc i) at = absurd (cc)
in_or_last (z ∷ xs) x y zero at = inl at
in_or_last (z ∷ xs) x y (suc i) at = in_or_last xs x y i at

legal_length : (ahead body : List Raw) → ((i : ℕ) (raw : Raw) → slice_get body i ≡ Some raw → first_ill raw ≡ None) → length (passed_for (ahead ++ body)) ≡ length (passed_for ahead) + length body
legal_length ahead [] legal = ap (λ (l : List Raw). length (passed_for l)) (append-nil ahead) ∙ (let n : ℕ = length (passed_for ahead) in let e : n ≡ n + 0 = omega arith in e)
legal_length ahead (raw ∷ body) legal =
    let one = settled_more ahead raw Applied (is_applied raw (legal 0 raw refl)) in
    let rest = legal_length (ahead ++ raw ∷ []) body (λ i r at. legal (suc i) r at) in
    let same : length (passed_for (ahead ++ raw ∷ body)) ≡ length (passed_for ((ahead ++ raw ∷ []) ++ body)) = ap (λ (l : List Raw). length (passed_for l)) (sym (append_assoc ahead (raw ∷ []) body)) in
    omega (arith, one, rest, same)

before_or_at : (i n : ℕ) → i < n + 1 → (i < n) ⊎ (i ≡ n)
before_or_at i n low = grind arith

module _ (words : SyncsTellTheirBatch) (lost : List ℕ) where
  longer : (ahead : List Raw) (raw : Raw) (raws : List Raw) → raws ≡ ahead ++ raw ∷ [] → IsFate lost (length (passed_for ahead)) raw (Command true) → IsStretch lost ahead → IsStretch lost raws
  longer ahead raw raws raws_is its s = record {
    ahead = s.ahead;
    body = s.body ++ raw ∷ [];
    raws_is = raws_is ∙ ap (λ (l : List Raw). l ++ raw ∷ []) s.raws_is ∙ append_assoc s.ahead s.body (raw ∷ []);
    ends = s.ends;
    no_sync = λ i r at. elim (in_or_last s.body raw r i at) [ inl before ↦ s.no_sync i r before | inr same ↦ ap is_sync (sym same) ∙ its.0 ];
    legal = λ i r at. elim (in_or_last s.body raw r i at) [ inl before ↦ s.legal i r before | inr same ↦ ap first_ill (sym same) ∙ its.1 ];
    kept = λ i low.
        let long : length (s.body ++ raw ∷ []) ≡ length s.body + 1 = length-append s.body (raw ∷ []) in
        elim (before_or_at i (length s.body) (omega (arith, low, long))) [
          | inl before ↦ s.kept i before
          | inr same ↦
              let position : length (passed_for ahead) ≡ length (passed_for s.ahead) + i =
              ap (λ (l : List Raw). length (passed_for l)) s.raws_is ∙ legal_length s.ahead s.body s.legal ∙ ap (λ (n : ℕ). length (passed_for s.ahead) + n) (sym same) in
              λ there. its.2 (subst (λ (p : ℕ). Contains lost p) (sym position) there)
        ];
  }

  none_behind : (raws : List Raw) → EndsWithSync raws → IsStretch lost raws
  none_behind raws ends = record {
    ahead = raws;
    body = [];
    raws_is = sym (append-nil raws);
    ends = ends;
    no_sync = λ i r at. absurd (cc);
    legal = λ i r at. absurd (cc);
    kept = λ i low. absurd (omega (arith, low));
  }

  stretch : (raws : List Raw) (fates : List Settled) → AreFates lost raws fates → lost_behind fates ≡ 0 → IsStretch lost raws
  stretch raws [] is none = none_behind raws (inl is)
  stretch raws (Command true ∷ older) (ahead, raw, raws_is, its, before) none = longer ahead raw raws raws_is its (stretch ahead older before none)
  stretch raws (Command false ∷ older) (ahead, raw, raws_is, its, before) none = absurd (omega (arith, none))
  stretch raws (Sync s k ∷ older) (ahead, raw, raws_is, its, before) none = none_behind raws (inr (ahead, raw, raws_is, ap is_sync its ∙ (words s k).opcode))

  with_more : (ahead : List Raw) (raw : Raw) (raws : List Raw) (s k : ℕ) → raws ≡ ahead ++ raw ∷ [] → IsWhole lost ahead s k → IsWhole lost raws s k
  with_more ahead raw raws s k raws_is w = record {
    ahead = w.ahead;
    body = w.body;
    rest = w.rest ++ raw ∷ [];
    settled_is = raws_is ∙ ap (λ (l : List Raw). l ++ raw ∷ []) w.settled_is ∙ append_assoc w.ahead (w.body ++ sync_raw s k ∷ w.rest) (raw ∷ [])
        ∙ ap (λ (l : List Raw). w.ahead ++ l) (append_assoc w.body (sync_raw s k ∷ w.rest) (raw ∷ []));
    ends = w.ends;
    no_sync = w.no_sync;
    legal = w.legal;
    kept = w.kept;
  }

  closed : (ahead : List Raw) (raw : Raw) (raws : List Raw) (s k : ℕ) → raws ≡ ahead ++ raw ∷ [] → raw ≡ sync_raw s k → IsStretch lost ahead → IsWhole lost raws s k
  closed ahead raw raws s k raws_is raw_is t = record {
    ahead = t.ahead;
    body = t.body;
    rest = [];
    settled_is = raws_is ∙ ap (λ (l : List Raw). l ++ raw ∷ []) t.raws_is ∙ append_assoc t.ahead t.body (raw ∷ []) ∙ ap (λ (r : Raw). t.ahead ++ (t.body ++ r ∷ [])) raw_is;
    ends = t.ends;
    no_sync = t.no_sync;
    legal = t.legal;
    kept = t.kept;
  }

  some_none : (n m : ℕ) → Some n ≡ Some m → n ≡ m
  some_none n m e = cc

  pub whole : (raws : List Raw) (fates : List Settled) (s k : ℕ) → AreFates lost raws fates → losses_of s k fates ≡ Some 0 → IsWhole lost raws s k
  whole raws [] s k is none = absurd (cc)
  whole raws (Command b ∷ older) s k (ahead, raw, raws_is, its, before) none = with_more ahead raw raws s k raws_is (whole ahead older s k before none)
  whole raws (Sync t j ∷ older) s k (ahead, raw, raws_is, its, before) none = by_sender (λ at. whole ahead older s k before at) (t == s) refl (j == k) refl none
    where
      by_sender : (losses_of s k older ≡ Some 0 → IsWhole lost ahead s k) → (v : Bool) → (t == s) ≡ v → (w : Bool) → (j == k) ≡ w → cond (v && w) (Some (lost_behind older)) (losses_of s k older) ≡ Some 0 → IsWhole lost raws s k
      by_sender rest true same true its_is at =
          closed ahead raw raws s k raws_is (its ∙ (λ i. sync_raw (eqb-true t s same i) (eqb-true j k its_is i))) (stretch ahead older before (some_none (lost_behind older) 0 at))
      by_sender rest true same false other at = with_more ahead raw raws s k raws_is (rest at)
      by_sender rest false other w w_is at = with_more ahead raw raws s k raws_is (rest at)
