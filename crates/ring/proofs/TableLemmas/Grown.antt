-- What a participant knows of the run grows step by step.
use Rattle.std.proofs.Common.{◌≡◌, ℕ, [], ◌∷◌, ◌++◌, length, refl, sym, ap, ◌∙◌, subst, append_assoc, arith}
use Rattle.ring.specs.Runs.{Who, Sender, Event, Trail, Run, trail_of}
use Rattle.ring.specs.table.{GrewBy, EndsWith, Grew, OneStepIsLast, NoStepIsNone, PortValue}
use Rattle.ring.specs.sender.{SenderValue}
use Rattle.ring.proofs.TableLemmas.Trails.{trail_here, trail_own, trail_append, not_empty, none_before}

-- ---- no step, one, and some after others

pub grew_none : (who : Who) (t : Trail) (run : Run) → Grew who t t run run
grew_none who t run = record { newer = []; run_is = refl; trail_is = refl; last = tt }

pub grew_step : (who : Who) (e : Event) (t u : Trail) (older run : Run) → u ≡ e ∷ t → GrewBy who e older run → Grew who t u older run
grew_step who e t u older run u_is grew = record {
  newer = (who, e) ∷ grew.went_on.newer;
  run_is = grew.run_is ∙ ap (λ (r : Run). (who, e) ∷ r) grew.went_on.run_is;
  trail_is = u_is ∙ sym (ap (λ (v : Trail). v ++ t) (trail_here who e grew.went_on.newer ∙ ap (λ (v : Trail). e ∷ v) grew.went_on.of_others));
  last = refl;
}

ends_with : (who : Who) (xs ys : Run) → EndsWith who xs → EndsWith who ys → EndsWith who (xs ++ ys)
ends_with who [] ys own other = other
ends_with who (x ∷ xs) ys own other = own

pub grew_more : (who : Who) (a b c : Trail) (h i j : Run) → Grew who a b h i → Grew who b c i j → Grew who a c h j
grew_more who a b c h i j one two = record {
  newer = two.newer ++ one.newer;
  run_is = two.run_is ∙ ap (λ (r : Run). two.newer ++ r) one.run_is ∙ sym (append_assoc two.newer one.newer h);
  trail_is =
      two.trail_is ∙ ap (λ (v : Trail). trail_of who two.newer ++ v) one.trail_is ∙ sym (append_assoc (trail_of who two.newer) (trail_of who one.newer) a)
      ∙ ap (λ (v : Trail). v ++ a) (sym (trail_append who two.newer one.newer));
  last = ends_with who two.newer one.newer two.last one.last;
}

-- the second under a number that is the first's
pub grew_then : (s n : ℕ) (a b c : Trail) (h i j : Run) → n ≡ s → Grew (Sender s) a b h i → Grew (Sender n) b c i j → Grew (Sender s) a c h j
grew_then s n a b c h i j same one two = grew_more (Sender s) a b c h i j one (subst (λ (k : ℕ). Grew (Sender k) b c i j) same two)

pub none_is_none : NoStepIsNone
none_is_none who trail older run grew = by_newer grew.newer grew.run_is grew.trail_is grew.last
  where
    by_newer : (n : Run) → run ≡ n ++ older → trail ≡ trail_of who n ++ trail → EndsWith who n → run ≡ older
    by_newer [] is same last = is
    by_newer (x ∷ xs) is same last = absurd (not_empty _ _ (sym (trail_own who x xs last) ∙ none_before (trail_of who (x ∷ xs)) trail (sym same)))

pub one_is_last : OneStepIsLast
one_is_last who e trail older run grew = by_newer grew.newer grew.run_is grew.trail_is grew.last
  where
    by_newer : (n : Run) → run ≡ n ++ older → e ∷ trail ≡ trail_of who n ++ trail → EndsWith who n → GrewBy who e older run
    by_newer [] is same last = absurd (let n : length (e ∷ trail) ≡ length trail = ap (λ (t : Trail). length t) same in omega (arith, n))
    by_newer (x ∷ xs) is same last =
        let both : e ∷ trail ≡ x.1 ∷ (trail_of who xs ++ trail) = same ∙ ap (λ (t : Trail). t ++ trail) (trail_own who x xs last) in
        let event : x.1 ≡ e = cc in
        let rest : trail_of who xs ++ trail ≡ trail = cc in
        record {
          before = xs ++ older;
          went_on = record { newer = xs; run_is = refl; of_others = none_before (trail_of who xs) trail rest };
          run_is = is ∙ (λ k. let l : Run = (last k, event k) ∷ (xs ++ older) in l);
        }

-- ---- as contracts see a step

pub port_step : (p q : PortValue) (who : Who) (e : Event) → p.who ≡ who → record q { history = [] } ≡ record p { trail = e ∷ p.trail; history = [] } → GrewBy p.who e p.history q.history
    → Grew who p.trail q.trail p.history q.history
port_step p q who e who_is is grew =
    grew_step who e p.trail q.trail p.history q.history (ap (λ (x : PortValue). x.trail) is) (subst (λ (w : Who). GrewBy w e p.history q.history) who_is grew)

pub sender_step : (s t : SenderValue) (e : Event) → record t { history = [] } ≡ record s { trail = e ∷ s.trail; history = [] } → GrewBy (Sender s.number) e s.history t.history
    → Grew (Sender s.number) s.trail t.trail s.history t.history
sender_step s t e is grew = grew_step (Sender s.number) e s.trail t.trail s.history t.history (ap (λ (x : SenderValue). x.trail) is) grew
