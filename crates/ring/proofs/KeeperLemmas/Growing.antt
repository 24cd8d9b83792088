-- A run that only one participant has grown, and what is left of the others.
use Rattle.std.proofs.Common.{◌≡◌, ◌≢◌, ℕ, ◌-◌, [], ◌∷◌, ◌++◌, length, length-append, take, refl, sym, ap, ◌∙◌, inl, inr, arith, rules, subst}
use Rattle.std.proofs.Math.Seq.{take-append_seam}
use Rattle.ring.specs.Runs.{Who, Trail, Run, trail_of, same, IsOne, OnlyOf, Consumer, Sender}
use Rattle.ring.specs.table.{EndsWith, run_by, grown_run, PortValue}
use Rattle.ring.specs.Keepers.{Adds, KeeperValue, own_port, KeepsOthers}
use Rattle.ring.specs.consumer.{IsConsumer}
use Rattle.ring.specs.sender.{IsSender, IsOpen}
use Rattle.ring.proofs.TableLemmas.Trails.{alike, trail_here, trail_own, trail_else, not_empty}

-- the trail in a run that only one participant has grown
pub trail_since : (who : Who) (added : Trail) (since : Run) → trail_of who (run_by who added ++ since) ≡ added ++ trail_of who since
trail_since who [] since = refl
trail_since who (e ∷ es) since = trail_here who e (run_by who es ++ since) ∙ ap (λ (t : Trail). e ∷ t) (trail_since who es since)

-- A run of its events only ends with one of them.
pub ends_by : (who : Who) (added : Trail) → EndsWith who (run_by who added)
ends_by who [] = tt
ends_by who (e ∷ es) = refl

pub grown_run_is : (who : Who) (since : Run) (trail added : Trail) → trail ≡ added ++ trail_of who since → grown_run who since trail ≡ run_by who added ++ since
grown_run_is who since trail added is =
    let old : Trail = trail_of who since in
    let many : length (added ++ old) - length old ≡ length added = omega (arith, length-append added old) in
    ap (λ (t : Trail). grown_run who since t) is ∙ ap (λ (t : Trail). run_by who t ++ since) (ap (λ (k : ℕ). take k (added ++ old)) many ∙ take-append_seam added old)

pub adds_those : (who : Who) (trail : Trail) (old new : Run) → new ≡ grown_run who old trail → Adds who trail old new
adds_those who trail old new new_is added is =
    let run_is = new_is ∙ grown_run_is who old trail added is in
    record { run_is = run_is; trail_is = ap (trail_of who) run_is ∙ trail_since who added old }

pub trail_stays : (who u : Who) (added : Trail) (since : Run) → u ≢ who → trail_of u (run_by who added ++ since) ≡ trail_of u since
trail_stays who u [] since ne = refl
trail_stays who u (e ∷ es) since ne = trail_else u who e (run_by who es ++ since) ne ∙ trail_stays who u es since ne

-- A run of one participant's steps only is its events.
pub all_of_one : (n : ℕ) (who : Who) (run : Run) → OnlyOf n run → ((u : Who) → IsOne n u → u ≢ who → trail_of u run ≡ []) → run ≡ run_by who (trail_of who run)
all_of_one n who [] only nothing = refl
all_of_one n who (x ∷ xs) only nothing = elim (alike x.0 who) [
  | inr ne ↦ absurd (not_empty _ _ (sym (trail_here x.0 x.1 xs) ∙ nothing x.0 only.0 ne))
  | inl is ↦
      let behind = all_of_one n who xs only.1 (λ u one ne. sym (trail_else u x.0 x.1 xs (λ e. ne (e ∙ is))) ∙ nothing u one ne) in
      (λ k. let l : Run = (is k, x.1) ∷ behind k in l) ∙ ap (run_by who) (sym (trail_own who x xs is))
]

-- ---- what is left of those who took no step

pub keeps_others : (who : Who) (old new : KeeperValue) (added : Trail) → new.ring ≡ old.ring → new.run ≡ run_by who added ++ old.run → KeepsOthers who old new
keeps_others who old new added same run_is =
    -- what is left of one does not depend on what it knows of the run
    let stays : (u : Who) → u ≢ who → record (own_port u old) { history = new.run } ≡ own_port u new =
    (λ u ne. (λ k. let q : PortValue = record { ring = sym same k; who = u; trail = (sym (trail_stays who u added old.run ne) ∙ ap (trail_of u) (sym run_is)) k; history = new.run } in q)) in record {
      trails = λ u ne. ap (trail_of u) run_is ∙ trail_stays who u added old.run ne;
      senders = λ tally ne is. subst (λ (p : PortValue). IsSender p tally) (stays (Sender tally.sender) ne) record { tallied = (let tallied = is.tallied in search rules); settled = is.settled };
      reservations = λ body idle ne is. subst (λ (p : PortValue). IsOpen p idle.tally body idle.closes idle.start idle.written idle.flipped) (stays (Sender idle.tally.sender) ne) (search rules);
      consumer = λ head taken ne is. subst (λ (p : PortValue). IsConsumer p head taken) (stays Consumer ne) (search rules);
    }
