-- An event of a seat's trail is in the run, and for an ask there the law tells what was completed before.
use Rattle.std.proofs.Common.{◌≡◌, ℕ, Bool, true, false, cond, arith, [], ◌∷◌, ◌++◌, length, length-append, refl, sym, ap, ◌∙◌}
use Rattle.ring.specs.Runs.{Who, Sender, Event, Ask, Run, Trail, same, trail_of, Ring, EveryRun, ToldOfAllUpTo}
use Rattle.ring.proofs.TableLemmas.Trails.{same_is}
use Rattle.ring.specs.table.{IsHistory}
use Rattle.ring.specs.Finishing.{WasTold, WasToldAll}

-- where an event of a trail is in the run
record StandsAt (who : Who) (e : Event) (run : Run) (older : Trail) : Type 0 where
  later : Run
  earlier : Run
  run_is : run ≡ later ++ (who, e) ∷ earlier
  trail_is : trail_of who earlier ≡ older

stands_at : (who : Who) (e : Event) (run : Run) (newer older : Trail) → trail_of who run ≡ newer ++ e ∷ older → StandsAt who e run older
stands_at who e [] newer older is = absurd (let long = ap (λ (t : Trail). length t) is in omega (arith, long, length-append newer (e ∷ older)))
stands_at who e (x ∷ xs) newer older is = by_seat (λ ns at. stands_at who e xs ns older at) (same who x.0) refl is
  where
    longer : StandsAt who e xs older → StandsAt who e (x ∷ xs) older
    longer at = record { later = x ∷ at.later; earlier = at.earlier; run_is = ap (λ (l : Run). x ∷ l) at.run_is; trail_is = at.trail_is }

    here : ((ns : Trail) → trail_of who xs ≡ ns ++ e ∷ older → StandsAt who e xs older) → (newer : Trail) → same who x.0 ≡ true → x.1 ∷ trail_of who xs ≡ newer ++ e ∷ older → StandsAt who e (x ∷ xs) older
    here before [] mine is =
        let event : x.1 ≡ e = cc in let rest : trail_of who xs ≡ older = cc in let seat : x.0 ≡ who = sym (same_is who x.0 mine) in
        record { later = []; earlier = xs; run_is = (λ i. let l : Run = (seat i, event i) ∷ xs in l); trail_is = rest }
    here before (n ∷ ns) mine is = longer (before ns (let rest : trail_of who xs ≡ ns ++ e ∷ older = cc in rest))

    by_seat : ((ns : Trail) → trail_of who xs ≡ ns ++ e ∷ older → StandsAt who e xs older) → (v : Bool) → same who x.0 ≡ v → cond v (x.1 ∷ trail_of who xs) (trail_of who xs) ≡ newer ++ e ∷ older → StandsAt who e (x ∷ xs) older
    by_seat before true mine is = here before newer mine is
    by_seat before false other is = longer (before newer is)

pub was_told : (run : Run) (s : ℕ) → ToldOfAllUpTo run → (newer older : Trail) (told : ℕ) → trail_of (Sender s) run ≡ newer ++ Ask told ∷ older → WasTold run s told older
was_told run s law newer older told is =
    let at = stands_at (Sender s) (Ask told) run newer older is in
    record {
      later = at.later;
      earlier = at.earlier;
      run_is = at.run_is;
      trail_is = at.trail_is;
      applied = λ number some up_to. law at.later at.earlier s told number at.run_is some up_to;
    }

pub was_told_all : EveryRun ToldOfAllUpTo → (ring : Ring) (s : ℕ) (trail : Trail) (run : Run) → IsHistory ring (Sender s) trail run → WasToldAll run s trail
was_told_all law ring s trail run is newer older number at = was_told run s (law ring run is.stands.after.run_is) newer older number (is.stands.trail_is ∙ at)
