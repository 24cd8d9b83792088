-- At most two flips are needed for what is left of a reservation, so writes and two flips hand all of it
-- over.
use Rattle.std.proofs.Common.{◌≡◌, ℕ, ◌+◌, ◌-◌, ◌≤◌, ◌++◌, min, ap, ◌∙◌, subst, inl, inr, append_assoc, arith}
use Rattle.std.proofs.lemmas.Bool.{cases_lt}
use Rattle.qindex.specs.Positions.{size, index_of}
use Rattle.ring.specs.Runs.{Trail, reserved_length, start_index}
use Rattle.ringcore.specs.memory.Flags.{shared_word, IndexesTellSharedWords, BatchesHaveTwoFlagWords}
use Rattle.ring.specs.sender.{ReservationValue, writes_from, flips_from, run_up_to, wrote_many, next_run, flipped_left, published}
use Rattle.ring.proofs.SenderLemmas.ReservesNone.{StaysReserved, after_writes, after_flips}

module _ (r : ReservationValue) where
  abbrev g : ℕ
  g = r.ring.made_with.geometry

  abbrev all : ℕ
  all = reserved_length r.trail

  abbrev first : ℕ
  first = run_up_to g r.trail r.flipped all

  in_one : (last once : Trail) → last ++ (once ++ (writes_from r.written (all - r.written) ++ r.trail)) ≡ (last ++ (once ++ writes_from r.written (all - r.written))) ++ r.trail
  in_one last once = simp append_assoc

  pub published_stays : StaysReserved r.trail (published r).trail
  published_stays =
      let second : ℕ = r.flipped + first in
      subst (StaysReserved r.trail) (in_one (flips_from second (all - second)) (flips_from r.flipped first))
      (after_flips second (all - second) r.trail _ (after_flips r.flipped first r.trail _ (after_writes r.written (all - r.written) r.trail)))

  module _ (shared : IndexesTellSharedWords) (two_words : BatchesHaveTwoFlagWords) (few : all ≤ 64) (fits : all ≤ size g) (behind : r.flipped ≤ r.written) (k : ℕ) (whole : r.written + k ≡ all) where
    once_is : next_run (wrote_many k r) ≡ first
    once_is = λ i. min (shared_word g (index_of g (((after_writes r.written k r.trail).start g i).number + r.flipped)).number) (whole i - r.flipped)

    -- The second flip covers what the first has left.
    rest : min (shared_word g (index_of g ((start_index g r.trail).number + (r.flipped + first))).number) (all - (r.flipped + first)) ≡ all - (r.flipped + first)
    rest =
        let x : ℕ = (start_index g r.trail).number in
        let here = shared g (x + r.flipped) in
        let there = shared g (x + (r.flipped + first)) in
        let both = two_words g (x + r.flipped) (all - r.flipped) (omega arith) (omega arith) in
        elim (cases_lt first (all - r.flipped)) [
          | inl more ↦
              let whole_word : first ≡ shared_word g (x + r.flipped) = omega arith in
              let behind_it : x + (r.flipped + first) ≡ x + r.flipped + shared_word g (x + r.flipped) = omega arith in
              let next = ap (shared_word g) behind_it in
              omega arith
          | inr none ↦ omega arith
        ]

    twice_is : next_run (flipped_left (wrote_many k r)) ≡ all - (r.flipped + first)
    twice_is =
        let stays = (after_flips r.flipped (next_run (wrote_many k r)) r.trail (wrote_many k r).trail (after_writes r.written k r.trail)).start g in
        (λ i. min (shared_word g (index_of g ((stays i).number + (r.flipped + once_is i))).number) (whole i - (r.flipped + once_is i))) ∙ rest

    pub all_handed_over : flipped_left (flipped_left (wrote_many k r)) ≡ published r
    all_handed_over =
        let second : ℕ = r.flipped + first in
        let left_is : k ≡ all - r.written = omega arith in
        let end : second + (all - second) ≡ all = omega arith in
        (λ i. record r {
          trail = flips_from (r.flipped + once_is i) (twice_is i) ++ (flips_from r.flipped (once_is i) ++ (writes_from r.written (left_is i) ++ r.trail));
          written = whole i;
          flipped = r.flipped + once_is i + twice_is i;
        })
        ∙ (λ i. record r { trail = in_one (flips_from second (all - second)) (flips_from r.flipped first) i; written = all; flipped = end i })
