-- What anybody's look finds of the queue, by the run in which it stands.
use Rattle.std.proofs.Common.{◌≡◌, ◌≢◌, ℕ, ◌+◌, ◌-◌, ◌*◌, ◌%◌, ◌≤◌, ◌∷◌, true, false, ◌==◌, sym, ap, ◌∙◌, eq-eqb, arith}
use Rattle.std.proofs.lemmas.Bool.{ne_eqb}
use native.Mathlib.Nat.{mod_self}
use Rattle.ring.specs.Runs.{Control, Who, Look, Run, World, tail, head, world, control, Ring, IsRun, NeverMoreThanFull}
use Rattle.qindex.specs.Positions.{size, index_of}
use Rattle.qindex.specs.Indexes.{IsGeometry, distance}
use Rattle.qindex.specs.Laws.{IndexesTellTheQueue}

module _ (tells : IndexesTellTheQueue) (within : NeverMoreThanFull) (ring : Ring) (geometry_is : IsGeometry ring.geometry)
    (who : Who) (run : Run) (seen : Control) (looks : IsRun ring ((who, Look seen) ∷ run)) where
  abbrev w : World
  w = world run

  pub behind : head w ≤ tail w
  behind = (within ring run looks.0).behind

  pub seen_is : seen ≡ control ring.geometry w
  seen_is = looks.1

  pub closed_is : w.closed ≡ seen.closed
  closed_is = ap (λ (c : Control). c.closed) (sym seen_is)

  pub far_is : distance seen.prod seen.cons ≡ tail w - head w
  far_is = ap (λ (c : Control). distance c.prod c.cons) seen_is ∙ (tells ring.geometry (tail w) (head w) geometry_is behind (within ring run looks.0).within).distance

  -- two indexes that are equal are those of one position
  pub nothing_is : seen.prod.number ≡ seen.cons.number → (tail w == head w) ≡ true
  nothing_is equal =
      let n : ℕ = 2 * size ring.geometry in
      let r : ℕ = (index_of ring.geometry (head w)).number in
      let same : (index_of ring.geometry (tail w)).number ≡ r = ap (λ (c : Control). c.prod.number) (sym seen_is) ∙ equal ∙ ap (λ (c : Control). c.cons.number) seen_is in
      let none : distance seen.prod seen.cons ≡ 0 = ap (λ (c : Control). distance c.prod c.cons) seen_is
      ∙ ap (λ (k : ℕ). (k + n - r) % n) same ∙ ap (λ (k : ℕ). k % n) (let e : r + n - r ≡ n = omega arith in e) ∙ mod_self n in
      let far = far_is in let low = behind in eq-eqb (tail w) (head w) (omega (arith, far, none, low))

  pub something_is : seen.prod.number ≢ seen.cons.number → (tail w == head w) ≡ false
  something_is other = ne_eqb (tail w) (head w)
      (λ e. other (ap (λ (c : Control). c.prod.number) seen_is ∙ ap (λ (k : ℕ). (index_of ring.geometry k).number) e ∙ ap (λ (c : Control). c.cons.number) (sym seen_is)))
