-- A reservation that is written and flipped in the order of its slots.
use Rattle.std.proofs.Common.{rules, ◌≡◌, ℕ, ◌+◌, ◌≤◌, Bool, ◌||◌, List, [], ◌∷◌, sym, ap, ◌∙◌, subst, arith}
use Rattle.std.proofs.lemmas.Bool.{lt-ltb, le-ltb}
use Rattle.std.proofs.lemmas.Bool.Decides.{nat_tests}
use Rattle.std.specs.Prelude.{nat_lt}
use Rattle.ring.specs.Runs.{Raw, Flip, Trail, is_among, ShareAWord}
use Rattle.qindex.specs.Positions.{IndexValue}
use Rattle.ring.specs.sender.{Tally, IsFlippedUpTo, IsOpen}
use Rattle.ring.specs.table.{PortValue, MayFlipAt}

flipped_more : (t : Trail) (f n : ℕ) → IsFlippedUpTo f t → IsFlippedUpTo (f + n) (Flip f n ∷ t)
flipped_more t f n is k = ap (λ (b : Bool). is_among f n k || b) (is k) ∙ until
  where
    until : (is_among f n k || nat_lt k f) ≡ nat_lt k (f + n)
    until = grind (arith, nat_tests)

-- That a reservation is open depends on the trail, not on the history.
pub knowing : (port : PortValue) (tally : Tally) (body : List Raw) (closes : Bool) (start : IndexValue) (written flipped : ℕ) → IsOpen (record port { history = [] }) tally body closes start written flipped
    → IsOpen port tally body closes start written flipped
knowing port tally body closes start written flipped is = search rules

module _ (port : PortValue) (tally : Tally) (body : List Raw) (closes : Bool) (start : IndexValue) (written flipped : ℕ) (is : IsOpen port tally body closes start written flipped) where
  pub may_flip : (count : ℕ) → 1 ≤ count → count ≤ 64 → flipped + count ≤ written → MayFlipAt port.trail flipped count
  may_flip count some few low = record {
    many = (some, few);
    inside = (let m = is.many in let w = is.within in omega arith);
    unflipped = λ i less. is.in_flipped (flipped + i) ∙ le-ltb (flipped + i) flipped (omega arith);
    written = λ i half less. is.in_written (flipped + i) half ∙ lt-ltb (flipped + i) written (omega arith);
  }

  pub flipped_is : (count : ℕ) → flipped + count ≤ written → (new : PortValue) → record new { history = [] } ≡ record port { trail = Flip flipped count ∷ port.trail; history = [] }
      → IsOpen new tally body closes start written (flipped + count)
  flipped_is count low new new_is = knowing new tally body closes start written (flipped + count) (subst (λ (q : PortValue). IsOpen q tally body closes start written (flipped + count)) (sym new_is)
      (let more = flipped_more port.trail flipped count is.in_flipped in search rules))

-- ---- flags in one word

pub fewer_share : (g p many count : ℕ) → count ≤ many → ShareAWord 64 g p many → ShareAWord 64 g p count
fewer_share g p many count le share offset low = share offset (omega arith)
