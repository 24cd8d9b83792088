-- What the consumer read of the command at the head is found again until it is taken.
use Rattle.std.proofs.Common.{◌≡◌, ◌≢◌, ℕ, zero, suc, ◌+◌, ◌/◌, ◌<◌, ◌≤◌, Bool, true, false, cond, ◌&&◌, [], ◌∷◌, Some, refl, sym, ap, ap₂, ◌∙◌, subst, eq-eqb, eqb-true, arith}
use Rattle.std.proofs.lemmas.Bool.{and_parts, or_right}
use Rattle.std.proofs.lemmas.Option.{slice_get_within, same_Some}
use Rattle.std.specs.Prelude.{slice_get, ◌==◌}
use Rattle.qindex.specs.declared.control.Control.{Control}
use Rattle.qindex.specs.Positions.{size, place, wrap_bit, index_of}
use Rattle.qindex.specs.Indexes.{IsGeometry, have_one_place, have_one_wrap_bit}
use Rattle.qindex.specs.Laws.{IndexesTellTheQueue}
use Rattle.ringcore.specs.declared.world.event.Who.TheVariants.{Consumer, Sender}
use Rattle.ringcore.specs.declared.world.event.Half.{Half}
use Rattle.ringcore.specs.declared.world.event.Event.TheVariants.{Look, Won, Lost, Write, Flip, Test, Read, Advance, Close, Acknowledge, Ask}
use Rattle.ringcore.specs.world.Trails.{Run, same_half, trail_of, is_among, head_read}
use Rattle.ringcore.specs.world.World.{Item, World, items, tail, head, world, control, half_of}
use Rattle.ringcore.specs.world.Allowed.{Ring, ShareAWord, IsRun}
use Rattle.ringcore.specs.world.ConsumerLaws.{IsSteady}
use Rattle.ringcore.proofs.WorldLemmas.Lists.{off, none_some, get_longer}
use Rattle.ringcore.proofs.WorldLemmas.Sound.{sound, half_is}

-- This is that half of the command at the head, which is flipped.
record IsAtHead (w : World) (half : Half) (x : ℕ) : Type 0 where
  pub item : Item
  pub there : slice_get w.reserved (head w) ≡ Some item
  pub found : x ≡ half_of half item.raw
  pub flipped : w.flipped (head w) ≡ true

at_head : (ring : Ring) (run : Run) → IsRun ring run → (half : Half) (x : ℕ) → head_read half (trail_of Consumer run) ≡ Some x → IsAtHead (world run) half x
at_head ring [] ok half x is = none_some x is
at_head ring ((Consumer, Look found) ∷ xs) ok half x is = at_head ring xs ok.0 half x is
at_head ring ((Consumer, Won body number) ∷ xs) ok half x is = absurd ok.1
at_head ring ((Consumer, Lost body closes found) ∷ xs) ok half x is = absurd ok.1
at_head ring ((Consumer, Write offset which) ∷ xs) ok half x is = absurd ok.1
at_head ring ((Consumer, Flip offset count) ∷ xs) ok half x is = absurd ok.1
at_head ring ((Consumer, Test limit found) ∷ xs) ok half x is = at_head ring xs ok.0 half x is
at_head ring ((Consumer, Read offset which y) ∷ xs) ok half x is = by_place (at_head ring xs ok.0 half x) (offset == 0 && same_half half which) refl is
  where
    by_place : (head_read half (trail_of Consumer xs) ≡ Some x → IsAtHead (world xs) half x) → (v : Bool) → (offset == 0 && same_half half which) ≡ v
        → cond v (Some y) (head_read half (trail_of Consumer xs)) ≡ Some x → IsAtHead (world xs) half x
    by_place before true at e =
        let parts = and_parts (offset == 0) (same_half half which) at in
        let here : offset ≡ 0 = eqb-true offset 0 parts.0 in
        let place_is : head (world xs) + offset ≡ head (world xs) = omega (arith, here) in
        record {
          item = ok.1.item;
          there = ap (slice_get (world xs).reserved) (sym place_is) ∙ ok.1.there;
          found = sym (same_Some y x e) ∙ ok.1.found ∙ ap (λ (u : Half). half_of u ok.1.item.raw) (sym (half_is half which parts.1));
          flipped = ap (world xs).flipped (sym place_is) ∙ (sound ring xs ok.0).ready offset ok.1.ready;
        }
    by_place before false at e = before e
at_head ring ((Consumer, Advance raws) ∷ xs) ok half x is = none_some x is
at_head ring ((Consumer, Close) ∷ xs) ok half x is = absurd ok.1
at_head ring ((Consumer, Acknowledge sender number) ∷ xs) ok half x is =
    let h = at_head ring xs ok.0 half x is in record { item = h.item; there = h.there; found = h.found; flipped = h.flipped }
at_head ring ((Consumer, Ask found) ∷ xs) ok half x is = absurd ok.1
at_head ring ((Sender s, Look found) ∷ xs) ok half x is = at_head ring xs ok.0 half x is
at_head ring ((Sender s, Won body number) ∷ xs) ok half x is =
    let h = at_head ring xs ok.0 half x is in
    record { item = h.item; there = get_longer (world xs).reserved (items s number body) (head (world xs)) h.item h.there; found = h.found; flipped = h.flipped }
at_head ring ((Sender s, Lost body closes found) ∷ xs) ok half x is = at_head ring xs ok.0 half x is
at_head ring ((Sender s, Write offset which) ∷ xs) ok half x is =
    let h = at_head ring xs ok.0 half x is in record { item = h.item; there = h.there; found = h.found; flipped = h.flipped }
at_head ring ((Sender s, Flip offset count) ∷ xs) ok half x is =
    let h = at_head ring xs ok.0 half x is in
    record { item = h.item; there = h.there; found = h.found; flipped = or_right (is_among ((world xs).start s + offset) count (head (world xs))) ((world xs).flipped (head (world xs))) h.flipped }
at_head ring ((Sender s, Test limit found) ∷ xs) ok half x is = absurd ok.1
at_head ring ((Sender s, Read offset which y) ∷ xs) ok half x is = absurd ok.1
at_head ring ((Sender s, Advance raws) ∷ xs) ok half x is = absurd ok.1
at_head ring ((Sender s, Close) ∷ xs) ok half x is =
    let h = at_head ring xs ok.0 half x is in record { item = h.item; there = h.there; found = h.found; flipped = h.flipped }
at_head ring ((Sender s, Acknowledge sender number) ∷ xs) ok half x is = absurd ok.1
at_head ring ((Sender s, Ask found) ∷ xs) ok half x is = at_head ring xs ok.0 half x is

-- ---- what is found again

below_tail : (w : World) (half : Half) (x : ℕ) → IsAtHead w half x → head w < tail w
below_tail w half x h = slice_get_within w.reserved (head w) h.item h.there

pub indexes_differ : IndexesTellTheQueue → (g : ℕ) (w : World) → IsGeometry g → head w < tail w → tail w ≤ head w + size g → (control g w).prod.number ≢ (control g w).cons.number
indexes_differ queue g w geometry some most same =
    let prod = index_of g (tail w) in
    let cons = index_of g (head w) in
    let q = queue g (tail w) (head w) geometry (omega (arith, some)) most in
    let one : have_one_place prod cons ≡ true = eq-eqb (place g prod.number) (place g cons.number) (ap (place g) same) in
    let wrap : have_one_wrap_bit prod cons ≡ true = eq-eqb (wrap_bit g prod.number) (wrap_bit g cons.number) (ap (wrap_bit g) same) in
    let empty : (tail w == head w) ≡ true = sym q.empty ∙ ap₂ (λ (a b : Bool). a && b) one wrap in
    let equal : tail w ≡ head w = eqb-true (tail w) (head w) empty in
    absurd (omega (arith, equal, some))

finds_one : (ring : Ring) (w : World) (limit found : ℕ) → w.flipped (head w) ≡ true
    → (found < limit → ShareAWord ring.flags ring.geometry (head w) (suc found) → w.flipped (head w + found) ≡ false) → 1 ≤ limit → 1 ≤ found
finds_one ring w limit zero flipped no_more some =
    let at : head w + 0 ≡ head w = omega arith in
    let no : w.flipped (head w) ≡ false = ap w.flipped (sym at) ∙ no_more (omega (arith, some)) (λ offset low. let z : offset ≡ 0 = omega (arith, low) in in_place offset z) in
    off (sym no ∙ flipped)
  where
    in_place : (offset : ℕ) → offset ≡ 0 → place ring.geometry (head w + offset) / ring.flags ≡ place ring.geometry (head w) / ring.flags
    in_place offset z = let e : head w + offset ≡ head w = omega (arith, z) in ap (λ (p : ℕ). place ring.geometry p / ring.flags) e
finds_one ring w limit (suc n) flipped no_more some = omega arith

pub steady : IndexesTellTheQueue → (ring : Ring) → IsGeometry ring.geometry → (run : Run) → IsRun ring run → IsSteady (trail_of Consumer run)
steady queue ring geometry [] ok = tt
steady queue ring geometry ((Consumer, Look found) ∷ xs) ok = (
  (λ half x is.
      let s = sound ring xs ok.0 in
      let differ = indexes_differ queue ring.geometry (world xs) geometry (below_tail (world xs) half x (at_head ring xs ok.0 half x is)) s.within in
      subst (λ (d : Control). d.prod.number ≢ d.cons.number) (sym ok.1) differ),
  steady queue ring geometry xs ok.0,
)
steady queue ring geometry ((Consumer, Won body number) ∷ xs) ok = absurd ok.1
steady queue ring geometry ((Consumer, Lost body closes found) ∷ xs) ok = absurd ok.1
steady queue ring geometry ((Consumer, Write offset which) ∷ xs) ok = absurd ok.1
steady queue ring geometry ((Consumer, Flip offset count) ∷ xs) ok = absurd ok.1
steady queue ring geometry ((Consumer, Test limit found) ∷ xs) ok =
    ((λ half x is. finds_one ring (world xs) limit found (at_head ring xs ok.0 half x is).flipped ok.1.no_more), steady queue ring geometry xs ok.0)
steady queue ring geometry ((Consumer, Read offset which y) ∷ xs) ok = (
  (λ x is here.
      let a = at_head ring xs ok.0 which x is in
      let place_is : head (world xs) + offset ≡ head (world xs) = omega (arith, here) in
      let same : ok.1.item ≡ a.item = same_Some ok.1.item a.item (sym ok.1.there ∙ ap (slice_get (world xs).reserved) place_is ∙ a.there) in
      ok.1.found ∙ ap (λ (i : Item). half_of which i.raw) same ∙ sym a.found),
  steady queue ring geometry xs ok.0,
)
steady queue ring geometry ((Consumer, Advance raws) ∷ xs) ok = (tt, steady queue ring geometry xs ok.0)
steady queue ring geometry ((Consumer, Close) ∷ xs) ok = absurd ok.1
steady queue ring geometry ((Consumer, Acknowledge sender number) ∷ xs) ok = (tt, steady queue ring geometry xs ok.0)
steady queue ring geometry ((Consumer, Ask found) ∷ xs) ok = absurd ok.1
steady queue ring geometry ((Sender s, Look found) ∷ xs) ok = steady queue ring geometry xs ok.0
steady queue ring geometry ((Sender s, Won body number) ∷ xs) ok = steady queue ring geometry xs ok.0
steady queue ring geometry ((Sender s, Lost body closes found) ∷ xs) ok = steady queue ring geometry xs ok.0
steady queue ring geometry ((Sender s, Write offset which) ∷ xs) ok = steady queue ring geometry xs ok.0
steady queue ring geometry ((Sender s, Flip offset count) ∷ xs) ok = steady queue ring geometry xs ok.0
steady queue ring geometry ((Sender s, Test limit found) ∷ xs) ok = absurd ok.1
steady queue ring geometry ((Sender s, Read offset which y) ∷ xs) ok = absurd ok.1
steady queue ring geometry ((Sender s, Advance raws) ∷ xs) ok = absurd ok.1
steady queue ring geometry ((Sender s, Close) ∷ xs) ok = steady queue ring geometry xs ok.0
steady queue ring geometry ((Sender s, Acknowledge sender number) ∷ xs) ok = absurd ok.1
steady queue ring geometry ((Sender s, Ask found) ∷ xs) ok = steady queue ring geometry xs ok.0
