-- What a sender knows before it tries, and once it has won.
use Rattle.std.proofs.Common.{rules, ◌≡◌, ℕ, ◌+◌, ◌<◌, ◌≤◌, Bool, true, false, List, [], ◌∷◌, Some, Result, Ok, Err, sym, ap, subst, ◌∙◌, arith}
use Rattle.std.specs.Prelude.{nat_lt, IfOk, IfErr}
use Rattle.std.proofs.lemmas.Bool.Decides.{nat_tests}
use Rattle.ring.specs.Runs.{Raw, Control, Sender, Event, Look, Trail, Run, IsSettled, looked, batches_made, numbers_given, prod_of, commands, world, control, MayTry, length_with}
use Rattle.cmdcodec.specs.Bodies.{IsBody}
use Rattle.qindex.specs.Positions.{size}
use Rattle.qindex.specs.Indexes.{distance}
use Rattle.ring.specs.sender.{Tally, SenderValue, IsTallied, one_more, Refused, Contended, IsOpen, ReservationValue, ring_size, HasRoom, HasBatchLeft, HasNoRoom, TellsRoom, HasLookedAt, IsWon, IsLost, WentOn, HasOpened}
use Rattle.ring.specs.table.{PortValue, has_won, GrewBy, Grew}
use Rattle.ring.proofs.TableLemmas.Grown.{grew_step, grew_then, sender_step}
use Rattle.ring.proofs.SenderLemmas.InOrder.{knowing}

pub may_try : (port : PortValue) (number : ℕ) (s : SenderValue) (body : List Raw) (closes : Bool) (many : ℕ) (seen : Control)
    → (let t : SenderValue = record { ring = port.ring; number = number; trail = port.trail; history = port.history } in t) ≡ s
    → IsSettled port.trail → IsBody body → many ≡ length_with closes body → looked s.trail ≡ Some seen → HasRoom body closes s seen → HasBatchLeft s
    → MayTry port.ring.made_with port.trail body many seen
may_try port number s body closes many seen view settled is many_is =
    subst (λ (q : SenderValue). looked q.trail ≡ Some seen → HasRoom body closes q seen → HasBatchLeft q → MayTry port.ring.made_with port.trail body many seen) view
    (λ found room left. record { looked_at = found; unclosed = room.unclosed; settled = settled; left = left; body_is = is; room = (let r = room.room in omega arith) })

nothing_below : (k : ℕ) → false ≡ nat_lt k 0
nothing_below k = grind (arith, nat_tests)

-- A reservation begins with no slot written.
module _ (port : PortValue) (tally : Tally) (body : List Raw) (seen : Control) (tallied : IsTallied port tally) (is : IsBody body)
    (looked_is : looked port.trail ≡ Some seen) (left : batches_made port.trail < port.ring.made_with.max_batches) (geometry_is : seen.prod.geometry ≡ port.ring.made_with.geometry) where
  abbrev pub Opens : Bool → PortValue → Type 0
  Opens closes new = IsOpen new (one_more closes tally) body closes seen.prod 0 0

  opens_won : (closes : Bool) → length_with closes body ≤ size port.ring.made_with.geometry → Opens closes (has_won body closes (record port { history = [] }))
  opens_won true fits =
      let start = sym (ap (prod_of port.ring.made_with.geometry) looked_is) in
      let number : tally.numbers + 1 ≡ numbers_given port.trail + 1 = ap (λ (n : ℕ). n + 1) tallied.numbers_are in
      let numbered = ap Some (sym number) in
      let commanded = ap (λ (n : ℕ). commands tally.sender (Some n) body) (sym number) in
      let most : tally.batches + 1 ≤ port.ring.made_with.max_batches = (let b = tallied.batches_are in omega arith) in search (rules, nothing_below)
  opens_won false fits =
      let start = sym (ap (prod_of port.ring.made_with.geometry) looked_is) in
      let most : tally.batches + 1 ≤ port.ring.made_with.max_batches = (let b = tallied.batches_are in omega arith) in search (rules, nothing_below)

  pub opens : (closes : Bool) (new : PortValue) → record new { history = [] } ≡ has_won body closes (record port { history = [] }) → length_with closes body ≤ size port.ring.made_with.geometry → Opens closes new
  opens closes new new_is fits = knowing new (one_more closes tally) body closes seen.prod 0 0 (subst (Opens closes) (sym new_is) (opens_won closes fits))

-- ---- what a try adds to the run that the sender knows

module _ (body : List Raw) (closes : Bool) (seen : Control) (s t : SenderValue) (looked : HasLookedAt seen s t) where
  same_number : t.number ≡ s.number
  same_number = ap (λ (u : SenderValue). u.number) looked.trail_is

  same_ring : t.ring ≡ s.ring
  same_ring = ap (λ (u : SenderValue). u.ring) looked.trail_is

  pub looked_on : WentOn s t
  looked_on = record { grew = sender_step s t (Look seen) looked.trail_is looked.grew; ring_is = same_ring; number_is = same_number }

  further : (e : Event) (trail : Trail) (run : Run) → trail ≡ e ∷ t.trail → GrewBy (Sender t.number) e t.history run → Grew (Sender s.number) s.trail trail s.history run
  further e trail run is grew = grew_then _ _ _ _ _ _ _ _ same_number looked_on.grew (grew_step (Sender t.number) e t.trail trail t.history run is grew)

  pub exchanged_opened : (result : Result ReservationValue Refused) → IfOk result (λ r. IsWon body closes seen t r) → IfOk result (λ r. HasOpened s r)
  exchanged_opened (Ok r) won = record {
    grew = further _ r.trail r.history (ap (λ (x : ReservationValue). x.trail) won.trail_is) won.grew;
    ring_is = ap (λ (x : ReservationValue). x.ring) won.trail_is ∙ same_ring;
    number_is = ap (λ (x : ReservationValue). x.sender) won.trail_is ∙ same_number;
  }
  exchanged_opened (Err e) won = tt

  pub exchanged_back : (result : Result ReservationValue Refused) → IfErr result (λ e. (e.cause ≡ Contended) × IsLost body closes seen t e.sender) → IfErr result (λ e. WentOn s e.sender)
  exchanged_back (Ok r) lost = tt
  exchanged_back (Err e) lost = record {
    grew = further _ e.sender.trail e.sender.history (ap (λ (x : SenderValue). x.trail) lost.1.trail_is) lost.1.grew;
    ring_is = ap (λ (x : SenderValue). x.ring) lost.1.trail_is ∙ same_ring;
    number_is = ap (λ (x : SenderValue). x.number) lost.1.trail_is ∙ same_number;
  }

  -- a look at too little room
  pub full_then : TellsRoom t.ring.made_with.geometry (world t.history) → ring_size s < distance seen.prod seen.cons + length_with closes body → HasNoRoom (ring_size s) (length_with closes body) (world t.history)
  full_then tells full =
      let same : s.ring.made_with.geometry ≡ t.ring.made_with.geometry = sym (ap (λ (u : SenderValue). u.ring.made_with.geometry) looked.trail_is) in
      let seen_is : seen ≡ control t.ring.made_with.geometry (world t.history) = looked.seen_is ∙ ap (λ (g : ℕ). control g (world t.history)) same in
      tells (ring_size s) (length_with closes body) (subst (λ (c : Control). ring_size s < distance c.prod c.cons + length_with closes body) seen_is full)
