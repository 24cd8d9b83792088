use Rattle.std.proofs.Common.{◌≡◌, ◌≤◌, ◌∷◌, ℕ, List, ap, sym, subst, arith}
use Rattle.std.proofs.lemmas.List.Elements.{All-push}
use Rattle.std.specs.List.{All}
use Rattle.ringcore.specs.declared.world.event.Event.TheVariants.{Ask}
use Rattle.ringcore.specs.world.Trails.{Trail}
use Rattle.ringcore.specs.world.Laws.{own_batches}
use Rattle.ring.specs.Rings.{RingValue}
use Rattle.ring.specs.sender.Senders.{SenderValue}
use Rattle.stress.specs.Plans.{planned}
use Rattle.stress.specs.Workers.{assignment_of, HasSent}
use Rattle.stress.specs.Reports.{HaveAsked}
use Rattle.stress.proofs.Last.{last_of, ahead_of, alike}
use Rattle.stress.proofs.Asked.{one_more_asked}
use Rattle.stress.proofs.ending.+ask_all.Goals as goal

pub ask_all-senders-requires : goal.ask_all-senders-requires
ask_all-senders-requires t c = (
  omega (arith, c.in-Some.ensures.len),
  (
    omega (arith, c.in-Some.ensures.len),
    (
      c.requires.empty,
      (
        ahead_of (λ (s : SenderValue). s.ring ≡ c.args.ring.now) c.args.senders.items c.pop.new.self.items c.in-Some.sender c.requires.ring c.in-Some.ensures.items,
        ahead_of (HasSent c.args.plan) c.args.senders.items c.pop.new.self.items c.in-Some.sender c.requires.sent c.in-Some.ensures.items,
      ),
    ),
  ),
)

pub done_up_to-found-requires : goal.done_up_to-found-requires
done_up_to-found-requires t c =
    last_of (λ (s : SenderValue). s.ring ≡ c.args.ring.now) c.args.senders.items c.pop.new.self.items c.in-Some.sender c.requires.ring c.in-Some.ensures.items

pub returns-clause-assignments : goal.returns-clause-assignments
returns-clause-assignments t c =
    alike (assignment_of c.args.plan) (assignment_of c.args.plan) c.push_reserved-2.new.self.items c.ask_all-senders.result.0.items c.done_up_to-found.new.self c.args.senders.items
    c.pop.new.self.items c.in-Some.sender c.push_reserved-2.ensures.items c.in-Some.ensures.items c.ask_all-senders.ensures.assignments
    (ap (assignment_of c.args.plan) c.done_up_to-found.ensures.asked)

pub returns-clause-sent : goal.returns-clause-sent
returns-clause-sent t c =
    let before : HasSent c.args.plan c.in-Some.sender =
    last_of (HasSent c.args.plan) c.args.senders.items c.pop.new.self.items c.in-Some.sender c.requires.sent c.in-Some.ensures.items in
    let number_is : c.done_up_to-found.new.self.number ≡ c.in-Some.sender.number = ap (λ (s : SenderValue). s.number) c.done_up_to-found.ensures.asked in
    let trail_is : c.done_up_to-found.new.self.trail ≡ Ask c.done_up_to-found.result ∷ c.in-Some.sender.trail = ap (λ (s : SenderValue). s.trail) c.done_up_to-found.ensures.asked in
    let one : HasSent c.args.plan c.done_up_to-found.new.self =
    subst (λ (x : ℕ × Trail). own_batches x.0 x.1 ≡ planned c.args.plan x.0 c.args.plan.batches) (λ k. (sym number_is k, sym trail_is k)) before in
    subst (λ (l : List SenderValue). All (HasSent c.args.plan) l) (sym c.push_reserved-2.ensures.items)
    (All-push (HasSent c.args.plan) c.ask_all-senders.result.0.items c.done_up_to-found.new.self c.ask_all-senders.ensures.sent one)

pub returns-clause-asked : goal.returns-clause-asked
returns-clause-asked t c =
    let ring_is : c.in-Some.sender.ring ≡ c.args.ring.now =
    last_of (λ (s : SenderValue). s.ring ≡ c.args.ring.now) c.args.senders.items c.pop.new.self.items c.in-Some.sender c.requires.ring c.in-Some.ensures.items in
    let few : c.done_up_to-found.result ≤ c.args.ring.now.made_with.max_batches =
    subst (λ (r : RingValue). c.done_up_to-found.result ≤ r.made_with.max_batches) ring_is c.done_up_to-found.ensures.few in
    let more = one_more_asked _ _ _ c.done_up_to-found.new.self c.done_up_to-found.result c.in-Some.sender.trail c.ask_all-senders.ensures.asked few
    (ap (λ (s : SenderValue). s.trail) c.done_up_to-found.ensures.asked) in
    subst (λ (x : List SenderValue × List ℕ). HaveAsked c.args.ring.now.made_with.max_batches x.0 x.1)
    (λ k. (sym c.push_reserved-2.ensures.items k, sym c.push_reserved.ensures.items k)) more
