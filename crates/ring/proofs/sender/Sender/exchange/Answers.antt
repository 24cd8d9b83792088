use Rattle.std.proofs.Common.{rules, ◌≡◌, ◌∷◌, sym, subst}
use Rattle.ring.specs.sender.{SenderValue, HasBatchLeft, Fits, IsWon, Tally, IsOpen, ReservationValue}
use Rattle.ring.specs.table.{WentOn, PortValue, HasWon, IsWonOrLost}
use Rattle.ring.specs.Runs.{Who, Sender, Won, looked}
use Rattle.ringcore.specs.machine.StepAnswers.{next_number}
use Rattle.std.specs.Prelude.{Some, Bool, true}
use Rattle.ring.proofs.SenderLemmas.Tries.{may_try, opens}
use Rattle.ring.proofs.sender.Sender.exchange.Goals as goal

pub exchange-requires-clause-may : goal.exchange-requires-clause-may
exchange-requires-clause-may g c =
    may_try c.self.inside.port c.self.inside.tally.sender c.args.self _ _ _ _ c.self.view_is c.self.invariant.settled c.requires.body c.requires.many c.requires.seen c.requires.room c.requires.left

pub invariant_of-result : goal.invariant_of-result
invariant_of-result g c =
    let found = subst (λ (s : SenderValue). looked s.trail ≡ Some c.args.seen) (sym c.self.view_is) c.requires.seen in
    let left = subst HasBatchLeft (sym c.self.view_is) c.requires.left in
    let fits = subst (Fits c.args.batch g.K.BatchKind.closes) (sym c.self.view_is) c.requires.fits in
    let geometry = subst (λ (s : SenderValue). c.args.seen.prod.geometry ≡ s.ring.made_with.geometry) (sym c.self.view_is) c.requires.control.prod_geometry in
    let won : IsWonOrLost c.args.batch g.K.BatchKind.closes c.args.seen c.self.inside.port c.exchange.new.self true =
    subst (λ (q : Bool × Bool). IsWonOrLost c.args.batch q.0 c.args.seen c.self.inside.port c.exchange.new.self q.1) (λ k. (c.closes.ensures k, c.if-exchange.true k)) c.exchange.ensures in
    subst (λ (t : Tally). IsOpen c.exchange.new.self t c.args.batch g.K.BatchKind.closes c.args.seen.prod 0 0) (sym c.with_batch.ensures) (opens c.self.inside.port c.self.inside.tally c.args.batch c.args.seen c.self.invariant.tallied c.requires.body found left geometry g.K.BatchKind.closes _ won.trail_is fits)

pub returns-then-exchange-clause-won : goal.returns-then-exchange-clause-won
returns-then-exchange-clause-won g c =
    let port : PortValue = c.self.inside.port in let new : PortValue = c.exchange.new.self in
    let won : HasWon c.args.batch g.K.BatchKind.closes c.args.seen port new =
    subst (λ (q : Bool × Bool). IsWonOrLost c.args.batch q.0 c.args.seen port new q.1) (λ k. (c.closes.ensures k, c.if-exchange.true k)) c.exchange.ensures in
    let who_is : port.who ≡ Sender c.self.inside.tally.sender = c.self.invariant.tallied.who_is in
    let opened : ReservationValue = record {
      ring = new.ring;
      sender = c.with_batch.result.sender;
      body = c.args.batch;
      closes = g.K.BatchKind.closes;
      trail = new.trail;
      history = new.history;
      written = 0;
      flipped = 0;
    } in
    subst (λ (s : SenderValue). IsWon c.args.batch g.K.BatchKind.closes c.args.seen s opened) c.self.view_is record {
      trail_is = search rules;
      grew = record {
        before = won.grew.before;
        went_on = subst (λ (w : Who). WentOn w port.history won.grew.before) who_is won.grew.went_on;
        run_is = subst (λ (w : Who). new.history ≡ (w, Won c.args.batch (next_number port.trail g.K.BatchKind.closes)) ∷ won.grew.before) who_is won.grew.run_is;
      };
      stood = won.stood;
    }
