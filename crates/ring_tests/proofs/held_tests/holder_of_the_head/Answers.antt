use Rattle.std.proofs.Common.{rules, ◌≡◌, ℕ, sym, ap, subst, ◌∙◌}
use Rattle.ring.specs.Runs.{Sender, Trail, trail_of, IsSettled, OnlyOf}
use Rattle.ring_tests.proofs.Holding.{the_other_holds, same_between}
use Rattle.ring_tests.proofs.held_tests.holder_of_the_head.Goals as goal

pub returns-clause-told : goal.returns-clause-told
returns-clause-told g c =
    let mine : Trail = c.args.seats.sender.trail in
    let took = c.expect_unwritten-consumer.ensures in
    let known = c.expect_unwritten-consumer.result.history in
    let two : c.expect_unwritten-consumer.result.ring.made_with.senders ≡ 2 = search rules in
    let id : c.meet.new.sender.number ≡ 0 = search rules in
    let trail : c.meet.new.sender.trail ≡ mine = search rules in
    let before = ap (λ (n : ℕ). trail_of (Sender n) c.meet.new.self.history) (sym c.requires.id) ∙ c.meet.ensures.of_sender.stands.trail_is in
    let after = ap (λ (n : ℕ). trail_of (Sender n) c.meet-2.new.self.history) (sym id) ∙ c.meet-2.ensures.of_sender.stands.trail_is ∙ trail in
    let stayed : trail_of (Sender 0) known ≡ mine =
    same_between (Sender 0) mine _ _ c.meet.new.self.history known c.meet-2.new.self.history took.grew.run_is c.meet-2.ensures.known_to_consumer.run_is before after in
    let holder = the_other_holds known _ took.holder c.waiting_law.ensures.unsettled
    (subst (λ (n : ℕ). OnlyOf n known) two c.trail_stands_in_a_run.ensures.history.stands.only)
    (subst IsSettled (sym stayed) c.requires.settled) took.held in
    record {
      before = c.meet.new.self;
      after = c.expect_unwritten-consumer.result;
      before_is = c.meet.ensures.consumer;
      until_then = c.meet.ensures.known_to_consumer;
      took = took;
      holder_is = holder ∙ sym (c.id.ensures ∙ c.requires.held);
      after_is = c.meet-2.ensures.consumer;
      since_then = c.meet-2.ensures.known_to_consumer;
    }
