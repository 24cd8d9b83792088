use Rattle.std.proofs.Common.{◌≡◌, inl, inr, true, false, refl, sym, subst, ◌∙◌}
use Rattle.hardware_queue.specs.Queues.{QueueValue}
use Rattle.hardware_queue.specs.Supplying.{CanHave, HasLooked}
use Rattle.shadow_queue.specs.Messages.{AreToldBy}
use Rattle.shadow_queue.proofs.Counting.{says_nothing, heard, broken_or_not, was_broken, broken_is_not_running}
use Rattle.shadow_queue.proofs.messages.poll_msi.Goals as goal

pub returns-then-not-can_have-clause-unheard : goal.returns-then-not-can_have-clause-unheard
returns-then-not-can_have-clause-unheard c =
    let told = subst (λ (q : QueueValue). AreToldBy c.args.message q c.in_ok-words.words) c.queue.ensures c.in_ok-words.ensures.told in
    let can = subst (λ (q : QueueValue). ¬ CanHave c.in_ok-words.words q) c.queue-2.ensures (λ can. let no : false ≡ true = c.if-not-can_have.ensures.1 can in absurd (cc)) in
    inr (says_nothing c.args.message _ c.in_ok-words.words told can)

pub returns-in-Consumed-clause-heard : goal.returns-in-Consumed-clause-heard
returns-in-Consumed-clause-heard c =
    let told = subst (λ (q : QueueValue). AreToldBy c.args.message q c.in_ok-words.words) c.queue.ensures c.in_ok-words.ensures.told in
    elim (broken_or_not c.args.forwarder.now.owner.state) [
      | inl broken ↦ let e = sym c.in-Consumed.is ∙ (c.poll_words.ensures.broken broken.0 broken.1).0 in absurd (cc)
      | inr unbroken ↦ heard c.args.message c.in-Consumed.count _ _ c.in_ok-words.words told (subst (HasLooked c.in_ok-words.words c.args.forwarder.now.owner.queue c.poll_words.new.self.owner.queue) c.in-Consumed.is (c.poll_words.ensures.looked unbroken))
    ]

pub returns-in-Stopped : goal.returns-in-Stopped
returns-in-Stopped c =
    let told = subst (λ (q : QueueValue). AreToldBy c.args.message q c.in_ok-words.words) c.queue.ensures c.in_ok-words.ensures.told in
    let can = subst (CanHave c.in_ok-words.words) c.queue-2.ensures (c.if-not-can_have.ensures.0 refl) in
    let broken = was_broken c.args.message c.in_ok-words.words _ _ _ c.poll_words.result told can c.in-Stopped.is c.poll_words.ensures.looked in
    record {
      heard = tt;
      running = tt;
      settled = tt;
      was_running = tt;
      unheard = inl (broken_is_not_running _ broken);
      kept = (c.poll_words.ensures.broken broken.0 broken.1).1;
      consumed = tt;
      order = tt;
      lost = c.poll_words.ensures.lost;
      repeated = c.poll_words.ensures.repeated;
      history = c.poll_words.ensures.history;
      ring = c.poll_words.ensures.ring;
    }
