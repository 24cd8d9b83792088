use Rattle.std.proofs.Common.{rules, ◌≡◌, ◌++◌, length, ap, ◌∙◌, Option}
use Rattle.std.specs.Option.{option_to_list}
use Rattle.ring.specs.sender.Senders.{SenderValue}
use Rattle.engine_tests.proofs.TakenApart.{taken_apart}
use Rattle.engine_tests.proofs.renewal_tests.pairs.pair_of.Goals as goal

pub invariant_of-result : goal.invariant_of-result
invariant_of-result c =
    let are = taken_apart _ _ _ _ c.unwrap-first.result c.unwrap-second.result c.requires.senders (let two : length c.args.queue.senders.items ≡ 2 = search (rules, c.len.ensures, c.if-len-ne2.false) in two)
    (c.pop.ensures.items ∙ ap (λ (o : Option SenderValue). c.pop.new.self.items ++ option_to_list o) c.unwrap-second.ensures)
    (c.pop-2.ensures.items ∙ ap (λ (o : Option SenderValue). c.pop-2.new.self.items ++ option_to_list o) c.unwrap-first.ensures) in
    record {
      two = are.two;
      first_ring = are.first_is.0;
      first_number = are.first_is.1;
      second_ring = are.second_is.0;
      second_number = are.second_is.1;
      none_spare = are.rest_is;
      engine_ring = c.requires.ring;
    }
