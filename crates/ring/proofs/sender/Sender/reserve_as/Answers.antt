use Rattle.std.proofs.Common.{rules, sym, subst}
use Rattle.ring.specs.Runs.{world}
use Rattle.ring.specs.sender.{Cause, SenderValue, HasLookedAt, IsFull, IsRefused, TellsRoom, WentOn}
use Rattle.ring.proofs.SenderLemmas.Tries.{looked_on, exchanged_opened, exchanged_back, full_then}
use Rattle.ring.proofs.SenderLemmas.Overtaken.{refused_then}
use Rattle.ring.proofs.sender.Sender.reserve_as.Goals as goal

pub returns-then-seen-clause-given_back : goal.returns-then-seen-clause-given_back
returns-then-seen-clause-given_back g c =
    let looked : HasLookedAt c.look-seen.result c.args.self c.look-seen.new.self = search rules in
    subst (λ (t : SenderValue). WentOn c.args.self t) (sym c.refused-then-seen.ensures.sender)
    (looked_on c.args.batch g.K.BatchKind.closes _ _ _ looked)

pub returns-then-distance-many-clause-given_back : goal.returns-then-distance-many-clause-given_back
returns-then-distance-many-clause-given_back g c =
    let looked : HasLookedAt c.look-seen.result c.args.self c.look-seen.new.self = search rules in
    subst (λ (t : SenderValue). WentOn c.args.self t) (sym c.refused-then-distance-many.ensures.sender)
    (looked_on c.args.batch g.K.BatchKind.closes _ _ _ looked)

pub returns-then-distance-many-clause-refused : goal.returns-then-distance-many-clause-refused
returns-then-distance-many-clause-refused g c =
    let looked : HasLookedAt c.look-seen.result c.args.self c.look-seen.new.self = search rules in
    let full : IsFull c.args.batch g.K.BatchKind.closes c.args.self c.look-seen.new.self = record {
      fits = search rules;
      left = search rules;
      seen = c.look-seen.result;
      unclosed = c.if-seen.false;
      full = search rules;
      looked = looked;
      full_then = full_then c.args.batch g.K.BatchKind.closes _ _ _ looked (subst (λ (t : SenderValue). TellsRoom t.ring.made_with.geometry (world t.history)) c.sender-2.view_is c.looks_tell.ensures.room) (search rules);
    } in
    subst (λ (q : Cause × SenderValue). IsRefused c.args.batch g.K.BatchKind.closes c.args.self q.0 q.1)
    (λ k. (sym c.refused-then-distance-many.ensures.cause k, sym c.refused-then-distance-many.ensures.sender k)) full

pub returns-clause-refused : goal.returns-clause-refused
returns-clause-refused g c =
    let looked : HasLookedAt c.look-seen.result c.args.self c.look-seen.new.self = search rules in
    refused_then c.args.batch g.K.BatchKind.closes c.look-seen.result c.args.self c.look-seen.new.self looked (search rules) (search rules) (search rules) c.exchange.result (search rules)

pub returns-clause-opened : goal.returns-clause-opened
returns-clause-opened g c =
    let looked : HasLookedAt c.look-seen.result c.args.self c.look-seen.new.self = search rules in
    exchanged_opened c.args.batch g.K.BatchKind.closes _ _ _ looked c.exchange.result c.exchange.ensures.won

pub returns-clause-given_back : goal.returns-clause-given_back
returns-clause-given_back g c =
    let looked : HasLookedAt c.look-seen.result c.args.self c.look-seen.new.self = search rules in
    exchanged_back c.args.batch g.K.BatchKind.closes _ _ _ looked c.exchange.result (search rules)
