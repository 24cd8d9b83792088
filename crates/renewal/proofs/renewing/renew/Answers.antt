use Rattle.std.proofs.Common.{rules, ◌≡◌, ℕ, length, ap, subst, ◌∙◌}
use Rattle.ring.specs.Rings.{RingValue}
use Rattle.ring.specs.NewRings.{IsNewRing}
use Rattle.engine.specs.Ends.{IsEngineEnd}
use Rattle.engine.specs.Units.{UnitValue}
use Rattle.renewal.specs.Renewing.{IsUnmade}
use Rattle.renewal.proofs.Twins.{as_many}
use Rattle.renewal.proofs.Wholes.{still_whole}
use Rattle.renewal.proofs.renewing.renew.Goals as goal

pub returns-then-is_waiting-clause-whole : goal.returns-then-is_waiting-clause-whole
returns-then-is_waiting-clause-whole c = still_whole _ _ c.requires.senders c.requires.ring c.if-is_waiting.ensures.looked

pub join-old-requires-clause-senders : goal.join-old-requires-clause-senders
join-old-requires-clause-senders c = (still_whole _ _ c.requires.senders c.requires.ring c.if-is_waiting.ensures.looked).senders

pub returns-in-Ok-clause-ended : goal.returns-in-Ok-clause-ended
returns-in-Ok-clause-ended c =
    let looked = c.if-is_waiting.ensures.looked in
    let new = c.is_waiting.new.queue in
    let end = c.join-old.result in
    record {
      joined = new;
      looked = looked;
      end_is = subst (λ (r : RingValue). IsEngineEnd r new.senders.items new.engine end.summary end.counts end.caches.entries) looked.ring_is c.join-old.ensures.end;
      counts_are = c.join-old.ensures.counts ∙ ap (λ (u : UnitValue). u.counts) looked.unit_is;
      caches_are = c.join-old.ensures.caches ∙ ap (λ (u : UnitValue). u.caches) looked.unit_is;
    }

pub returns-in-Ok-clause-unused : goal.returns-in-Ok-clause-unused
returns-in-Ok-clause-unused c =
    let next = c.in-Ok.next in
    let many : c.len-many.result ≡ length c.is_waiting.new.queue.senders.items = search rules in
    subst (λ (n : ℕ). IsNewRing c.args.sizes.log2 n c.args.sizes.max_batches next.ring next.senders.items next.engine.consumer) (many ∙ as_many _ _ c.if-is_waiting.ensures.looked.senders_are)
    c.in-Ok.ensures.unused

pub returns-in-Ok-clause-whole : goal.returns-in-Ok-clause-whole
returns-in-Ok-clause-whole c = c.in-Ok.ensures.whole

pub returns-in-Err-clause-unmade : goal.returns-in-Err-clause-unmade
returns-in-Err-clause-unmade c other =
    let looked = c.if-is_waiting.ensures.looked in
    let many : c.len-many.result ≡ length c.is_waiting.new.queue.senders.items = search rules in
    subst (λ (n : ℕ). IsUnmade c.args.sizes n c.args.queue.engine.unit.caches.entries c.in-Err.fault) (many ∙ as_many _ _ looked.senders_are)
    (subst (λ (u : UnitValue). IsUnmade c.args.sizes c.len-many.result u.caches.entries c.in-Err.fault) looked.unit_is c.in-Err.ensures.unmade)

pub returns-in-Err-clause-whole : goal.returns-in-Err-clause-whole
returns-in-Err-clause-whole c = still_whole _ _ c.requires.senders c.requires.ring c.if-is_waiting.ensures.looked
