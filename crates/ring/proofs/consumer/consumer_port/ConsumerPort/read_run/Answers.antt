use Rattle.std.proofs.Common.{◌≡◌, ◌+◌, ℕ, List, [], ◌∷◌, length, length-append, Some, sym, ap, subst, ◌∙◌, arith}
use Rattle.std.specs.Prelude.{slice_get}
use Rattle.ring.specs.Runs.{Raw, Half, Trail, found_ready, half_read, half_of}
use Rattle.ring.specs.table.{PortValue}
use Rattle.ring.specs.consumer.{HasSeen}
use Rattle.ring.proofs.TableLemmas.Grown.{grew_more, grew_step}
use Rattle.ring.proofs.ConsumerLemmas.Reads.{read_more, run_more, trail_more, seen_first}
use Rattle.ring.proofs.consumer.consumer_port.ConsumerPort.read_run.Goals as goal

pub loop-offset-preserved : goal.loop-offset-preserved
loop-offset-preserved c =
    let i = c.loop-offset.invariant in
    let one : Raw = record { lo = c.read-lo.result; hi = c.read-hi.result } in
    let trail = trail_more c.read-lo.result c.read-hi.result c.loop-offset.self c.read-lo.new.self c.read-hi.new.self _ c.read-lo.ensures.trail c.read-hi.ensures.trail in
    record {
      many =
          let m = i.many in
          let grown : length c.push.new.self ≡ length c.loop-offset.commands + 1 = ap (λ (l : List Raw). length l) c.push.ensures ∙ length-append c.loop-offset.commands (one ∷ []) in
          omega (arith, m, grown);
      port = run_more c.read-lo.result c.read-hi.result c.args.self.now c.loop-offset.self c.read-lo.new.self c.read-hi.new.self c.loop-offset.commands _ _ i.many i.port c.read-lo.ensures.trail c.read-hi.ensures.trail c.push.ensures;
      history = grew_more _ _ _ _ _ _ _ i.history (grew_more _ _ _ _ _ _ _ (grew_step _ _ _ _ _ _ (ap (λ (p : PortValue). p.trail) c.read-lo.ensures.trail) c.read-lo.ensures.history)
          (grew_step _ _ _ _ _ _ (ap (λ (p : PortValue). p.trail) c.read-hi.ensures.trail) c.read-hi.ensures.history));
      ready = ap found_ready trail ∙ i.ready;
      read = subst (λ (x : List Raw × Trail). (k : ℕ) (raw : Raw) (half : Half) → slice_get x.0 k ≡ Some raw → half_read k half x.1 ≡ Some (half_of half raw))
          (λ k. (sym c.push.ensures k, sym trail k))
          (read_more c.read-lo.result c.read-hi.result c.loop-offset.commands c.loop-offset.offset c.loop-offset.self.trail i.many i.read);
    }

pub returns-clause-read : goal.returns-clause-read
returns-clause-read c =
    let i = c.loop-offset.invariant in
    let m = i.many in
    let some = c.requires.some in
    let all = c.loop-offset-test.false in
    let end = c.loop-offset.auto.offset-end in
    let found = i.ready in
    let ready = c.requires.ready in
    record {
      some = omega (arith, m, some, all);
      ready = omega (arith, m, end, found, ready);
      read = i.read;
      seen = λ raw rest is. subst (λ (t : Trail). HasSeen t raw) (sym (ap (λ (x : PortValue). x.trail) i.port)) (seen_first _ _ raw rest is);
    }
