use Rattle.std.proofs.Common.{◌≡◌, ◌+◌, arith, take-add, length-drop}
use Rattle.std.proofs.KnownBytes.{Appends-kept, Appends-trans}
use Rattle.std.proofs.lemmas.List.{take_rest}
use Rattle.script.proofs.sending.send.Goals as goal
use Rattle.script.proofs.sending.send.Goals.{in-Ok, in-Err+else-ne}

pub writes-preserved : goal.writes-preserved
writes-preserved g c =
    let before = c.writes.invariant in
    let bytes = c.args.bytes.now in
    elim c.match-write.branch [
      | in-Ok w ↦
          let bound = rw (take_rest bytes c.writes.taken) at w.in-Ok.ensures.bound in
          let more = rw (take_rest bytes c.writes.taken) at w.in-Ok.ensures.bytes in
          let taken : c.match-write.taken ≡ c.writes.taken + w.in-Ok.count = w.taken-is in
          rw (taken, take-add c.writes.taken w.in-Ok.count bytes) (record {
            bound = omega (arith, bound, length-drop c.writes.taken bytes);
            written = Appends-trans _ _ _ _ _ before.written more;
          })
      | in-Err+else-ne w ↦ rw w.taken-is (record {
        bound = before.bound;
        written = Appends-kept _ _ _ _ before.written w.in-Err.ensures.bytes;
      })
    ]
