use Rattle.std.proofs.Common.{sym, take, drop, take-append-drop}
use Rattle.script.proofs.sending.write_whole.Goals as goal

pub returns-in-Err-clause-err : goal.returns-in-Err-clause-err
returns-in-Err-clause-err g c =
    let count = c.send-sent.result.0 in
    let bytes = c.args.bytes.now in
    record {
      front = take count bytes;
      rest = drop count bytes;
      split = sym (take-append-drop count bytes);
      written = c.send-sent.ensures.taken;
    }
