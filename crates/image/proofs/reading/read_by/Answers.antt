use Rattle.std.proofs.Common.{length, take, arith, ap, ◌∙◌}
use Rattle.std.proofs.lemmas.List.{length-append, length-take}
use Rattle.std.proofs.KnownBytes.{Consumes-nil, Consumes-trans}
use Rattle.image.proofs.reading.read_by.Goals as goal

pub reads-init : goal.reads-init
reads-init g c = record { read = rw c.new-bytes.ensures.items (Consumes-nil (g.R.Read.remaining c.args.input.now)); room = c.requires; turns = omega arith }

pub reads-preserved : goal.reads-preserved
reads-preserved g c = record {
  read = rw c.in_default.ensures.items (Consumes-trans _ (g.R.Read.remaining c.reads.input) _ c.reads.bytes.items _ c.reads.invariant.read c.in-Ok.ensures.ok);
  room = omega arith;
  turns =
      let grown = ap length c.in_default.ensures.items ∙ length-append c.reads.bytes.items (take c.in-Ok.count c.read_once.new.buffer) in
      let part = length-take c.in-Ok.count c.read_once.new.buffer in
      omega (arith, grown, part, c.reads.invariant.turns, c.in-Ok.ensures.bound, c.if-count-eq0.false);
}

pub returns-clause-endless : goal.returns-clause-endless
returns-clause-endless g c endless = (c.reads.bytes.items, c.reads.invariant.read, omega (arith, c.reads.invariant.turns))
