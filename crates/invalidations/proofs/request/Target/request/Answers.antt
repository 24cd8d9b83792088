use Rattle.std.proofs.Common.{sym, ◌∙◌, ◌<◌, ◌*◌, arith}
use Rattle.std.proofs.lemmas.Bool.{ltb-true}
use Rattle.invalidations.specs.Spaces.{size_of}
use Rattle.invalidations.proofs.RoundingLemmas.{rounded_fits}
use Rattle.invalidations.proofs.request.Target.request.Goals as goal

pub returns-clause-fits : goal.returns-clause-fits
returns-clause-fits c =
    let last = c.in_ok-last.last in
    let inside : last < size_of c.args.self.now.space * 4096 = ltb-true last (size_of c.args.self.now.space * 4096) (sym c.has_byte.ensures ∙ c.if-not-has_byte.false) in
    rounded_fits c.args.self.now c.args.bytes.first c.args.bytes.length (omega arith) (omega (arith, inside, c.in_ok-last.ensures.1))
