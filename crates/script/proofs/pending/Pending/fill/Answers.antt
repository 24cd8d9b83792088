use Rattle.std.proofs.Common.{◌≡◌, ◌-◌, ◌++◌, take, drop, ap, ◌∙◌, arith}
use Rattle.std.proofs.lemmas.Bool.Decides.{nat_tests}
use Rattle.std.proofs.lemmas.Result.{err_from_is_err_and}
use Rattle.script.proofs.BufferLemmas.{reads_behind, held_after_read, held_after_nothing, held_after_failure}
use Rattle.script.proofs.pending.Pending.fill.Goals as goal

pub returns-in_err-count-clause-err : goal.returns-in_err-count-clause-err
returns-in_err-count-clause-err g c =
    let returned = err_from_is_err_and c.from_residual.result c.from_residual.ensures.1 in
    let p = c.self.inside in
    let new = c.read_behind.new.buffer in
    let behind = reads_behind p.buffer.items c.copy_within.new.self.items c.as_mut_slice.result.now new p.at p.filled (omega arith) (omega arith) c.copy_within.ensures.items c.as_mut_slice.ensures.value
    (omega (arith, c.read_behind.auto.buffer)) c.read_behind.ensures.front in
    rw returned.1 (held_after_failure p.buffer.items new _ p.at p.filled _ behind (omega arith) ∙ c.self.view_is, c.in_err-count.ensures.err)

pub returns-clause-part : goal.returns-clause-part
returns-clause-part g c =
    let p = c.self.inside in
    let new = c.read_behind.new.buffer in
    let count = c.in_ok-count.count in
    let bound = c.in_ok-count.ensures.bound in
    let behind = reads_behind p.buffer.items c.copy_within.new.self.items c.as_mut_slice.result.now new p.at p.filled (omega arith) (omega arith) c.copy_within.ensures.items c.as_mut_slice.ensures.value
    (omega (arith, c.read_behind.auto.buffer)) c.read_behind.ensures.front in (
      take count (drop (p.filled - p.at) new),
      held_after_read p.buffer.items new _ p.at p.filled _ count behind (omega arith) (omega arith) ∙ ap (λ held. held ++ take count (drop (p.filled - p.at) new)) c.self.view_is,
      c.in_ok-count.ensures.ok,
    )

pub returns-clause-end : goal.returns-clause-end
returns-clause-end g c none =
    let p = c.self.inside in
    let new = c.read_behind.new.buffer in
    let count = c.in_ok-count.count in
    let nothing : count ≡ 0 = grind (arith, nat_tests, none) in
    let behind = reads_behind p.buffer.items c.copy_within.new.self.items c.as_mut_slice.result.now new p.at p.filled (omega arith) (omega arith) c.copy_within.ensures.items c.as_mut_slice.ensures.value
    (omega (arith, c.read_behind.auto.buffer)) c.read_behind.ensures.front in
    (held_after_nothing p.buffer.items new _ p.at p.filled _ count behind (omega arith) nothing ∙ c.self.view_is, c.in_ok-count.ensures.end nothing)
