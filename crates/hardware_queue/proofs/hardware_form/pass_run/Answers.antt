use Rattle.std.proofs.Common.{◌≡◌, List, length, Some, sym, subst, ◌∙◌, arith}
use Rattle.cmdcodec.specs.declared.raw.Raw.{Raw}
use Rattle.ringcore.specs.world.World.{outcome_of}
use Rattle.ringcore.specs.declared.world.event.Outcome.TheVariants.{Replaced}
use Rattle.hardware_queue.proofs.PassLemmas.{Passes, passing_more, passing_ends, fails, none_behind}
use Rattle.hardware_queue.proofs.hardware_form.pass_run.Goals as goal

pub loop-place-preserved : goal.loop-place-preserved
loop-place-preserved g c =
    let i = c.loop-place.invariant in
    let is : Passes c.args.run.now.raws c.loop-place.out.items c.loop-place.place = record { out_is = i.out_is; legal = i.legal } in
    let more = passing_more _ _ _ c.unwrap.result c.in-Some.command is (sym c.get.ensures ∙ c.unwrap.ensures) (sym c.pass.ensures ∙ c.in-Some.is) in
    record {
      out_is = c.push.ensures.items ∙ more.out_is;
      legal = more.legal;
    }

pub returns : goal.returns
returns g c =
    let i = c.loop-place.invariant in
    let v = c.len-place-end.ensures.value in
    let all : c.loop-place.place ≡ length c.args.run.now.raws = omega arith in
    passing_ends _ _ c.loop-place.place (record { out_is = i.out_is; legal = i.legal }) (omega (arith, all)) (none_behind _ _ all)

pub returns-in_default : goal.returns-in_default
returns-in_default g c =
    let i = c.loop-place.invariant in
    let v = c.len-place-end.ensures.value in
    let test = c.loop-place-test.true in
    let raws : List Raw = c.args.run.now.raws in
    passing_ends raws _ c.loop-place.place (record { out_is = i.out_is; legal = i.legal }) (omega (arith, test, v))
    (λ raw at.
    let one : Some c.unwrap.result ≡ Some raw = sym c.unwrap.ensures ∙ c.get.ensures ∙ at in
    let same : c.unwrap.result ≡ raw = cc in
    subst (λ (r : Raw). Replaced ≡ outcome_of r) same (fails c.unwrap.result (sym c.pass.ensures ∙ c.in_default.is)))
