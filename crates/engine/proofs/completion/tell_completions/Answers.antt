use Rattle.std.proofs.Common.{◌≡◌, ℕ, ◌+◌, List, Some, None, sym, subst, ◌∙◌, arith}
use Rattle.std.specs.Prelude.{slice_get, take}
use Rattle.cmdcodec.specs.declared.raw.Raw.{Raw}
use Rattle.engine.specs.declared.completion.Completion.{Completion}
use Rattle.engine.specs.Completions.{completion_of, AreTold}
use Rattle.engine.proofs.Telling.{told_without, told_with}
use Rattle.engine.proofs.completion.tell_completions.Goals as goal
use Rattle.engine.proofs.completion.tell_completions.Goals.{in-Some+then-many-completions, in_default, in_default-via-in-None-1, in_default-via-in-Some+else-many-completions}

pub loop-place-preserved : goal.loop-place-preserved
loop-place-preserved g c =
    let raws : List Raw = c.args.run.now.raws in
    let before : List Completion = c.args.completions.now in
    let i = c.loop-place.invariant in
    let few = i.few in
    let test = c.loop-place-test.true in
    let at : slice_get raws c.loop-place.place ≡ Some c.unwrap.result = sym c.get.ensures ∙ c.unwrap.ensures in elim c.match-completion_of.branch [
      | in-Some+then-many-completions w ↦
          let completion = w.in-Some.completion in
          let is : completion_of c.unwrap.result ≡ Some completion = sym c.completion_of.ensures ∙ w.in-Some.is in
          let more = w.many-is in
          record {
            few = omega (arith, few, more);
            told = λ room.
                subst (λ (x : List Completion × ℕ). AreTold (take (c.loop-place.place + 1) raws) before x.0 x.1) (λ k. (sym w.completions-is k, sym w.many-is k))
                (told_with raws c.loop-place.place c.unwrap.result completion before c.loop-place.completions c.loop-place.many at is (omega (arith, few, test, room)) (i.told room));
          }
      | in_default w ↦
          let same = w.many-is in
          record {
            few = omega (arith, few, same);
            told = λ room.
                subst (λ (x : List Completion × ℕ). AreTold (take (c.loop-place.place + 1) raws) before x.0 x.1) (λ k. (sym w.completions-is k, sym w.many-is k))
                (elim w.in_default.branch [
                  | in_default-via-in-None-1 v ↦
                      let none : c.completion_of.result ≡ None = cc in
                      told_without raws c.loop-place.place c.unwrap.result before c.loop-place.completions c.loop-place.many at (sym c.completion_of.ensures ∙ none) (i.told room)
                  | in_default-via-in-Some+else-many-completions v ↦
                      let full = v.if-many-completions.false in
                      let long = c.loop-place.auto.completions in absurd (omega (arith, full, long, few, test, room))
                ]);
          }
    ]
