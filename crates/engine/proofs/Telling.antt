-- What is told of the commands of a run, one after another.
use Rattle.std.proofs.Common.{◌≡◌, ℕ, suc, ◌+◌, ◌<◌, ◌≤◌, List, [], ◌∷◌, ◌++◌, length, get_or, drop, Option, Some, None, refl, sym, ap, ap₂, subst, ◌∙◌, arith, append_assoc, length-append}
use Rattle.std.proofs.lemmas.List.{append-nil}
use Rattle.std.proofs.lemmas.List.Elements.{filter_map-append}
use Rattle.std.proofs.Math.Seq.{drop-cons, set-append_seam}
use Rattle.std.specs.Prelude.{slice_get, take, set}
use Rattle.std.specs.List.{cons_option}
use Rattle.cmdcodec.specs.declared.raw.Raw.{Raw}
use Rattle.engine.specs.declared.completion.Completion.{Completion}
use Rattle.engine.specs.Completions.{completion_of, completions_of, AreTold}
use Rattle.engine.proofs.Running.{take_one_more}

-- Where nothing was told, the list is as it was.
pub told_nothing : (list : List Completion) → AreTold [] list list 0
told_nothing list = record { many_are = refl; new_is = refl }

-- If there is room for no command, nothing is told of none.
pub told_of_none : (raws : List Raw) (count : ℕ) (list : List Completion) → length list ≡ 0 → count ≤ length list → AreTold (take count raws) list list 0
told_of_none raws count list empty few =
    subst (λ (n : ℕ). AreTold (take n raws) list list 0) (let none : 0 ≡ count = omega (arith, empty, few) in none) (told_nothing list)

-- What one more command completes comes behind.
completions_with : (raws : List Raw) (place : ℕ) (raw : Raw) (o : Option Completion) → slice_get raws place ≡ Some raw → completion_of raw ≡ o
    → completions_of (take (place + 1) raws) ≡ completions_of (take place raws) ++ cons_option o []
completions_with raws place raw o at is =
    ap completions_of (take_one_more raws place raw at) ∙ filter_map-append completion_of (take place raws) (raw ∷ [])
    ∙ ap (λ (p : Option Completion). completions_of (take place raws) ++ cons_option p []) is

-- One more command that completes nothing.
pub told_without : (raws : List Raw) (place : ℕ) (raw : Raw) (old now : List Completion) (many : ℕ) → slice_get raws place ≡ Some raw → completion_of raw ≡ None
    → AreTold (take place raws) old now many → AreTold (take (place + 1) raws) old now many
told_without raws place raw old now many at is told = record {
  many_are = told.many_are ∙ ap (λ (l : List Completion). length l) same;
  new_is = told.new_is ∙ ap (λ (l : List Completion). l ++ drop many old) same;
}
  where
    same : completions_of (take place raws) ≡ completions_of (take (place + 1) raws)
    same = sym (completions_with raws place raw None at is ∙ append-nil (completions_of (take place raws)))

-- One more is written behind those that were told.
written_behind : (told : List Completion) (old now : List Completion) (many : ℕ) (completion : Completion) → many < length old → many ≡ length told
    → now ≡ told ++ drop many old → set now many completion ≡ (told ++ completion ∷ []) ++ drop (many + 1) old
written_behind told old now many completion room many_are now_is =
    ap₂ (λ (l : List Completion) (n : ℕ). set l n completion) (now_is ∙ ap (λ (l : List Completion). told ++ l) (drop-cons old many completion room)) many_are
    ∙ set-append_seam told (get_or old many completion) (drop (suc many) old) completion
    ∙ sym (append_assoc told (completion ∷ []) (drop (suc many) old))
    ∙ ap (λ (n : ℕ). (told ++ completion ∷ []) ++ drop n old) (let e : suc many ≡ many + 1 = omega arith in e)

-- One more command that completes something.
pub told_with : (raws : List Raw) (place : ℕ) (raw : Raw) (completion : Completion) (old now : List Completion) (many : ℕ) → slice_get raws place ≡ Some raw
    → completion_of raw ≡ Some completion → many < length old → AreTold (take place raws) old now many
    → AreTold (take (place + 1) raws) old (set now many completion) (many + 1)
told_with raws place raw completion old now many at is room told = record {
  many_are =
      let m = told.many_are in
      let longer = length-append (completions_of (take place raws)) (completion ∷ []) in
      let same = ap (λ (l : List Completion). length l) more in
      omega (arith, m, longer, same);
  new_is = written_behind (completions_of (take place raws)) old now many completion room told.many_are told.new_is ∙ ap (λ (l : List Completion). l ++ drop (many + 1) old) (sym more);
}
  where
    more : completions_of (take (place + 1) raws) ≡ completions_of (take place raws) ++ completion ∷ []
    more = completions_with raws place raw (Some completion) at is
