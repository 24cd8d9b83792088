-- `object_mut` tests the pointer, and lends what it leads to. The handle follows it.
use Rattle.std.proofs.Common.{◌≡◌, ℕ, List, [], ◌∷◌, refl, lit<}
use seplogic.Ra.Ura.{Ura}
use mir.Raw.{raw as bare}
use mir.Syntax.{Body, cond, named}
use mir.Val.{Val, vptr, vcons, vnil}
use base.Fraction.{full_share}
use base.Logic.{SProp, ent, sep, id⊢}
use base.Fml.{Fml, GName, ftrue, fsep, flft, fres}
use prog.Wp.{Wp, after_seq, at_return}
use types.Logic.{Logic, sem}
use types.Kit.{‵, raw, ◌⊛◌, some, later, at_ret, any_q, ◌$◌, ◌∵◌, !, qed, move, keep, use0, use1, split, split3, join, group, pick, await, rewrite, fsplit, fsplit3, fjoin, fpack, suffices, frame, done}
use types.Part.{whole, sub, look_in, agg}
use types.Match.{live}
use types.Run.{stop, fld, load, lit, bin, addr, no_more, and_then, of_opd, first, blocks, branches, exec, returns, enter}
use types.ByLocal.{alloc_all, pass_all, free_all, look_at, get, through, sets, sets_last, env}
use contract.Running.{tables}
use denote.Exit.{no}
use denote.Follow.{follows, follows_by, Part, lends_Part}
use denote.Memory.{lone, mem, cell_at, part_at, part_of}
use denote.Param.{layout}
use denote.RattleType.{RattleType}
use denote.RawPtr.{block_ptr, null_ptr, ptr_val, tests_null, Testable}
use denote.Ref.{MutRef, MutBor, mut_vals, mut_Tells}
use denote.Signature.{plain, mut_ref_to}
use denote.Steps.{nothing, opens, closes}
use denote.Triple.Walked.{says, Stays, stay_dropped, walk_of, ends_at, Goes-spent_ref}
use Rattle.core.specs.declared.option.Option.TheVariants.{None, Some}
use Rattle.core.specs.contracts.option.Option as Opt
use Rattle.core.proofs.alloc.Calls.{token}
use Rattle.core.proofs.alloc.Shapes.{after, head}
use Rattle.core.proofs.atomic.Steps.{Ptr-Good}
use Rattle.core.proofs.cell.Inside.{Good}
use Rattle.core.proofs.option.Made.{Some-of, none_of}
use Rattle.std.proofs.raw_atomic.Walks.{proved}
use Rattle.std_heap.specs.contracts.Global as Heap
use Rattle.smmuq_c.specs.contracts.object.Object as Object
use Rattle.smmuq_c.specs.contracts.handle.Handle as Handle
use Rattle.smmuq_c.proofs.Boxed.{E, both, handle_out, handle_in}
use Rattle.smmuq_c.specs.contracts.handle.Handle.object_mut.{ended, clauses}
use Rattle.smmuq_c.specs.contracts.handle.Handle.object_mut.Key.{name as #self}
use Rattle.smmuq_c.proofs.handle.Handle.object_mut.Statement.{statement}
use Rattle.smmuq_c.proofs.handle.Handle.object_mut.Code as code

abbrev R : RattleType
R = Handle.the_row

abbrev stayed : Stays ended.signature.params ended.kept
stayed = (stay_dropped (mut_ref_to (0 ∷ []) tt (plain (λ _. R))) no, tt)

abbrev else_of : Body → Body
else_of (cond x y z) = z
else_of other = other

-- the handle with the object w
abbrev new : R.Denot → Object.the_row.Denot → R.Denot
new d w = record d { object = Some w }

module _ {M : Type 1} {𝓤 : Ura M} (𝓛 : Logic 𝓤) (d : R.Denot) (rb ro b o : ℕ) (h : Val) where
  -- all of the handle but its object
  abbrev Rest : Fml
  Rest = fsep (fsep (token E.al d.alloc (bare (lone Object.the_row.mir)) (block_ptr b o)) (Heap.the_row.own_val d.alloc (h ∷ []))) (cell_at full_share R.mir (both (vptr b o) h ∷ []) rb ro)

  back : d.at ≡ block_ptr b o → Testable (block_ptr b o) → (w : Object.the_row.Denot) → ent 𝓤 (sep 𝓤 (sem 𝓛 ((mem Object.the_row).own_at w b o)) (sem 𝓛 Rest)) (sem 𝓛 ((mem R).own_at (new d w) rb ro))
  unfolding part_of
  back e t w =
      qed 𝓛 (‵ (part_at Object.the_row full_share w b o) ∷ ‵ Rest ∷ []) ∵ move ! (1 ∷ []) $ fsplit ! $ fsplit ! $
      -- [the token; the allocator; the handle's cell; the object]
      move ! (3 ∷ 0 ∷ []) $ fjoin ! $ nothing ! $ fpack ! (Testable (block_ptr b o)) (λ _. ftrue) t $ fjoin ! $ handle_in ! (new d w) (block_ptr b o) (Some w) e refl $
      move ! (1 ∷ 0 ∷ []) $ fjoin ! $ fpack ! (List Val) (λ us. fsep (cell_at full_share R.mir us rb ro) (R.own_val (new d w) us)) (both (vptr b o) h ∷ []) $ done !

pub object_mut_spec : {M : Type 1} → statement M
unfolding follows_by
object_mut_spec 𝓤 𝓛 𝓜 𝓡 wired =
    let c = clauses 𝓛 𝓜.mem 𝓡.returns in let W = walk_of 𝓛 ended stayed c in let 𝓣 = tables 𝓤 𝓛.H 𝓜 𝓡 𝓡.env in let fn = code.function in
    proved 𝓛 ended stayed c 𝓜 𝓡 (Goes-spent_ref 𝓛 1 (0 ∷ []) tt (plain (λ _. R)), tt) #self fn (code.unfolded 𝓤 𝓛.H 𝓜 𝓡 wired)
    (λ κs. (mut_vals, tt)) (λ κs. (mut_Tells (named 0) κs.0 R, tt)) (λ κs qs bounds a _ are.
    let κ = κs.0 in let q = qs.0 in let d = a.0.now in let γ = a.0.ghost_name in let rb = a.0.ref_ptr.0 in let ro = a.0.ref_ptr.1 in let vs = mut_vals a.0 in
    let y : W.Ghost = ((κs, qs, bounds, a, (vs, tt)), tt) in let Post : Val → SProp 𝓤 = W.post y in let code₀ = R.coded.code d in
    let Lent : RattleType = MutRef (named 0) κ Object.the_row in let Out : RattleType = Opt.the_row Lent in let Cell = λ (ts : List Val). ‵ (cell_at full_share R.mir ts rb ro) in
    qed 𝓛 (((‵ (flft κ q) ⊛ ‵ ftrue) ⊛ ‵ ((MutRef (named 0) κ R).own_val a.0 vs) ⊛ ‵ ftrue) ∷ ‵ ftrue ∷ []) ∵
    split ! $ split ! $ move ! (2 ∷ []) $ split ! $ keep ! (0 ∷ 2 ∷ []) $
    enter ! 𝓣.C 𝓣.Λ fn vs Post $ alloc_all ! (λ l. pass_all ! refl ((tt, tt), tt) $ let Ev = env fn.locals l in
    fsplit3 ! $ move ! (1 ∷ 2 ∷ 3 ∷ []) $ opens ! tt R rb ro (λ us. move ! (1 ∷ []) $ handle_out ! d us
    -- [the allocator; the handle's cell; the open borrow, in three entries]
    (λ h e m ws fits. let w : Val = both (ptr_val null_ptr) h in rewrite ! 1 Cell ws refl $
    sets ! (of_opd ! (load ! (through ! refl (fld ! refl (stop !))) (look_in ! 1 (sub ! 0 refl (whole !))))) refl (Ptr-Good null_ptr) $
    sets ! (bin ! (get ! refl) (lit ! tt) tt) refl (tt, tt) $ first ! $ branches ! (get ! refl)
    (λ _. let v : Val = live 0 vnil in let good : Good (layout Out) v = (tt, (record { fits = lit< tt }, tt)) in
    sets_last ! (agg ! (and_then ! (lit ! tt) (no_more !))) refl good $ exec ! 𝓣.C 𝓣.Λ Ev (after 3 fn.body) (at_ret Ev Post) $ sets ! (of_opd ! (get ! refl)) refl good $
    nothing ! $ handle_in ! d null_ptr None e m $ move ! (1 ∷ 0 ∷ []) $ closes ! tt R d (w ∷ []) rb ro $
    -- [obs; the borrow; the token]
    use1 𝓛 (‵ (fres γ code₀)) (𝓛.names.obs-res γ code₀) $ use0 𝓛 (‵ (Out.own_val None (v ∷ []))) (none_of 𝓛 Lent) $
    returns ! (look_at ! 0 refl) $ free_all ! refl $ keep ! (0 ∷ 3 ∷ 1 ∷ []) $
    suffices ! _ (ends_at 𝓛 ended stayed c y v None (tt, tt) (tt, tt)) $ nothing ! $ nothing ! $ fjoin ! $ join ! $ nothing ! $ move ! (2 ∷ 0 ∷ []) $ join ! $ join ! $ frame ! $ says ! m $ done !)
    (λ wrong. absurd wrong))
    -- [the box's memory; the allocator; the handle's cell; the open borrow, in three entries]
    (λ b o x h e m t ws fits. let r₀ : Val = vptr b o in let v : Val = live 1 (vcons r₀ vnil) in let good : Good (layout Out) v = (tt, (record { fits = lit< tt }, (tt, tt))) in
    rewrite ! 2 Cell ws refl $
    sets ! (of_opd ! (load ! (through ! refl (fld ! refl (stop !))) (look_in ! 2 (sub ! 0 refl (whole !))))) refl (tt, tt) $
    sets ! (bin ! (get ! refl) (lit ! tt) (tests_null (block_ptr b o) t)) refl (tt, tt) $ first ! $ branches ! (get ! refl) (λ wrong. absurd wrong) (λ _.
    first ! $ blocks ! $ sets ! (of_opd ! (load ! (through ! refl (fld ! refl (stop !))) (look_in ! 2 (sub ! 0 refl (whole !))))) refl (tt, tt) $
    sets ! (of_opd ! (get ! refl)) refl (tt, tt) $ sets_last ! (addr ! (through ! refl (stop !))) refl (tt, tt) $
    exec ! 𝓣.C 𝓣.Λ Ev (after 1 (else_of (head (after 2 fn.body)))) (any_q (after_seq 𝓤 𝓛.H (Wp 𝓤 𝓛.H 𝓣.C 𝓣.Λ Ev (after 3 fn.body) (at_return 𝓤 𝓛.H Ev Post)) (at_return 𝓤 𝓛.H Ev Post))) $
    sets ! (of_opd ! (get ! refl)) refl (tt, tt) $ sets_last ! (agg ! (and_then ! (lit ! tt) (and_then ! (get ! refl) (no_more !)))) refl good $
    exec ! 𝓣.C 𝓣.Λ Ev (after 3 fn.body) (at_ret Ev Post) $ sets ! (of_opd ! (get ! refl)) refl good $
    fsplit ! $ move ! (1 ∷ 2 ∷ []) $ fjoin ! $ move ! (0 ∷ 2 ∷ []) $ fjoin ! $ move ! (2 ∷ 3 ∷ 4 ∷ 1 ∷ 0 ∷ []) $ group ! 5 $
    use1 𝓛 (later (some (λ (δ : GName). raw (Part 𝓛 R Object.the_row (new d) (named 0) κ q rb ro b o γ (sem 𝓛 (Rest 𝓛 d rb ro b o h)) (back 𝓛 d rb ro b o h e t) x δ))))
    (lends_Part 𝓛 R Object.the_row (new d) (named 0) κ q rb ro b o γ (sem 𝓛 (Rest 𝓛 d rb ro b o h)) (back 𝓛 d rb ro b o h e t) code₀ code₀ x) $ await ! tt $ pick ! (λ δ.
    let r : MutBor Object.the_row.Denot = record { ref_ptr = (b, o); ghost_name = δ; now = x } in
    use1 𝓛 (‵ (Lent.own_val r (r₀ ∷ [])) ⊛ ‵ (flft κ q) ⊛ ‵ (follows R Object.the_row γ δ (new d))) (id⊢ 𝓤 _) $ split3 ! $
    use1 𝓛 (‵ (Out.own_val (Some r) (v ∷ []))) (Some-of 𝓛 Lent r r₀) $ returns ! (look_at ! 0 refl) $ free_all ! refl $ keep ! (0 ∷ 1 ∷ 2 ∷ []) $
    suffices ! _ (ends_at 𝓛 ended stayed c y v (Some r) (tt, tt) (tt, tt)) $ nothing ! $ nothing ! $ fjoin ! $ join ! $ nothing ! $ move ! (2 ∷ 0 ∷ []) $ join ! $ join ! $ frame ! $ says ! m $ done !))))))
