-- A handle's parts own what a box of the object owns, and a handle owns that or nothing. Assumes `Logic`.
use Rattle.std.proofs.Common.{◌≡◌, ℕ, List, [], ◌∷◌, ◌++◌, refl, sym, ap, subst}
use seplogic.Ra.Ura.{Ura}
use mir.Syntax.{impl, tnil, dnil}
use mir.Raw.{raw as bare}
use mir.Val.{Val, vptr, vstruct, vcons, vnil, of_list}
use base.Fraction.{full_share}
use base.Fml.{ftrue}
use base.Logic.{ent, via, guard, guard_i, snd∗, never_e}
use types.Logic.{Logic, sem}
use types.Kit.{Item, Goal, Seq, Step, step, ‵, given, ◌$◌, move, drop, rewrite, fsplit, fjoin, fpick, fpack, feq_l, feq_i, use1, learn}
use contract.Monad.{fact_use}
use denote.Memory.{lone}
use denote.Param.{layout}
use denote.Builtin.{RawPtr}
use denote.RattleType.{RattleType, Valss}
use denote.RawPtr.{Ptr, block_ptr, null_ptr, ptr_val, lies_at, Testable}
use denote.Signature.{Slot, plain}
use denote.Steps.{nothing}
use denote.Struct.Struct.{within}
use denote.Struct.Owning.{shape, to}
use Rattle.core.specs.declared.option.Option.{Option}
use Rattle.core.specs.declared.option.Option.TheVariants.{None, Some}
use Rattle.core.proofs.alloc.Calls.{handle_tells}
use Rattle.core.proofs.cell.Inside.{Good}
use Rattle.std.proofs.GlobalToken.{dealloc_token-Testable}
use Rattle.std_alloc.proofs.BoxSteps.Form.{Bx}
use Rattle.std_heap.specs.declared.Global.{Global}
use Rattle.std_heap.specs.contracts.Global as Heap
use Rattle.std_heap.specs.contracts.GlobalAllocator.TheImpl.{ghosts, dict}
use Rattle.std_heap.proofs.Global.TheLaws as heap
use Rattle.smmuq_c.specs.contracts.object.Object as Object
use Rattle.smmuq_c.proofs.object.Object.TheLaws as object
use Rattle.smmuq_c.specs.contracts.parts.Parts as Parts
use Rattle.smmuq_c.specs.contracts.handle.Handle as Handle
use Rattle.smmuq_c.specs.Handles.{boxed, kept}

abbrev pub E : Bx
E = record { row = Object.the_row; laws = object.the_row_laws; al = record { row = Heap.the_row; laws = heap.the_row_laws; g = ghosts; d = dict; drops = impl [] tnil dnil } }

abbrev pub Pt : RattleType
Pt = Parts.the_row Object.the_row Heap.the_row ghosts

abbrev pub FromParts : Slot 0
FromParts = plain (λ _. Pt)

abbrev pub FromHandle : Slot 0
FromHandle = plain (λ _. Handle.the_row)

abbrev pub both : Val → Val → Val
both v w = vstruct (vcons v (vcons w vnil))

module _ {M : Type 1} {𝓤 : Ura M} (𝓛 : Logic 𝓤) (a : Global) where
  pub tested : (p : Ptr) (x : Object.the_row.Denot) → ent 𝓤 (sem 𝓛 (boxed a p x)) (guard 𝓤 (Testable p) (sem 𝓛 (boxed a p x)))
  tested p x =
      let τ = bare (lone Object.the_row.mir) in
      fact_use 𝓤 (Testable p) (via 𝓤 _ (snd∗ 𝓤 (sem 𝓛 (lies_at Object.the_row full_share p x)) (sem 𝓛 (ghosts.dealloc_token a τ p))) (dealloc_token-Testable 𝓛 a τ p)) (guard_i 𝓤 (Testable p) (sem 𝓛 (boxed a p x)))

module _ {M : Type 1} {𝓤 : Ura M} {𝓛 : Logic 𝓤} {K : Type 0} {Γ : List (Item 𝓤)} {G : Goal 𝓤 𝓛.H} where
  pub either_kept : K → (a : Global) (p : Ptr) (m : Option Object.the_row.Denot) → (p ≡ null_ptr → m ≡ None → Seq K 𝓛 Γ G)
      → ((b o : ℕ) (x : Object.the_row.Denot) → p ≡ block_ptr b o → m ≡ Some x → Testable (block_ptr b o) → Seq K 𝓛 (‵ (boxed a (block_ptr b o) x) ∷ Γ) G)
      → Seq K 𝓛 (‵ (kept a p m) ∷ Γ) G
  either_kept t a null_ptr None none one = drop t $ none refl refl
  either_kept t a null_ptr (Some x) none one = use1 𝓛 (given ⊥ (‵ ftrue)) (never_e 𝓤 _) $ learn t (λ z. absurd z)
  either_kept t a (block_ptr b o) None none one = use1 𝓛 (given ⊥ (‵ ftrue)) (never_e 𝓤 _) $ learn t (λ z. absurd z)
  either_kept t a (block_ptr b o) (Some x) none one = fsplit t $ fpick t (λ e. drop t $ one b o x refl refl e)

module _ {M : Type 1} {𝓤 : Ura M} {𝓛 : Logic 𝓤} {K : Type 0} {Γ : List (Item 𝓤)} {G : Goal 𝓤 𝓛.H} where
  -- a handle by value is [the box's memory, if its pointer isn't null; the allocator]
  pub handle_out : K → (d : Handle.the_row.Denot) (vs : List Val)
      → ((h : Val) → d.at ≡ null_ptr → d.object ≡ None → vs ≡ both (ptr_val null_ptr) h ∷ [] → Good (layout Heap.the_row) h → Seq K 𝓛 (‵ (Heap.the_row.own_val d.alloc (h ∷ [])) ∷ Γ) G)
      → ((b o : ℕ) (x : Object.the_row.Denot) (h : Val) → d.at ≡ block_ptr b o → d.object ≡ Some x → Testable (block_ptr b o) → vs ≡ both (vptr b o) h ∷ [] → Good (layout Heap.the_row) h
      → Seq K 𝓛 (‵ (boxed d.alloc (block_ptr b o) x) ∷ ‵ (Heap.the_row.own_val d.alloc (h ∷ [])) ∷ Γ) G)
      → Seq K 𝓛 (‵ (Handle.the_row.own_val d vs) ∷ Γ) G
  handle_out t d vs none one =
      fsplit t $ fpick t (λ vss. fsplit t $ feq_l t (λ ev. fsplit t $ feq_l t (λ ep. fsplit t $ handle_tells E.al t d.alloc vss.1.0 (λ h ea fits. move t (1 ∷ []) $ drop t $ move t (1 ∷ []) $
      let at : vs ≡ vstruct (of_list (ptr_val d.at ∷ h ∷ [])) ∷ [] =
      subst (λ (ws : List Val). vs ≡ vstruct (of_list (ptr_val d.at ∷ (ws ++ []))) ∷ []) ea (subst (λ (ps : List Val). vs ≡ vstruct (of_list (ps ++ (vss.1.0 ++ []))) ∷ []) ep ev) in
      either_kept t d.alloc d.at d.object
      (λ e m. none h e m (subst (λ (p : Ptr). vs ≡ vstruct (of_list (ptr_val p ∷ h ∷ [])) ∷ []) e at) fits)
      (λ b o x e m tst. one b o x h e m tst (subst (λ (p : Ptr). vs ≡ vstruct (of_list (ptr_val p ∷ h ∷ [])) ∷ []) e at) fits)))))

  -- the same backwards
  pub handle_in : K → {h : Val} (d : Handle.the_row.Denot) (p : Ptr) (m : Option Object.the_row.Denot) → d.at ≡ p → d.object ≡ m
      → Step K 𝓛 (‵ (Handle.the_row.own_val d (both (ptr_val p) h ∷ [])) ∷ Γ) G (‵ (kept d.alloc p m) ∷ ‵ (Heap.the_row.own_val d.alloc (h ∷ [])) ∷ Γ) G
  handle_in t {h} d p m e f = step (λ s. let w : Val = both (ptr_val p) h in
      rewrite t 0 (λ (n : Option Object.the_row.Denot). ‵ (kept d.alloc p n)) (sym f) refl $ rewrite t 0 (λ (r : Ptr). ‵ (kept d.alloc r d.object)) (sym e) refl $
      nothing t $ move t (2 ∷ 0 ∷ []) $ fjoin t $ feq_i t (List Val) (ptr_val p ∷ []) (ptr_val d.at ∷ []) (ap (λ (r : Ptr). ptr_val r ∷ []) (sym e)) $ fjoin t $ feq_i t (List Val) (w ∷ []) (w ∷ []) refl $ fjoin t $
      fpack t (Valss (RawPtr ∷ (Heap.the_field).row ∷ [])) (within (shape Handle.the_type) (to Handle.the_type d) (w ∷ [])) (ptr_val p ∷ [], (h ∷ [], tt)) $ fjoin t $ s)
