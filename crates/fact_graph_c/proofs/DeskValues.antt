-- The machine values of what C holds of a desk. Assumes `Logic`.
use Rattle.std.proofs.Common.{Some, ◌≡◌, ℕ, List, [], ◌∷◌, ◌++◌, refl, subst}
use seplogic.Ra.Ura.{Ura}
use mir.Raw.{raw as bare}
use mir.Val.{Val, vptr, vstruct, of_list}
use base.Logic.{never, fst∗}
use types.Logic.{Logic, sem}
use types.Kit.{Item, Goal, Seq, Step, step, ‵, ◌$◌, move, drop, fsplit, fjoin, fpick, fpack, feq_i, feq_l}
use denote.RattleType.{RattleType, Valss}
use denote.Builtin.{RawPtr}
use denote.Memory.{lone}
use denote.RawPtr.{Ptr, block_ptr, null_ptr, ptr_val, in_a_block}
use denote.Steps.{nothing}
use denote.Param.{layout}
use denote.Struct.Struct.{within}
use denote.Struct.Owning.{shape, to}
use Rattle.core.proofs.alloc.Calls.{handle_tells}
use Rattle.core.proofs.cell.Inside.{Good}
use Rattle.std_alloc.specs.Box.Ownership.{box_owns}
use Rattle.fact_graph_c.specs.contracts.desk_handle.DeskHandle as handle
use Rattle.fact_graph_c.specs.contracts.desk_slot.DeskSlot as place
use Rattle.fact_graph_c.specs.contracts.desk_engine.DeskEngine as inner
use Rattle.std_heap.specs.contracts.GlobalAllocator.TheImpl as impls
use Rattle.fact_graph_c.proofs.Values.{both, gZ, gal}

-- a handle's machine values
abbrev pub gR : RattleType
gR = inner.the_row

module _ {M : Type 1} {𝓤 : Ura M} {𝓛 : Logic 𝓤} {K : Type 0} {Γ : List (Item 𝓤)} {G : Goal 𝓤 𝓛.H} where
  pub handle_out : K → (d : (handle.the_row).Denot) (vs : List Val)
      → ((b o : ℕ) (h : Val) → d.at ≡ block_ptr b o → vs ≡ both (vptr b o) h ∷ [] → Good (layout gZ) h → Seq K 𝓛 (‵ (box_owns (impls.ghosts.dealloc_token d.alloc) gR (block_ptr b o) d.value) ∷ ‵ (gZ.own_val d.alloc (h ∷ [])) ∷ Γ) G)
      → Seq K 𝓛 (‵ ((handle.the_row).own_val d vs) ∷ Γ) G
  handle_out t d vs k =
      fsplit t $ fpick t (λ vss. fsplit t $ feq_l t (λ ev. fsplit t $ feq_l t (λ ep. fsplit t $ handle_tells gal t d.alloc vss.1.0 (λ h ea fits. move t (1 ∷ []) $ drop t $ move t (1 ∷ []) $
      in_a_block t d.at (λ p. box_owns (impls.ghosts.dealloc_token d.alloc) gR p d.value) (fst∗ 𝓤 (never 𝓤) (sem 𝓛 (impls.ghosts.dealloc_token d.alloc (bare (lone gR.mir)) null_ptr))) (λ b o e. k b o h e
      (subst (λ (p : Ptr). vs ≡ vstruct (of_list (ptr_val p ∷ h ∷ [])) ∷ []) e
      (subst (λ (ws : List Val). vs ≡ vstruct (of_list (ptr_val d.at ∷ (ws ++ []))) ∷ []) ea (subst (λ (ps : List Val). vs ≡ vstruct (of_list (ps ++ (vss.1.0 ++ []))) ∷ []) ep ev))) fits)))))

  -- a place that holds a desk
  pub place_in : K → (b o : ℕ) (h : Val) (a : gZ.Denot) (x : gR.Denot)
      → Step K 𝓛 (‵ ((place.the_row).own_val (record { at = block_ptr b o; alloc = a; value = Some x }) (both (vptr b o) h ∷ [])) ∷ Γ) G (‵ (box_owns (impls.ghosts.dealloc_token a) gR (block_ptr b o) x) ∷ ‵ (gZ.own_val a (h ∷ [])) ∷ Γ) G
  place_in t b o h a x = step (λ s. let v : Val = both (vptr b o) h in
      nothing t $ move t (2 ∷ 0 ∷ []) $ fjoin t $ feq_i t (List Val) (vptr b o ∷ []) (vptr b o ∷ []) refl $ fjoin t $ feq_i t (List Val) (v ∷ []) (v ∷ []) refl $ fjoin t $
      fpack t (Valss (RawPtr ∷ gZ ∷ [])) (within (shape place.the_type) (to place.the_type (record { at = block_ptr b o; alloc = a; value = Some x })) (v ∷ [])) (vptr b o ∷ [], (h ∷ [], tt)) $ fjoin t $ s)
