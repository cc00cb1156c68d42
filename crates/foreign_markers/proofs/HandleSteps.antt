-- The machine values of a `Handle`. Assumes `Logic`.
use Rattle.std.proofs.Common.{◌≡◌, ◌∙◌, ℕ, List, [], ◌∷◌, ◌++◌, refl, subst, lit<}
use mathlib.Core.Bool.{Bool, true, false}
use lib.Dec.{T}
use seplogic.Ra.Ura.{Ura}
use mir.Raw.{raw as bare}
use mir.Val.{Val, vptr, vbool, vstruct, vcons, vnil, of_list}
use base.Logic.{never, fst∗}
use types.Logic.{Logic, sem}
use types.Kit.{Item, Goal, Seq, Step, step, ‵, ◌$◌, drop, fsplit, fjoin, fpick, fpack, feq_i, feq_l}
use denote.RattleType.{RattleType, Valss}
use denote.Builtin.{RawPtr, bool}
use denote.Memory.{lone}
use denote.RawPtr.{Ptr, block_ptr, null_ptr, ptr_val, in_a_block}
use denote.Steps.{nothing}
use denote.Param.{layout}
use denote.Struct.Struct.{within}
use denote.Struct.Owning.{shape}
use Rattle.std.specs.Prelude.{Option, Some, None}
use Rattle.core.proofs.cell.Inside.{Good}
use Rattle.std_alloc.specs.Box.Ownership.{box_owns}
use Rattle.foreign_markers.specs.contracts.markers.Markers.{the_row as R}
use Rattle.foreign_markers.specs.contracts.handle.Handle as handle
use Rattle.foreign_markers.specs.Handle.{chunk, holds}

abbrev pub S : RattleType
S = handle.the_row

abbrev pub two : Val → Val → Val
two v w = vstruct (vcons v (vcons w vnil))

pub pick_case : {M : Type 1} {𝓤 : Ura M} {𝓛 : Logic 𝓤} {K : Type 0} {Γ : List (Item 𝓤)} {G : Goal 𝓤 𝓛.H} → K → (x : Bool) (p : Ptr) (v : Option R.Denot)
    → ((b o : ℕ) (y : R.Denot) → x ≡ true → p ≡ block_ptr b o → v ≡ Some y → Seq K 𝓛 (‵ (box_owns chunk R (block_ptr b o) y) ∷ Γ) G)
    → (x ≡ false → v ≡ None → Seq K 𝓛 Γ G) → Seq K 𝓛 (‵ (holds R x p v) ∷ Γ) G
pick_case {𝓤 = 𝓤} {𝓛 = 𝓛} t true p (Some y) opened shut = in_a_block t p (λ q. box_owns chunk R q y) (fst∗ 𝓤 (never 𝓤) (sem 𝓛 (chunk (bare (lone R.mir)) null_ptr))) (λ b o e. opened b o y refl e refl)
pick_case t true p None opened shut = feq_l t (λ e. absurd (subst T e tt))
pick_case t false p v opened shut = feq_l t (λ e. shut refl e)

module _ {M : Type 1} {𝓤 : Ura M} {𝓛 : Logic 𝓤} {K : Type 0} {Γ : List (Item 𝓤)} {G : Goal 𝓤 𝓛.H} where
  pub open_in : K → (b o : ℕ) (x : R.Denot)
      → Step K 𝓛 (‵ (S.own_val (record { is_open = true; at = block_ptr b o; value = Some x }) (two (vbool true) (vptr b o) ∷ [])) ∷ Γ) G
      (‵ (box_owns chunk R (block_ptr b o) x) ∷ Γ) G
  open_in t b o x = step (λ s. let v : Val = two (vbool true) (vptr b o) in
      nothing t $ feq_i t (List Val) (vptr b o ∷ []) (vptr b o ∷ []) refl $ fjoin t $
      feq_i t (List Val) (vbool true ∷ []) (vbool true ∷ []) refl $ fjoin t $ feq_i t (List Val) (v ∷ []) (v ∷ []) refl $ fjoin t $
      fpack t (Valss (bool ∷ RawPtr ∷ [])) (within (shape handle.the_type) (true, (block_ptr b o, tt)) (v ∷ [])) (vbool true ∷ [], (vptr b o ∷ [], tt)) $ fjoin t $ s)

  -- a shut handle, whatever its pointer
  pub shut_in : K → (p : Ptr) → Step K 𝓛 (‵ (S.own_val (record { is_open = false; at = p; value = None }) (two (vbool false) (ptr_val p) ∷ [])) ∷ Γ) G Γ G
  shut_in t p = step (λ s. let v : Val = two (vbool false) (ptr_val p) in
      feq_i t (Option R.Denot) None None refl $
      nothing t $ feq_i t (List Val) (ptr_val p ∷ []) (ptr_val p ∷ []) refl $ fjoin t $
      feq_i t (List Val) (vbool false ∷ []) (vbool false ∷ []) refl $ fjoin t $ feq_i t (List Val) (v ∷ []) (v ∷ []) refl $ fjoin t $
      fpack t (Valss (bool ∷ RawPtr ∷ [])) (within (shape handle.the_type) (false, (p, tt)) (v ∷ [])) (vbool false ∷ [], (ptr_val p ∷ [], tt)) $ fjoin t $ s)

pub shut_good : (p : Ptr) → Good (layout S) (two (vbool false) (ptr_val p))
shut_good (block_ptr b o) = (tt, (tt, (tt, tt)))
shut_good null_ptr = (tt, (tt, (record { fits = lit< tt }, tt)))

pub ptr_good : (p : Ptr) → Good (layout RawPtr) (ptr_val p)
ptr_good (block_ptr b o) = (tt, tt)
ptr_good null_ptr = (tt, record { fits = lit< tt })

module _ {M : Type 1} {𝓤 : Ura M} {𝓛 : Logic 𝓤} {K : Type 0} {Γ : List (Item 𝓤)} {G : Goal 𝓤 𝓛.H} where
  -- a handle is open with a box, or shut
  pub handle_opens : K → (d : S.Denot) (vs : List Val)
      → ((b o : ℕ) (y : R.Denot) → d.is_open ≡ true → d.at ≡ block_ptr b o → d.value ≡ Some y → vs ≡ two (vbool true) (vptr b o) ∷ []
      → Seq K 𝓛 (‵ (box_owns chunk R (block_ptr b o) y) ∷ Γ) G)
      → (d.is_open ≡ false → d.value ≡ None → vs ≡ two (vbool false) (ptr_val d.at) ∷ [] → Seq K 𝓛 Γ G) → Seq K 𝓛 (‵ (S.own_val d vs) ∷ Γ) G
  handle_opens t d vs opened shut = fsplit t $ fpick t (λ vss. fsplit t $ feq_l t (λ ev. fsplit t $ feq_l t (λ eb. fsplit t $ feq_l t (λ ep. drop t $
      pick_case t d.is_open d.at d.value
      (λ b o y e₁ e₂ e₃. opened b o y e₁ e₂ e₃ (ev ∙ (λ i. vstruct (of_list (eb i ++ (ep i ++ []))) ∷ []) ∙ (λ i. two (vbool (e₁ i)) (ptr_val (e₂ i)) ∷ [])))
      (λ e₁ e₃. shut e₁ e₃ (ev ∙ (λ i. vstruct (of_list (eb i ++ (ep i ++ []))) ∷ []) ∙ (λ i. two (vbool (e₁ i)) (ptr_val d.at) ∷ [])))))))

  -- the same without the handle's fields
  pub handle_out : K → (d : S.Denot) (vs : List Val)
      → ((b o : ℕ) (y : R.Denot) → d.value ≡ Some y → vs ≡ two (vbool true) (vptr b o) ∷ [] → Seq K 𝓛 (‵ (box_owns chunk R (block_ptr b o) y) ∷ Γ) G)
      → (d.value ≡ None → vs ≡ two (vbool false) (ptr_val d.at) ∷ [] → Seq K 𝓛 Γ G) → Seq K 𝓛 (‵ (S.own_val d vs) ∷ Γ) G
  handle_out t d vs opened shut = handle_opens t d vs (λ b o y e₁ e₂ e₃ ws. opened b o y e₃ ws) (λ e₁ e₃ ws. shut e₃ ws)
