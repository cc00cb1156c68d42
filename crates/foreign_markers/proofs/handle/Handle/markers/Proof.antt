-- `markers` lends what the pointer owns, and the handle follows it.
use Rattle.std.proofs.Common.{◌≡◌, ℕ, List, [], ◌∷◌, refl, sym, lit<, MutBor}
use mathlib.Core.Bool.{Bool, true, false}
use seplogic.Ra.Ura.{Ura}
use mir.Syntax.{named}
use mir.Raw.{raw as bare}
use mir.Val.{Val, vptr, vbool, of_list}
use base.Fraction.{full_share}
use base.Logic.{ent, sep}
use base.Fml.{Fml, GName, ftrue, fsep, flft, fres}
use types.Logic.{Logic, sem}
use types.Kit.{‵, ◌⊛◌, some, later, at_ret, ◌$◌, ◌∵◌, !, qed, move, keep, drop, use0, use1, split, split3, join, fsplit, fsplit3, fjoin, fpack, pick, await, group, frame, rewrite, suffices, done}
use types.Match.{live}
use types.Run.{of_opd, un, lit, load, addr, fld, stop, and_then, no_more, first, blocks, branches, skips, exec, returns, returns_within, enter}
use types.ByLocal.{alloc_all, pass_all, free_all, look_at, get, through, sets, sets_last, env}
use types.Part.{agg, whole, sub, look_in}
use contract.Running.{tables}
use denote.Exit.{no}
use denote.Follow.{follows, follows_by, lends_Part}
use denote.Memory.{cell_at, lone, mem, part_at, part_of}
use denote.RawPtr.{Ptr, block_ptr, ptr_val}
use denote.Ref.{MutRef, mut_vals, mut_Tells}
use denote.Signature.{plain, mut_ref_to}
use denote.Steps.{nothing, opens, closes}
use denote.Triple.Walked.{Stays, walk_of, says, stay_dropped, Goes-spent_ref, ends_at}
use Rattle.std.proofs.raw_atomic.Walks.{proved}
use Rattle.std.specs.Prelude.{Option, Some, None}
use Rattle.std.specs.contracts.option.Option as OP
use Rattle.core.proofs.option.Made.{Some-of, none_of}
use Rattle.foreign_markers.specs.contracts.handle.Handle.markers as f
use Rattle.foreign_markers.specs.contracts.markers.Markers.{the_row as R}
use Rattle.foreign_markers.specs.Handle.{chunk}
use Rattle.foreign_markers.specs.Lending.{with_markers}
use Rattle.foreign_markers.proofs.HandleSteps.{S, two, handle_opens, open_in, shut_in}
use Rattle.foreign_markers.proofs.handle.Handle.markers.Statement.{statement}
use Rattle.foreign_markers.proofs.handle.Handle.markers.Code as code

abbrev stayed : Stays f.ended.signature.params f.ended.kept
stayed = (stay_dropped (mut_ref_to (0 ∷ []) tt (plain (λ _. S))) no, tt)

-- all of the handle but the markers
abbrev Rest : ℕ → ℕ → ℕ → ℕ → Fml
Rest b o b' o' = fsep (chunk (bare (lone R.mir)) (block_ptr b' o')) (cell_at full_share S.mir (two (vbool true) (vptr b' o') ∷ []) b o)

module _ {M : Type 1} {𝓤 : Ura M} (𝓛 : Logic 𝓤) where
  back : (d : S.Denot) (b o b' o' : ℕ) → d.is_open ≡ true → d.at ≡ block_ptr b' o' → (w : R.Denot)
      → ent 𝓤 (sep 𝓤 (sem 𝓛 ((mem R).own_at w b' o')) (sem 𝓛 (Rest b o b' o'))) (sem 𝓛 ((mem S).own_at (with_markers d w) b o))
  unfolding part_of
  back d b o b' o' opened lies w =
      let v : Val = two (vbool true) (vptr b' o') in
      qed 𝓛 (‵ (part_at R full_share w b' o') ∷ ‵ (Rest b o b' o') ∷ []) ∵ move ! (1 ∷ []) $ fsplit ! $ move ! (2 ∷ 0 ∷ []) $ fjoin ! $
      open_in ! b' o' w $
      rewrite ! 0 (λ (x : Bool). ‵ (S.own_val (record { is_open = x; at = block_ptr b' o'; value = Some w }) (v ∷ []))) (sym opened) refl $
      rewrite ! 0 (λ (p : Ptr). ‵ (S.own_val (record { is_open = d.is_open; at = p; value = Some w }) (v ∷ []))) (sym lies) refl $
      move ! (1 ∷ 0 ∷ []) $ fjoin ! $ fpack ! (List Val) (λ us. fsep (cell_at full_share S.mir us b o) (S.own_val (with_markers d w) us)) (v ∷ []) $ done !

pub markers_spec : {M : Type 1} → statement M
unfolding follows_by
markers_spec 𝓤 𝓛 𝓜 𝓡 wired =
    let c = f.clauses 𝓛 𝓜.mem 𝓡.returns in let W = walk_of 𝓛 f.ended stayed c in let 𝓣 = tables 𝓤 𝓛.H 𝓜 𝓡 𝓡.env in
    proved 𝓛 f.ended stayed c 𝓜 𝓡 (Goes-spent_ref 𝓛 1 (0 ∷ []) tt (plain (λ _. S)), tt)
    f.Key.name code.function (code.unfolded 𝓤 𝓛.H 𝓜 𝓡 wired)
    (λ κs. (mut_vals, tt)) (λ κs. (mut_Tells (named 0) κs.0 S, tt)) (λ κs qs bounds a g are.
    let κ = κs.0 in let q = qs.0 in let b = a.0.ref_ptr.0 in let o = a.0.ref_ptr.1 in let γ = a.0.ghost_name in let d = a.0.now in let vs = mut_vals a.0 in
    let y : W.Ghost = ((κs, qs, bounds, a, (vs, tt)), g) in let told = S.coded.code d in let Lent = MutRef (named 0) κ R in
    qed 𝓛 (((‵ (flft κ q) ⊛ ‵ ftrue) ⊛ ‵ ((MutRef (named 0) κ S).own_val a.0 vs) ⊛ ‵ ftrue) ∷ ‵ ftrue ∷ []) ∵
    split ! $ split ! $ move ! (2 ∷ []) $ split ! $ keep ! (0 ∷ 2 ∷ []) $
    enter ! _ _ _ _ _ $ alloc_all ! (λ l. pass_all ! refl ((tt, tt), tt) $
    fsplit3 ! $ move ! (1 ∷ 2 ∷ 3 ∷ []) $ opens ! tt S b o (λ us.
    move ! (1 ∷ []) $ handle_opens ! d us
    (λ b' o' x opened lies is ws. fsplit ! $
    rewrite ! 2 (λ (ws : List Val). ‵ (cell_at full_share S.mir ws b o)) ws refl $
    -- [the markers; the token; its cell; the open borrow, in three entries; ..]
    sets ! (of_opd ! (load ! (through ! refl (fld ! refl (stop !))) (look_in ! 2 (sub ! 0 refl (whole !))))) refl (tt, tt) $
    sets ! (un ! (get ! refl) tt) refl (tt, tt) $
    first ! $ branches ! (get ! refl) (λ shut. absurd shut)
    (λ _. skips ! $ exec ! 𝓣.C 𝓣.Λ (env code.Mir.locals l) code.Mir.t-4 (at_ret (env code.Mir.locals l) (W.post y)) $
    first ! $ blocks ! $
    sets ! (of_opd ! (load ! (through ! refl (fld ! refl (stop !))) (look_in ! 2 (sub ! 1 refl (whole !))))) refl (tt, tt) $
    sets ! (of_opd ! (get ! refl)) refl (tt, tt) $
    sets_last ! (addr ! (through ! refl (stop !))) refl (tt, tt) $
    exec ! 𝓣.C 𝓣.Λ (env code.Mir.locals l) code.Mir.t-5 (at_ret (env code.Mir.locals l) (W.post y)) $
    sets ! (of_opd ! (get ! refl)) refl (tt, tt) $
    sets ! (agg ! (and_then ! (lit ! tt) (and_then ! (get ! refl) (no_more !)))) refl (tt, (record { fits = lit< tt }, (tt, tt))) $
    move ! (1 ∷ 2 ∷ []) $ fjoin ! $ move ! (2 ∷ 3 ∷ 4 ∷ 1 ∷ 0 ∷ []) $ group ! 5 $
    let r : MutBor R.Denot = record { ref_ptr = (b', o'); ghost_name = γ; now = x } in
    use1 𝓛 (later (some (λ (δ : GName). ‵ (Lent.own_val (record r { ghost_name = δ }) (vptr b' o' ∷ [])) ⊛ ‵ (flft κ q) ⊛ ‵ (follows S R γ δ (with_markers d)))))
    (lends_Part 𝓛 S R (with_markers d) (named 0) κ q b o b' o' γ (sem 𝓛 (Rest b o b' o')) (back 𝓛 d b o b' o' opened lies) told told x) $ await ! tt $ pick ! (λ δ. split3 ! $
    use1 𝓛 (‵ ((OP.the_row Lent).own_val (Some (record r { ghost_name = δ })) (live 1 (of_list (vptr b' o' ∷ [])) ∷ []))) (Some-of 𝓛 Lent (record r { ghost_name = δ }) (vptr b' o')) $
    returns ! (look_at ! 0 refl) $ free_all ! refl $ keep ! (0 ∷ 1 ∷ 2 ∷ []) $
    suffices ! _ (ends_at 𝓛 f.ended stayed c y (live 1 (of_list (vptr b' o' ∷ []))) (Some (record r { ghost_name = δ })) (tt, tt) (tt, tt)) $
    nothing ! $ nothing ! $ fjoin ! $ join ! $ nothing ! $ move ! (2 ∷ 0 ∷ []) $ join ! $ join ! $ frame ! $ says ! (sym is) $ done !)))
    -- [its cell; the open borrow, in three entries; ..]
    (λ shut nothing_there ws. let v : Val = two (vbool false) (ptr_val d.at) in
    rewrite ! 0 (λ (ws : List Val). ‵ (cell_at full_share S.mir ws b o)) ws refl $
    sets ! (of_opd ! (load ! (through ! refl (fld ! refl (stop !))) (look_in ! 0 (sub ! 0 refl (whole !))))) refl (tt, tt) $
    sets ! (un ! (get ! refl) tt) refl (tt, tt) $
    first ! $ branches ! (get ! refl)
    (λ _. sets ! (agg ! (and_then ! (lit ! tt) (no_more !))) refl (tt, (record { fits = lit< tt }, tt)) $
    shut_in ! d.at $
    rewrite ! 0 (λ (x : Bool). ‵ (S.own_val (record { is_open = x; at = d.at; value = None }) (v ∷ []))) (sym shut) refl $
    rewrite ! 0 (λ (m : Option R.Denot). ‵ (S.own_val (record { is_open = d.is_open; at = d.at; value = m }) (v ∷ []))) (sym nothing_there) refl $
    move ! (1 ∷ []) $ closes ! tt S d (v ∷ []) b o $
    use1 𝓛 (‵ (fres γ told)) (𝓛.names.obs-res γ told) $ move ! (1 ∷ []) $ drop ! $
    use0 𝓛 (‵ ((OP.the_row Lent).own_val None (live 0 (of_list []) ∷ []))) (none_of 𝓛 Lent) $
    returns_within ! (W.post y) refl (look_at ! 0 refl) $ free_all ! refl $ keep ! (0 ∷ 2 ∷ 1 ∷ []) $
    suffices ! _ (ends_at 𝓛 f.ended stayed c y (live 0 (of_list [])) None (tt, tt) (tt, tt)) $
    nothing ! $ nothing ! $ fjoin ! $ join ! $ nothing ! $ move ! (2 ∷ 0 ∷ []) $ join ! $ join ! $ frame ! $ says ! nothing_there $ done !)
    (λ opened. absurd opened)))))
