-- `into_loose` hands the box on, where there is one.
use Rattle.std.proofs.Common.{◌≡◌, List, [], ◌∷◌, ◌++◌, refl, sym, subst}
use mathlib.Core.Bool.{true, false, ◌&&◌}
use lib.Dec.{T, lit<}
use mir.Syntax.{Ty}
use denote.Param.{layout}
use Rattle.core.proofs.cell.Inside.{Good}
use Rattle.std_alloc.proofs.ResultValues.{and_tt}
use mir.Val.{Val, vptr, vbool, of_list, has_ty, WT}
use base.Logic.{SProp, ent, emp, id⊢}
use base.Fml.{ftrue}
use prog.Wp.{WpFn}
use types.Kit.{‵, raw, ◌⊛◌, ◌$◌, ◌∵◌, !, qed, by, move, keep, at_ret, split, fsplit, fjoin, suffices, use0, use1}
use types.Match.{live}
use types.Run.{lit, of_opd, fld, stop, and_then, no_more, first, branches, exec, returns, enter}
use types.ByLocal.{alloc_all, pass_all, free_all, look_at, get, get_in, sets, sets_last, env}
use types.Part.{agg, sub, whole}
use contract.Monad.{fact, fact_i}
use contract.Running.{tables}
use denote.Exit.{yes}
use denote.RattleType.{owns}
use denote.Signature.{types_at, plain}
use denote.RawPtr.{block_ptr, ptr_val}
use denote.Steps.{nothing}
use denote.Triple.Walked.{Stays, stay_dropped, walk_of}
use Rattle.core.proofs.alloc.Calls.{Goes-blank, handle_tells}
use Rattle.core.proofs.option.Made.{Some-of, none_of}
use Rattle.std.proofs.raw_atomic.Walks.{proved_at, leaves}
use Rattle.std.specs.Prelude.{Option, Some, None}
use Rattle.std.specs.contracts.option.Option as OP
use Rattle.std.specs.contracts.alloc.Global.{the_row as Z}
use Rattle.std.proofs.alloc.Global.TheLaws.{the_row_laws as LZ}
use Rattle.std.specs.contracts.impls.GlobalAllocator.TheImpl.{ghosts}
use Rattle.foreign_markers.specs.contracts.markers.Markers.{the_row as R}
use Rattle.foreign_markers.specs.contracts.handle.Handle.into_loose as f
use Rattle.foreign_markers.proofs.Values.{both, Loose, al, loose_good, loose_in}
use Rattle.foreign_markers.proofs.HandleSteps.{S, two, shut_good, ptr_good, handle_out}
use Rattle.foreign_markers.proofs.handle.Handle.into_loose.Statement.{statement}
use Rattle.foreign_markers.proofs.handle.Handle.into_loose.Code as code

abbrev L : Ty
L = layout (Loose R Z LZ ghosts)

some_good : (v : Val) → Good L v → T (has_ty L v && true) × WT (live 1 (of_list (v ∷ [])))
some_good v g = (and_tt (has_ty L v) g.0, (record { fits = lit< tt }, (g.1, tt)))

abbrev none : Option R.Denot
none = None

abbrev stayed : Stays f.ended.signature.params f.ended.kept
stayed = (stay_dropped (plain (λ _. S)) yes, (stay_dropped (plain (λ _. Z)) yes, tt))

pub into_loose_spec : {M : Type 1} → statement M
into_loose_spec 𝓤 𝓛 𝓜 𝓡 wired =
    let H = 𝓛.H in let 𝓣 = tables 𝓤 H 𝓜 𝓡 𝓡.env in let c = f.clauses 𝓛 𝓜.mem 𝓡.returns in
    proved_at 𝓛 f.ended stayed c 𝓜 𝓡 (Goes-blank 𝓛 0 (plain (λ _. S)) yes (λ κs x w. tt), (Goes-blank 𝓛 0 (plain (λ _. Z)) yes (λ κs x w. tt), tt)) f.Key.name code.function (code.unfolded 𝓤 H 𝓜 𝓡 wired) (λ z are.
    let κs = z.0.0 in let d = z.0.3.0 in let a = z.0.3.1.0 in let Post : Val → SProp 𝓤 = (walk_of 𝓛 f.ended stayed c).post z in let Run : List Val → SProp 𝓤 = λ ws. WpFn 𝓤 H 𝓣.C 𝓣.Λ code.function ws Post in
    qed 𝓛 ((‵ ftrue ⊛ ‵ (owns (types_at f.ended.signature.params κs) z.0.3 z.0.4)) ∷ raw ((c κs z.0.3).requires z.1) ∷ []) ∵ split ! $ move ! (1 ∷ []) $ fsplit ! $ move ! (1 ∷ []) $ fsplit ! $
    handle_tells (al R Z LZ ghosts) ! a z.0.4.1.0 (λ h hs fits. move ! (2 ∷ []) $ handle_out ! d z.0.4.0
    -- [the box; the allocator; ..]
    (λ b o y is ws. let w : Val = two (vbool true) (vptr b o) in let v : Val = both (vptr b o) h in
    suffices ! (Run (w ∷ h ∷ [])) (subst (λ (us : List Val). ent 𝓤 (Run (w ∷ h ∷ [])) (Run us)) (sym (λ i. ws i ++ (hs i ++ []))) (id⊢ 𝓤 (Run (w ∷ h ∷ [])))) $
    enter ! 𝓣.C 𝓣.Λ code.function (w ∷ h ∷ []) Post $ alloc_all ! (λ l. pass_all ! refl ((tt, (tt, (tt, tt))), (fits, tt)) $
    sets ! (of_opd ! (get_in ! (fld ! refl (stop !)) (sub ! 0 refl (whole !)))) refl (tt, tt) $
    sets ! (of_opd ! (get_in ! (fld ! refl (stop !)) (sub ! 1 refl (whole !)))) refl (tt, tt) $
    sets ! (of_opd ! (get ! refl)) refl (tt, tt) $
    first ! $ branches ! (get ! refl)
    (λ yes. sets ! (of_opd ! (get ! refl)) refl (tt, tt) $
    sets ! (agg ! (and_then ! (get ! refl) (and_then ! (get ! refl) (no_more !)))) refl (loose_good R Z LZ ghosts b o h fits) $
    sets_last ! (agg ! (and_then ! (lit ! tt) (and_then ! (get ! refl) (no_more !)))) refl (some_good v (loose_good R Z LZ ghosts b o h fits)) $
    exec ! 𝓣.C 𝓣.Λ (env code.Mir.locals l) code.Mir.t-5 (at_ret _ Post) $
    sets ! (of_opd ! (get ! refl)) refl (some_good v (loose_good R Z LZ ghosts b o h fits)) $
    loose_in R Z LZ ghosts ! b o h a y $ let loose : (Loose R Z LZ ghosts).Denot = record { at = block_ptr b o; alloc = a; value = y } in
    use1 𝓛 (‵ ((OP.the_row (Loose R Z LZ ghosts)).own_val (Some loose) (live 1 (of_list (v ∷ [])) ∷ []))) (Some-of 𝓛 (Loose R Z LZ ghosts) loose v) $
    use0 𝓛 (raw (fact 𝓤 (Some y ≡ d.value))) (fact_i 𝓤 (Some y ≡ d.value) (emp 𝓤) (sym is)) $ nothing ! $ nothing ! $ nothing ! $ fjoin ! $ move ! (1 ∷ 0 ∷ []) $ fjoin ! $
    returns ! (look_at ! 0 refl) $ free_all ! refl $ keep ! (3 ∷ 0 ∷ 2 ∷ 1 ∷ []) $
    by ! (leaves 𝓛 f.ended stayed c z (live 1 (of_list (v ∷ []))) (Some loose) (tt, (tt, tt)) (tt, (tt, tt))))
    (λ no. absurd no)))
    -- [the allocator; ..]
    (λ is ws. let w : Val = two (vbool false) (ptr_val d.at) in
    suffices ! (Run (w ∷ h ∷ [])) (subst (λ (us : List Val). ent 𝓤 (Run (w ∷ h ∷ [])) (Run us)) (sym (λ i. ws i ++ (hs i ++ []))) (id⊢ 𝓤 (Run (w ∷ h ∷ [])))) $
    enter ! 𝓣.C 𝓣.Λ code.function (w ∷ h ∷ []) Post $ alloc_all ! (λ l. pass_all ! refl (shut_good d.at, (fits, tt)) $
    sets ! (of_opd ! (get_in ! (fld ! refl (stop !)) (sub ! 0 refl (whole !)))) refl (tt, tt) $
    sets ! (of_opd ! (get_in ! (fld ! refl (stop !)) (sub ! 1 refl (whole !)))) refl (ptr_good d.at) $
    sets ! (of_opd ! (get ! refl)) refl (tt, tt) $
    first ! $ branches ! (get ! refl) (λ yes. absurd yes)
    (λ no. sets_last ! (agg ! (and_then ! (lit ! tt) (no_more !))) refl (tt, (record { fits = lit< tt }, tt)) $
    exec ! 𝓣.C 𝓣.Λ (env code.Mir.locals l) code.Mir.t-5 (at_ret _ Post) $
    sets ! (of_opd ! (get ! refl)) refl (tt, (record { fits = lit< tt }, tt)) $
    use0 𝓛 (‵ ((OP.the_row (Loose R Z LZ ghosts)).own_val None (live 0 (of_list []) ∷ []))) (none_of 𝓛 (Loose R Z LZ ghosts)) $
    use0 𝓛 (raw (fact 𝓤 (none ≡ d.value))) (fact_i 𝓤 (none ≡ d.value) (emp 𝓤) (sym is)) $ nothing ! $ nothing ! $ nothing ! $ fjoin ! $ move ! (1 ∷ 0 ∷ []) $ fjoin ! $
    returns ! (look_at ! 0 refl) $ free_all ! refl $ keep ! (4 ∷ 0 ∷ 2 ∷ 1 ∷ []) $
    by ! (leaves 𝓛 f.ended stayed c z (live 0 (of_list [])) None (tt, (tt, tt)) (tt, (tt, tt))))))))
