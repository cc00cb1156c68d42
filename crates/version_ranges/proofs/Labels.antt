-- For `Cuts::pairs_with_values`: two functions side by side, with other values in place of the pairs.
use Rattle.std.proofs.Common.{◌≡◌, Bool, true, false, cond, List, [], ◌∷◌, ◌++◌, length, Option, Some, None, refl, sym, ap, ◌∙◌, subst, append-nil, arith}
use Rattle.std.specs.Prelude.{slice_get}
use Rattle.std.specs.declared.cmp.Ordering.{Ordering}
use Rattle.std.specs.declared.cmp.Ordering.TheVariants.{Equal}
use Rattle.std.specs.Cmp.{IsTotalOrder, IsEquivalence}
use Rattle.version_ranges.specs.declared.cut.Cut.{Cut}
use Rattle.version_ranges.specs.Cut.{cut_cmp, stands_before}
use Rattle.version_ranges.specs.Point.{Point}
use Rattle.version_ranges.specs.Steps.{ascends, is_merged, piece_at, value_at}
use Rattle.version_ranges.specs.Sweep.{merge_steps, relabel}
use Rattle.version_ranges.proofs.Merges.{merged_ascend, merged_merge, merged_value}
use Rattle.version_ranges.proofs.Picks.{alike_merged}
use Rattle.version_ranges.proofs.PointLaws.{cut_total, place, value_at_place, piece_at_place}
use Rattle.version_ranges.proofs.StepLaws.{Alike, alike_ascends, alike_itself, alike_moved, alike_value, value_from, piece_from}

-- values that are equal by `==`
abbrev pub SameBy : {X : Type 0} → (X → X → Bool) → X → X → Type 0
SameBy same a b = same a b ≡ true

same_trans : {X : Type 0} {same : X → X → Bool} → IsEquivalence same → (a b c : X) → SameBy same a b → SameBy same b c → SameBy same a c
same_trans s a b c e f = s.congr a b c e ∙ f

module _ {C V X : Type 0} {cmp : C → C → Ordering} (o : IsTotalOrder cmp) {same : X → X → Bool} (s : IsEquivalence same) where
  -- what the loop keeps
  abbrev pub Labelled : X → X → List (C × X) → List (C × V) → List X → List (C × V) → List X → Type 0
  Labelled first last out steps values all given = (length values ≡ length steps) × Alike cmp (SameBy same) (out ++ merge_steps same last (relabel steps values)) (merge_steps same first (relabel all given))

  pub label_init : (first : X) (out : List (C × X)) (steps all : List (C × V)) (given : List X) → length given ≡ length steps → out ≡ [] → steps ≡ all → Labelled first first out steps given all given
  label_init first out steps all given len e f = rw (e, f) (len ∙ ap length f, alike_itself o (SameBy same) s.refl (merge_steps same first (relabel all given)))

  module _ (first last : X) (out : List (C × X)) (d : C) (u : V) (x : X) (steps rest all : List (C × V)) (values later given : List X) (a : Labelled first last out steps values all given)
      (e : steps ≡ (d, u) ∷ rest) (f : values ≡ x ∷ later) where
    start : Labelled first last out ((d, u) ∷ rest) (x ∷ later) all given
    start = subst (λ l. Labelled first last out l (x ∷ later) all given) e (subst (λ l. Labelled first last out steps l all given) f a)

    turned : (b : Bool) → same last x ≡ b → Alike cmp (SameBy same) (out ++ cond b (merge_steps same last (relabel rest later)) ((d, x) ∷ merge_steps same x (relabel rest later))) (merge_steps same first (relabel all given))
    turned b h = subst (λ b. Alike cmp (SameBy same) (out ++ cond b (merge_steps same last (relabel rest later)) ((d, x) ∷ merge_steps same x (relabel rest later))) (merge_steps same first (relabel all given))) h start.1

    fewer : length later ≡ length rest
    fewer = let h = start.0 in omega (arith, h)

    -- if the value changes, the cut is kept
    pub label_keep : (new : List (C × X)) (c : C) → same x last ≡ false → new ≡ out ++ (c, x) ∷ [] → cmp c d ≡ Equal → Labelled first x new rest later all given
    label_keep new c h1 h2 h3 = grind (arith, fewer, alike_moved, same_trans, turned)

    -- if it does not, the cut is skipped
    pub label_pass : same x last ≡ true → Labelled first last out rest later all given
    label_pass h = (fewer, turned true (s.symm last x ∙ h))

  pub label_end : (first last : X) (out : List (C × X)) (steps all : List (C × V)) (values given : List X) → Labelled first last out steps values all given → steps ≡ [] → Alike cmp (SameBy same) out (merge_steps same first (relabel all given))
  label_end first last out steps all values given a e = let h : Labelled first last out [] values all given = subst (λ l. Labelled first last out l values all given) e a in rw (← append-nil out) h.1

  module _ (first : X) (out : List (C × X)) (all : List (C × V)) (given : List X) (end : Alike cmp (SameBy same) out (merge_steps same first (relabel all given))) (a : ascends cmp None all ≡ true) where
    pub labelled_ascends : ascends cmp None out ≡ true
    labelled_ascends = alike_ascends o (SameBy same) out (merge_steps same first (relabel all given)) None end ∙ merged_ascend cmp o s first (merge_steps same first (relabel all given)) all given refl a

    pub labelled_merged : is_merged same first out ≡ true
    labelled_merged = alike_merged first first s cmp first first out (merge_steps same first (relabel all given)) (s.refl first) end ∙ merged_merge cmp o s first (merge_steps same first (relabel all given)) all given refl

    labelled_from : (values : List X) → values ≡ first ∷ given → length given ≡ length all → (p : Option C) (w : X) → slice_get values (piece_from cmp all p) ≡ Some w → same (value_from cmp first out p) w ≡ true
    labelled_from values e l p w h =
        s.congr (value_from cmp first out p) (value_from cmp first (merge_steps same first (relabel all given)) p) w (alike_value o (SameBy same) out (merge_steps same first (relabel all given)) first first p (s.refl first) end)
        ∙ merged_value cmp o s first (merge_steps same first (relabel all given)) all given refl a values e l p w h

module _ {T V X : Type 0} {cmp : T → T → Ordering} (o : IsTotalOrder cmp) {same : X → X → Bool} (s : IsEquivalence same) (first : X) (out : List (Cut T × X)) (all : List (Cut T × V)) (given : List X)
    (end : Alike (cut_cmp cmp) (SameBy same) out (merge_steps same first (relabel all given))) (a : ascends (cut_cmp cmp) None all ≡ true) where
  -- each point has the value of its piece
  pub labelled_value : (values : List X) → values ≡ first ∷ given → length given ≡ length all → (p : Point T) (w : X) → slice_get values (piece_at (stands_before (λ v. v) cmp p) all) ≡ Some w →
      same (value_at (stands_before (λ v. v) cmp p) first out) w ≡ true
  labelled_value values e l p w h =
      ap (λ v. same v w) (value_at_place cmp first out p)
      ∙ labelled_from (cut_total o) s first out all given end a values e l (place p) w (ap (slice_get values) (sym (piece_at_place cmp all p)) ∙ h)
