-- Laws of `merge_steps`, as its loop keeps them.
use Rattle.std.proofs.Common.{◌≡◌, suc, Bool, true, false, cond, List, [], ◌∷◌, ◌++◌, length, Option, Some, None, refl, sym, ap, ◌∙◌, subst, append-nil, append_assoc, arith}
use Rattle.std.specs.Prelude.{slice_get}
use Rattle.std.specs.declared.cmp.Ordering.{Ordering}
use Rattle.std.specs.Cmp.{IsTotalOrder, IsEquivalence}
use Rattle.std.proofs.lemmas.Bool.{and_parts, and_from}
use Rattle.version_ranges.specs.Steps.{is_before, ascends, is_merged, last_value}
use Rattle.version_ranges.specs.Sweep.{merge_steps, relabel}
use Rattle.version_ranges.proofs.StepLaws.{merge_value, merge_merges, merge_ascends, value_from, piece_from}

same_some : {W : Type 0} (a b : W) → Some a ≡ Some b → a ≡ b
same_some a b e = cc

pub last_value_append : {C V : Type 0} (v : V) (xs : List (C × V)) (x : C × V) → last_value v (xs ++ x ∷ []) ≡ x.1
last_value_append v [] x = refl
last_value_append v (y ∷ ys) x = last_value_append y.1 ys x

pub last_value_is : {C V : Type 0} (v : V) (xs ys : List (C × V)) (x : C × V) → xs ≡ ys ++ x ∷ [] → x.1 ≡ last_value v xs
last_value_is v xs ys x e = rw e (sym (last_value_append v ys x))

module _ {C V : Type 0} {same : V → V → Bool} (s : IsEquivalence same) where
  pub merges_keep : (first : V) (out : List (C × V)) (c : C) (v : V) (rest new all : List (C × V)) →
      out ++ merge_steps same (last_value first out) ((c, v) ∷ rest) ≡ all → same v (last_value first out) ≡ false → new ≡ out ++ (c, v) ∷ [] →
      new ++ merge_steps same (last_value first new) rest ≡ all
  merges_keep first out c v rest new all h1 h2 h3 = grind (arith, last_value_append, append_assoc, cond)

  module _ {U : Type 0} (first : V) (out all : List (C × V)) (c : C) (u : U) (v last : V) (steps steps' : List (C × U)) (values values' : List V) where
    -- what the loop keeps
    abbrev pub Kept : List (C × V) → List (C × U) → List V → Type 0
    Kept out steps values = (length values ≡ length steps) × (out ++ merge_steps same (last_value first out) (relabel steps values) ≡ all)

    tails : steps ≡ (c, u) ∷ steps' → values ≡ v ∷ values' → Kept out steps values →
        (length values' ≡ length steps') × (out ++ merge_steps same (last_value first out) ((c, v) ∷ relabel steps' values') ≡ all)
    tails e f k = let h : Kept out ((c, u) ∷ steps') (v ∷ values') = subst (λ l. Kept out l (v ∷ values')) e (subst (λ l. Kept out steps l) f k) in (omega (arith, h.0), h.1)

    pub merges_then : (new old : List (C × V)) → steps ≡ (c, u) ∷ steps' → values ≡ v ∷ values' → Kept out steps values →
        same v last ≡ false → last ≡ last_value first old → old ≡ out → new ≡ out ++ (c, v) ∷ [] → Kept new steps' values'
    merges_then new old e f k d l m n =
        let t = tails e f k in
        (t.0, merges_keep first out c v (relabel steps' values') new all t.1 (ap (same v) (sym (l ∙ ap (last_value first) m)) ∙ d) n)

    pub merges_else : (new old : List (C × V)) → steps ≡ (c, u) ∷ steps' → values ≡ v ∷ values' → Kept out steps values →
        same v last ≡ true → last ≡ last_value first old → old ≡ out → new ≡ out → Kept new steps' values'
    merges_else new old h1 h2 h3 h4 h5 h6 h7 = grind arith

module _ {C V W : Type 0} (cmp : C → C → Ordering) where
  relabel_ascends : (low : Option C) (xs : List (C × V)) (ws : List W) → ascends cmp low xs ≡ true → ascends cmp low (relabel xs ws) ≡ true
  relabel_ascends low [] ws a = refl
  relabel_ascends low (x ∷ xs) [] a = refl
  relabel_ascends low (x ∷ xs) (w ∷ ws) a = let q = and_parts _ _ a in and_from _ _ q.0 (relabel_ascends (Some x.0) xs ws q.1)

  by_test : (x : C × V) (xs : List (C × V)) (w u y : W) (ys : List W) (p : Option C) → (slice_get (y ∷ ys) (piece_from cmp xs p) ≡ Some u → value_from cmp y (relabel xs ys) p ≡ u) →
      (b : Bool) → slice_get (w ∷ y ∷ ys) (cond b 0 (suc (piece_from cmp xs p))) ≡ Some u → cond b w (value_from cmp y (relabel xs ys) p) ≡ u
  by_test x xs w u y ys p h1 b h2 = grind arith

  relabel_value : (xs : List (C × V)) (w u : W) (ws : List W) (p : Option C) → length ws ≡ length xs → slice_get (w ∷ ws) (piece_from cmp xs p) ≡ Some u → value_from cmp w (relabel xs ws) p ≡ u
  relabel_value [] w u ws p e f = same_some w u f
  relabel_value (x ∷ xs) w u [] p e f = absurd (omega (arith, e))
  relabel_value (x ∷ xs) w u (y ∷ ys) p e f = by_test x xs w u y ys p (relabel_value xs y u ys p (omega (arith, e))) (is_before cmp p x.0) f

  module _ (o : IsTotalOrder cmp) {same : W → W → Bool} (s : IsEquivalence same) (first : W) (out : List (C × W)) (xs : List (C × V)) (ws : List W) (out_is : out ≡ merge_steps same first (relabel xs ws)) where
    pub merged_ascend : ascends cmp None xs ≡ true → ascends cmp None out ≡ true
    merged_ascend a = rw out_is (merge_ascends o s None first (relabel xs ws) (relabel_ascends None xs ws a))

    pub merged_merge : is_merged same first out ≡ true
    merged_merge = rw out_is (merge_merges o s first (relabel xs ws))

    pub merged_value : ascends cmp None xs ≡ true → (values : List W) → values ≡ first ∷ ws → length ws ≡ length xs → (p : Option C) (w : W) → slice_get values (piece_from cmp xs p) ≡ Some w →
        same (value_from cmp first out p) w ≡ true
    merged_value a values e l p w h =
        rw out_is (ap (same (value_from cmp first (merge_steps same first (relabel xs ws)) p)) (sym (relabel_value xs first w ws p l (rw e at h)))
        ∙ merge_value o s None first (relabel xs ws) p (relabel_ascends None xs ws a))

pub merges_end : {C V U : Type 0} (same : V → V → Bool) (first : V) (out all : List (C × V)) (steps : List (C × U)) (values : List V) →
    out ++ merge_steps same (last_value first out) (relabel steps values) ≡ all → steps ≡ [] → out ≡ all
merges_end same first out all steps values h1 h2 = grind (arith, append-nil)
