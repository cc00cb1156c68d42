-- For `Cuts::overlay`: its loop makes both functions side by side, whose halves are the two functions.
use Rattle.std.proofs.Common.{◌≡◌, Bool, true, List, [], ◌∷◌, ◌++◌, Option, None, ap, ◌∙◌, subst, append-nil}
use Rattle.std.specs.declared.cmp.Ordering.{Ordering}
use Rattle.std.specs.declared.cmp.Ordering.TheVariants.{Equal}
use Rattle.std.specs.Cmp.{IsTotalOrder, IsEquivalence}
use Rattle.version_ranges.specs.declared.cut.Cut.{Cut}
use Rattle.version_ranges.specs.Point.{Point}
use Rattle.version_ranges.specs.Cut.{cut_cmp, stands_before}
use Rattle.version_ranges.specs.Steps.{ascends, value_at}
use Rattle.version_ranges.proofs.PointLaws.{cut_total, place, value_at_place}
use Rattle.version_ranges.specs.Sweep.{overlay}
use Rattle.version_ranges.proofs.StepLaws.{value_from, Alike, alike_itself, alike_moved, alike_value, alike_ascends, overlay_value, overlay_ascends}

-- pairs whose parts are equal by `==`
abbrev pub BothSame : {V W : Type 0} → (V → V → Bool) → (W → W → Bool) → V × W → V × W → Type 0
BothSame same same' p q = (same p.0 q.0 ≡ true) × (same' p.1 q.1 ≡ true)

module _ {V W : Type 0} {same : V → V → Bool} {same' : W → W → Bool} (s : IsEquivalence same) (s' : IsEquivalence same') where
  pub both_itself : (p : V × W) → BothSame same same' p p
  both_itself p = (s.refl p.0, s'.refl p.1)

  both_trans : (p q r : V × W) → BothSame same same' p q → BothSame same same' q r → BothSame same same' p r
  both_trans p q r e f = (s.congr p.0 q.0 r.0 e.0 ∙ f.0, s'.congr p.1 q.1 r.1 e.1 ∙ f.1)

  module _ {C : Type 0} {cmp : C → C → Ordering} (o : IsTotalOrder cmp) where
    -- what the loop keeps
    abbrev pub Kept : List (C × (V × W)) → List (C × (V × W)) → List (C × (V × W)) → Type 0
    Kept out more all = Alike cmp (BothSame same same') (out ++ more) all

    pub sides_init : (v : V) (w : W) (xs lefts : List (C × V)) (ys rights : List (C × W)) (out : List (C × (V × W))) → out ≡ [] → lefts ≡ xs → rights ≡ ys →
        Kept out (overlay cmp v lefts w rights) (overlay cmp v xs w ys)
    sides_init v w xs lefts ys rights out e f g = rw (e, f, g) (alike_itself o (BothSame same same') both_itself (overlay cmp v xs w ys))

    pub sides_step : (out : List (C × (V × W))) (c d : C) (x y : V × W) (more rest new all : List (C × (V × W))) →
        Kept out more all → more ≡ (d, x) ∷ rest → new ≡ out ++ (c, y) ∷ [] → cmp c d ≡ Equal → same y.0 x.0 ≡ true → same' y.1 x.1 ≡ true → Kept new rest all
    sides_step out c d x y more rest new all a e f g h k = rw f (alike_moved o (BothSame same same') both_trans out c d y x rest all g (h, k) (rw e at a))

    pub sides_end : (out more all : List (C × (V × W))) → Kept out more all → more ≡ [] → Alike cmp (BothSame same same') out all
    sides_end out more all a e = rw (← append-nil out) (rw e at a)

    pub sides_ascend : (v : V) (w : W) (xs : List (C × V)) (ys : List (C × W)) (out : List (C × (V × W))) → Alike cmp (BothSame same same') out (overlay cmp v xs w ys) →
        ascends cmp None xs ≡ true → ascends cmp None ys ≡ true → ascends cmp None out ≡ true
    sides_ascend v w xs ys out a h k = alike_ascends o (BothSame same same') out (overlay cmp v xs w ys) None a ∙ overlay_ascends o v xs w ys None h k

    sides_value : (v : V) (w : W) (u : V × W) (xs : List (C × V)) (ys : List (C × W)) (out : List (C × (V × W))) → same u.0 v ≡ true → same' u.1 w ≡ true →
        Alike cmp (BothSame same same') out (overlay cmp v xs w ys) → (p : Option C) → BothSame same same' (value_from cmp u out p) (value_from cmp v xs p, value_from cmp w ys p)
    sides_value v w u xs ys out h k a p =
        subst (BothSame same same' (value_from cmp u out p)) (overlay_value o v xs w ys p) (alike_value o (BothSame same same') out (overlay cmp v xs w ys) u (v, w) p (h, k) a)

    pub sides_left : (v : V) (w : W) (u : V × W) (xs : List (C × V)) (ys : List (C × W)) (out : List (C × (V × W))) → same u.0 v ≡ true → same' u.1 w ≡ true →
        Alike cmp (BothSame same same') out (overlay cmp v xs w ys) → (p : Option C) → same (value_from cmp u out p).0 (value_from cmp v xs p) ≡ true
    sides_left v w u xs ys out h k a p = (sides_value v w u xs ys out h k a p).0

    pub sides_right : (v : V) (w : W) (u : V × W) (xs : List (C × V)) (ys : List (C × W)) (out : List (C × (V × W))) → same u.0 v ≡ true → same' u.1 w ≡ true →
        Alike cmp (BothSame same same') out (overlay cmp v xs w ys) → (p : Option C) → same' (value_from cmp u out p).1 (value_from cmp w ys p) ≡ true
    sides_right v w u xs ys out h k a p = (sides_value v w u xs ys out h k a p).1

module _ {T V W : Type 0} {cmp : T → T → Ordering} {same : V → V → Bool} {same' : W → W → Bool} (o : IsTotalOrder cmp) (s : IsEquivalence same) (s' : IsEquivalence same')
    (v : V) (w : W) (u : V × W) (xs : List (Cut T × V)) (ys : List (Cut T × W)) (out : List (Cut T × (V × W))) (h : same v u.0 ≡ true) (k : same' w u.1 ≡ true)
    (a : Alike (cut_cmp cmp) (BothSame same same') out (overlay (cut_cmp cmp) v xs w ys)) (p : Point T) where
  -- at each point both values, up to `==`
  pub point_left : same (value_at (stands_before (λ v. v) cmp p) u out).0 (value_at (stands_before (λ v. v) cmp p) v xs) ≡ true
  point_left =
      ap (λ r. same r.0 (value_at (stands_before (λ v. v) cmp p) v xs)) (value_at_place cmp u out p) ∙ ap (same (value_from (cut_cmp cmp) u out (place p)).0) (value_at_place cmp v xs p)
      ∙ sides_left s s' (cut_total o) v w u xs ys out (s.symm u.0 v ∙ h) (s'.symm u.1 w ∙ k) a (place p)

  pub point_right : same' (value_at (stands_before (λ v. v) cmp p) u out).1 (value_at (stands_before (λ v. v) cmp p) w ys) ≡ true
  point_right =
      ap (λ r. same' r.1 (value_at (stands_before (λ v. v) cmp p) w ys)) (value_at_place cmp u out p) ∙ ap (same' (value_from (cut_cmp cmp) u out (place p)).1) (value_at_place cmp w ys p)
      ∙ sides_right s s' (cut_total o) v w u xs ys out (s.symm u.0 v ∙ h) (s'.symm u.1 w ∙ k) a (place p)
