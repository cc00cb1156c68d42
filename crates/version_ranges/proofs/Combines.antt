-- Set operations on two sets: a cut is kept only if what is taken changes there.
use Rattle.std.proofs.Common.{◌≡◌, Bool, true, false, cond, List, [], ◌∷◌, ◌++◌, map, Option, None, Some, refl, sym, ap, ◌∙◌, append-nil, arith}
use mathlib.Core.Bool.{beq}
use Rattle.std.specs.declared.cmp.Ordering.{Ordering}
use Rattle.std.specs.declared.cmp.Ordering.TheVariants.{Equal}
use Rattle.std.specs.Cmp.{IsTotalOrder}
use Rattle.std.proofs.lemmas.Bool.{and_parts, and_from}
use Rattle.version_ranges.specs.declared.cut.Cut.{Cut}
use Rattle.version_ranges.specs.Cut.{cut_cmp, stands_before}
use Rattle.version_ranges.specs.Point.{Point}
use Rattle.version_ranges.specs.Steps.{ascends, is_merged, value_at}
use Rattle.version_ranges.specs.Sweep.{merge_steps, overlay}
use Rattle.version_ranges.proofs.EqualLaws.{flags_equal, flags_same}
use Rattle.version_ranges.proofs.Picks.{alike_merged}
use Rattle.version_ranges.proofs.PointLaws.{cut_total, place, value_at_place}
use Rattle.version_ranges.proofs.StepLaws.{Alike, alike_ascends, alike_itself, alike_moved, alike_value, merge_ascends, merge_merges, merge_value, overlay_ascends, overlay_value, value_from}

abbrev pub SameFlag : Bool → Bool → Type 0
SameFlag a b = beq a b ≡ true

module _ {C : Type 0} {cmp : C → C → Ordering} (o : IsTotalOrder cmp) (g : Bool × Bool → Bool) where
  -- what g makes of both values, at each cut
  abbrev pub combined_steps : List (C × (Bool × Bool)) → List (C × Bool)
  combined_steps steps = map (λ s. (s.0, g s.1)) steps

  -- what the loop keeps
  abbrev pub Combined : Bool → Bool → List (C × Bool) → List (C × (Bool × Bool)) → List (C × (Bool × Bool)) → Type 0
  Combined first last out more all = Alike cmp SameFlag (out ++ merge_steps beq last (combined_steps more)) (merge_steps beq first (combined_steps all))

  pub combine_init : (first v w : Bool) (xs lefts ys rights : List (C × Bool)) (out : List (C × Bool)) → out ≡ [] → lefts ≡ xs → rights ≡ ys →
      Combined first first out (overlay cmp v lefts w rights) (overlay cmp v xs w ys)
  combine_init first v w xs lefts ys rights out e f h = rw (e, f, h) (alike_itself o SameFlag flags_equal.refl _)

  trans : (a b c : Bool) → SameFlag a b → SameFlag b c → SameFlag a c
  trans a b c e f = flags_equal.congr a b c e ∙ f

  -- if what is taken changes, the cut is kept
  pub combine_keep : (first last : Bool) (out new : List (C × Bool)) (c d : C) (x : Bool × Bool) (v : Bool) (more rest all : List (C × (Bool × Bool))) →
      Combined first last out more all → more ≡ (d, x) ∷ rest → v ≡ g x → beq v last ≡ false → new ≡ out ++ (c, v) ∷ [] → cmp c d ≡ Equal → Combined first v new rest all
  combine_keep first last out new c d x v more rest all h1 h2 h3 h4 h5 h6 = grind (arith, beq, cond, alike_moved, trans)

  pub combine_end : (first last : Bool) (out : List (C × Bool)) (more all : List (C × (Bool × Bool))) → Combined first last out more all → more ≡ [] →
      Alike cmp SameFlag out (merge_steps beq first (combined_steps all))
  combine_end first last out more all a e = rw (← append-nil out) (rw e at a)

  steps_ascend : (low : Option C) (zs : List (C × (Bool × Bool))) → ascends cmp low zs ≡ true → ascends cmp low (combined_steps zs) ≡ true
  steps_ascend low [] a = refl
  steps_ascend low (z ∷ zs) a = let q = and_parts _ _ a in and_from _ _ q.0 (steps_ascend (Some z.0) zs q.1)

  steps_value : (u : Bool × Bool) (zs : List (C × (Bool × Bool))) (p : Option C) → value_from cmp (g u) (combined_steps zs) p ≡ g (value_from cmp u zs p)
  steps_value u [] p = refl
  steps_value u (z ∷ zs) p = grind (arith, cond, value_from, steps_value z.1 zs p)

  module _ (v w first : Bool) (xs ys out : List (C × Bool)) (first_is : first ≡ g (v, w)) (end : Alike cmp SameFlag out (merge_steps beq first (combined_steps (overlay cmp v xs w ys))))
      (h : ascends cmp None xs ≡ true) (k : ascends cmp None ys ≡ true) where
    all_ascend : ascends cmp None (combined_steps (overlay cmp v xs w ys)) ≡ true
    all_ascend = steps_ascend None _ (overlay_ascends o v xs w ys None h k)

    pub combined_ascends : ascends cmp None out ≡ true
    combined_ascends = alike_ascends o SameFlag out _ None end ∙ merge_ascends o flags_equal None first _ all_ascend

    pub combined_from : (p : Option C) → value_from cmp first out p ≡ g (value_from cmp v xs p, value_from cmp w ys p)
    combined_from p =
        flags_same _ _ (alike_value o SameFlag out _ first first p (flags_equal.refl first) end) ∙ flags_same _ _ (merge_value o flags_equal None first _ p all_ascend)
        ∙ ap (λ b. value_from cmp b (combined_steps (overlay cmp v xs w ys)) p) first_is ∙ steps_value (v, w) (overlay cmp v xs w ys) p ∙ ap g (overlay_value o v xs w ys p)

    pub combined_merged : is_merged beq first out ≡ true
    combined_merged = alike_merged first first flags_equal cmp first first out _ (flags_equal.refl first) end ∙ merge_merges o flags_equal first _

module _ {T : Type 0} {cmp : T → T → Ordering} (o : IsTotalOrder cmp) (g : Bool × Bool → Bool) (v w first : Bool) (xs ys out : List (Cut T × Bool)) (first_is : first ≡ g (v, w))
    (end : Alike (cut_cmp cmp) SameFlag out (merge_steps beq first (combined_steps (cut_total o) g (overlay (cut_cmp cmp) v xs w ys))))
    (h : ascends (cut_cmp cmp) None xs ≡ true) (k : ascends (cut_cmp cmp) None ys ≡ true) where
  -- at each point, what g makes of both values
  pub combined_value : (p : Point T) → value_at (stands_before (λ v. v) cmp p) first out ≡ g (value_at (stands_before (λ v. v) cmp p) v xs, value_at (stands_before (λ v. v) cmp p) w ys)
  combined_value p =
      value_at_place cmp first out p ∙ combined_from (cut_total o) g v w first xs ys out first_is end h k (place p)
      ∙ ap (λ b. g (b, value_from (cut_cmp cmp) w ys (place p))) (sym (value_at_place cmp v xs p)) ∙ ap (λ b. g (value_at (stands_before (λ v. v) cmp p) v xs, b)) (sym (value_at_place cmp w ys p))
