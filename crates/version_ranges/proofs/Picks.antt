-- For `Cuts::from_ranges`: one of two values for each piece of a set, as its loop picks them.
use Rattle.std.proofs.Common.{◌≡◌, ℕ, ◌≤◌, Bool, true, false, not, cond, ◌&&◌, List, [], ◌∷◌, ◌++◌, map, drop, length, Option, Some, None, refl, sym, ap, ◌∙◌, append-nil, subst, arith}
use mathlib.Core.Bool.{beq}
use Rattle.std.specs.declared.cmp.Ordering.{Ordering}
use Rattle.std.specs.Cmp.{IsTotalOrder, IsEquivalence}
use Rattle.std.proofs.Math.ListN.{drop_of_length-le}
use Rattle.version_ranges.specs.declared.cut.Cut.{Cut}
use Rattle.version_ranges.specs.Point.{Point}
use Rattle.version_ranges.specs.Cut.{cut_cmp, stands_before}
use Rattle.version_ranges.specs.Steps.{is_before, ascends, value_at, is_merged}
use Rattle.std.proofs.lemmas.Cmp.{tied_itself}
use Rattle.version_ranges.proofs.StepLaws.{value_from, Alike, alike_itself, alike_moved, alike_value, alike_ascends}
use Rattle.version_ranges.proofs.PointLaws.{cut_total, place, value_at_place}

-- the value for a piece in the set or outside
abbrev pub pick : {V : Type 0} → V → V → Bool → V
pick inside outside b = cond b inside outside

module _ {V : Type 0} {same : V → V → Bool} (s : IsEquivalence same) (inside outside : V) where
  pick_same : same inside outside ≡ false → (a b : Bool) → same (pick inside outside a) (pick inside outside b) ≡ beq a b
  pick_same h1 a b = grind arith

  -- if both values are equal, either one is either
  pub pick_either : same inside outside ≡ true → (b : Bool) → same outside (pick inside outside b) ≡ true
  pick_either h1 b = grind arith

module _ {C V : Type 0} (inside outside : V) where
  abbrev pub picked : List (C × Bool) → List (C × V)
  picked xs = map (λ x. (x.0, pick inside outside x.1)) xs

  picked_value : (b : Bool) (xs : List (C × Bool)) (t : C → Bool) → value_at t (pick inside outside b) (picked xs) ≡ pick inside outside (value_at t b xs)
  picked_value b [] t = refl
  picked_value b (x ∷ xs) t = grind (arith, cond, picked_value x.1 xs t)

  picked_ascends : (cmp : C → C → Ordering) (low : Option C) (xs : List (C × Bool)) → ascends cmp low (picked xs) ≡ ascends cmp low xs
  picked_ascends cmp low [] = refl
  picked_ascends cmp low (x ∷ xs) = ap (λ b. is_before cmp low x.0 && b) (picked_ascends cmp (Some x.0) xs)

  module _ {same : V → V → Bool} (s : IsEquivalence same) where
    picked_merged : same inside outside ≡ false → (b : Bool) (xs : List (C × Bool)) → is_merged same (pick inside outside b) (picked xs) ≡ is_merged beq b xs
    picked_merged e b [] = refl
    picked_merged e b (x ∷ xs) = grind (arith, not, pick_same, beq, picked_merged e x.1 xs)

    pub alike_merged : (cmp : C → C → Ordering) (v w : V) (xs ys : List (C × V)) → same v w ≡ true → Alike cmp (λ a b. same a b ≡ true) xs ys → is_merged same v xs ≡ is_merged same w ys
    alike_merged cmp v w [] [] e a = refl
    alike_merged cmp v w [] (y ∷ ys) e a = absurd a
    alike_merged cmp v w (x ∷ xs) [] e a = absurd a
    alike_merged cmp v w (x ∷ xs) (y ∷ ys) e a = grind (arith, not, alike_merged cmp x.1 y.1 xs ys a.1.0 a.1.1)

    module _ {cmp : C → C → Ordering} (o : IsTotalOrder cmp) where
      -- what the loop keeps
      abbrev pub Picks : List (C × V) → List (C × Bool) → List (C × Bool) → Type 0
      Picks out left all = Alike cmp (λ a b. same a b ≡ true) (out ++ picked left) (picked all)

      pub picks_init : (out : List (C × V)) (xs all : List (C × Bool)) → out ≡ [] → xs ≡ all → Picks out xs all
      picks_init out xs all e f = rw (e, f) (alike_itself o (λ a b. same a b ≡ true) s.refl (picked all))

      pub picks_step : (out new : List (C × V)) (left more all : List (C × Bool)) (c : C) (b : Bool) (u : V) → Picks out left all → left ≡ (c, b) ∷ more →
          new ≡ out ++ (c, u) ∷ [] → same u (pick inside outside b) ≡ true → Picks new more all
      picks_step out new left more all c b u h1 h2 h3 h4 = grind (arith, alike_moved, tied_itself)

      pub picks_end : (out : List (C × V)) (left all : List (C × Bool)) → Picks out left all → left ≡ [] → Alike cmp (λ a b. same a b ≡ true) out (picked all)
      picks_end out left all a e = subst (λ l. Alike cmp (λ a b. same a b ≡ true) l (picked all)) (ap (λ l. out ++ picked l) e ∙ append-nil out) a

      pub picks_ascends : (out : List (C × V)) (all : List (C × Bool)) → Alike cmp (λ a b. same a b ≡ true) out (picked all) → ascends cmp None all ≡ true → ascends cmp None out ≡ true
      picks_ascends out all a h = alike_ascends o (λ a b. same a b ≡ true) out (picked all) None a ∙ picked_ascends cmp None all ∙ h

      pub picks_merged : (v : V) (b : Bool) (out : List (C × V)) (all : List (C × Bool)) → same v (pick inside outside b) ≡ true → same inside outside ≡ false →
          Alike cmp (λ a b. same a b ≡ true) out (picked all) → is_merged beq b all ≡ true → is_merged same v out ≡ true
      picks_merged v b out all e f a h = alike_merged cmp v (pick inside outside b) out (picked all) e a ∙ picked_merged f b all ∙ h

      pub picks_value : (v : V) (b : Bool) (out : List (C × V)) (all : List (C × Bool)) → same v (pick inside outside b) ≡ true → Alike cmp (λ a b. same a b ≡ true) out (picked all) → (p : Option C) →
          same (value_from cmp v out p) (pick inside outside (value_from cmp b all p)) ≡ true
      picks_value v b out all e a p =
          ap (same (value_from cmp v out p)) (sym (picked_value b all (is_before cmp p))) ∙ alike_value o (λ a b. same a b ≡ true) out (picked all) v (pick inside outside b) p e a

-- nothing is left past the end
pub drop_past : {X : Type 0} (xs : List X) (i : ℕ) → length xs ≤ i → drop i xs ≡ []
drop_past xs i h = drop_of_length-le xs h

-- the value at each point, up to `==`
pub point_pick : {T V : Type 0} {cmp : T → T → Ordering} {same : V → V → Bool} → IsTotalOrder cmp → IsEquivalence same → (inside outside v : V) (b : Bool) (out : List (Cut T × V)) (all : List (Cut T × Bool)) →
    same v (pick inside outside b) ≡ true → Alike (cut_cmp cmp) (λ a b. same a b ≡ true) out (picked inside outside all) → (p : Point T) →
    same (value_at (stands_before (λ v. v) cmp p) v out) (pick inside outside (value_at (stands_before (λ v. v) cmp p) b all)) ≡ true
point_pick {cmp = cmp} {same = same} o s inside outside v b out all e a p =
    ap (λ u. same u (pick inside outside (value_at (stands_before (λ v. v) cmp p) b all))) (value_at_place cmp v out p)
    ∙ ap (λ d. same (value_from (cut_cmp cmp) v out (place p)) (pick inside outside d)) (value_at_place cmp b all p) ∙ picks_value inside outside s (cut_total o) v b out all e a (place p)

module _ {V : Type 0} {same : V → V → Bool} (s : IsEquivalence same) where
  -- a clone of a value is equal to it
  pub clone_picked : (x y z : V) → x ≡ z → same x y ≡ true → same y z ≡ true
  clone_picked x y z e h = s.symm y z ∙ ap (λ u. same u y) (sym e) ∙ h

  pub either_value : (inside outside u : V) (b : Bool) → u ≡ outside → same inside outside ≡ true → same u (pick inside outside b) ≡ true
  either_value inside outside u b e h = ap (λ v. same v (pick inside outside b)) e ∙ pick_either s inside outside h b
