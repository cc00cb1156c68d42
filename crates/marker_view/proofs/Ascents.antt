-- The cuts of a function ascend as points do, if its values depend on the names that a function
-- gives them.
use Rattle.std.proofs.Common.{◌≡◌, true, List, [], ◌∷◌, Some, sym, ap, ◌∙◌, subst, arith}
use Rattle.std.specs.Cmp.{IsTotalOrder}
use Rattle.std.specs.declared.cmp.Ordering.{Ordering}
use Rattle.std.proofs.lemmas.Bool.{and_parts}
use Rattle.version_ranges.specs.declared.cut.Cut.{Cut}
use Rattle.version_ranges.specs.Cut.{cut_cmp, cut_point}
use Rattle.version_ranges.specs.Point.{Point, point_map, point_lt}
use Rattle.version_ranges.specs.Steps.{ascends, is_before}
use Rattle.version_ranges.proofs.PointLaws.{place, place_point, place_before, point_of}
use Rattle.marker_view.proofs.CutLaws.{Ascends}

module _ {T K : Type 0} (f : T → K) (cmp : T → T → Ordering) (cmp' : K → K → Ordering) (o : IsTotalOrder cmp') (ends : List (Point K)) (named : (x y : T) → cmp x y ≡ cmp' (f x) (f y)) where
  lt_named : (p q : Point T) → point_lt cmp p q ≡ point_lt cmp' (point_map f p) (point_map f q)
  lt_named p q = grind arith

  point_named : (c : Cut T) → point_map f (cut_point (λ v. v) c) ≡ cut_point f c
  point_named c = grind arith

  pub ascend : {V : Type 0} → (low : Point T) (xs : List (Cut T × V)) → ascends (cut_cmp cmp) (place low) xs ≡ true → Ascends o (cut_point f) ends (point_map f low) xs
  ascend low [] h = tt
  ascend low (s ∷ xs) h =
      let q = and_parts (is_before (cut_cmp cmp) (place low) s.0) (ascends (cut_cmp cmp) (Some s.0) xs) h in (
        ap (λ p. point_lt cmp' (point_map f low) p) (sym (point_named s.0)) ∙ sym (lt_named low (cut_point (λ v. v) s.0)) ∙ place_before cmp low s.0 ∙ q.0,
        subst (λ p. Ascends o (cut_point f) ends p xs) (point_named s.0) (ascend (point_of (Some s.0)) xs (ap (λ p. ascends (cut_cmp cmp) p xs) (place_point (Some s.0)) ∙ q.1)),
      )
