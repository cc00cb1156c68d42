-- The values of two functions side by side, and the points that have them.
use Rattle.std.proofs.Common.{◌≡◌, ℕ, suc, ◌+◌, ◌<◌, ◌≤◌, true, List, [], ◌∷◌, length, map, None, Some, ◌∙◌, arith, rules}
use Rattle.std.specs.Prelude.{slice_get}
use Rattle.std.specs.Ordering.{match_ordering}
use Rattle.std.specs.declared.cmp.Ordering.{Ordering}
use Rattle.std.specs.declared.cmp.Ordering.TheVariants.{Less}
use Rattle.std.specs.Cmp.{IsTotalOrder}
use Rattle.std.proofs.lemmas.List.{length-map}
use Rattle.version_ranges.specs.declared.cut.Cut.{Cut}
use Rattle.version_ranges.specs.declared.lent.CutsRef.{CutsRef}
use Rattle.version_ranges.specs.Point.{Point, point_cmp}
use Rattle.version_ranges.specs.Cut.{cut_cmp, stands_before}
use Rattle.version_ranges.specs.Lent.{value_of}
use Rattle.version_ranges.specs.Pairs.{AreInPieces, ArePairs}
use Rattle.version_ranges.specs.Steps.{ascends, piece_at}
use Rattle.version_ranges.specs.Sweep.{overlay, overlay_step}
use Rattle.version_ranges.proofs.StepLaws.{overlay_value, overlay_ascends, value_from}
use Rattle.version_ranges.proofs.PointLaws.{cut_total, place, point_of, value_at_place, piece_at_place, piece_at_point}
use Rattle.version_ranges.proofs.PieceLaws.{piece_value, piece_point}
use Rattle.version_ranges.proofs.PartLaws.{between, parted_less}

module _ {C V W : Type 0} (cmp : C → C → Ordering) where
  order_length : (x y z : C × (V × W)) (first both second : List (C × (V × W))) (n m : ℕ) → length first ≤ n + suc m → length both ≤ n + m → length second ≤ suc n + m → (r : Ordering) →
      length (match_ordering r (x ∷ first) (y ∷ both) (z ∷ second)) ≤ suc n + suc m
  order_length x y z first both second n m h1 h2 h3 r = grind arith

  step_length : (v : V) (x : C × V) (more : W → List (C × W) → List (C × (V × W))) (n : ℕ) → ((w : W) (ys : List (C × W)) → length (more w ys) ≤ n + length ys) →
      (w : W) (ys : List (C × W)) → length (overlay_step cmp v x more w ys) ≤ suc n + length ys
  step_length v x more n h w [] = let k = h w [] in omega arith
  step_length v x more n h w (y ∷ ys) = grind (arith, order_length, length, step_length v x more n h y.1 ys)

  -- side by side there are no more cuts than both have
  overlay_length : (v : V) (xs : List (C × V)) (w : W) (ys : List (C × W)) → length (overlay cmp v xs w ys) ≤ length xs + length ys
  overlay_length v [] w ys = let k : length (overlay cmp v [] w ys) ≡ length ys = length-map ys (λ y. (y.0, (v, y.1))) in omega arith
  overlay_length v (x ∷ xs) w ys = step_length v x (overlay cmp x.1 xs) (length xs) (λ u zs. overlay_length x.1 xs u zs) w ys

module _ {T V W : Type 0} (cmp : T → T → Ordering) (o : IsTotalOrder cmp) {a : _} {b : _} {c : _} {a' : _} {b' : _} {c' : _} (left : CutsRef T V a b c) (right : CutsRef T W a' b' c')
    (left_up : ascends (cut_cmp cmp) None left.rest.now ≡ true) (right_up : ascends (cut_cmp cmp) None right.rest.now ≡ true) where
  abbrev both : List (Cut T × (V × W))
  both = overlay (cut_cmp cmp) left.first.now left.rest.now right.first.now right.rest.now

  abbrev index : Point T → ℕ
  index p = piece_at (stands_before (λ v. v) cmp p) both

  values_at : (p : Point T) → ◌≡◌ {A = V × W} (value_from (cut_cmp cmp) (left.first.now, right.first.now) both (place p)) (value_of cmp left p, value_of cmp right p)
  values_at p = search (rules, overlay_value, cut_total, place, value_from, value_at_place)

  covers : (p : Point T) → slice_get ((left.first.now, right.first.now) ∷ map (λ s. s.1) both) (index p) ≡ Some (value_of cmp left p, value_of cmp right p)
  covers p = search (rules, map, piece_at_place, piece_value, place, values_at)

  nonempty : (i : ℕ) → i < length ((left.first.now, right.first.now) ∷ map (λ s. s.1) both) → (p : Point T) × (index p ≡ i)
  nonempty i h =
      let q = piece_point (cut_cmp cmp) (cut_total o) None both i (overlay_ascends (cut_total o) left.first.now left.rest.now right.first.now right.rest.now None left_up right_up)
      (omega (arith, h, length-map both (λ (s : Cut T × (V × W)). s.1))) in
      (point_of q.0, piece_at_point cmp both q.0 ∙ q.2)

  ascending : (p q : Point T) → index p < index q → point_cmp cmp p q ≡ Less
  ascending p q h = let d = between (stands_before (λ v. v) cmp p) (stands_before (λ v. v) cmp q) both h in parted_less cmp o p q d.0 d.1 d.2

  pub are_pairs : ArePairs cmp left right ((left.first.now, right.first.now) ∷ map (λ s. s.1) both)
  are_pairs = record {
    index = index;
    covers = covers;
    nonempty = nonempty;
    ascending = ascending;
    count = omega (arith, overlay_length (cut_cmp cmp) left.first.now left.rest.now right.first.now right.rest.now, length-map both (λ (s : Cut T × (V × W)). s.1));
  }

  pub are_in_pieces : AreInPieces cmp left right ((left.first.now, right.first.now) ∷ map (λ s. s.1) both)
  are_in_pieces = record { count = omega (arith, length-map both (λ (s : Cut T × (V × W)). s.1)); covers = covers; nonempty = nonempty }
