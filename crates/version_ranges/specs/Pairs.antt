-- The values of two functions side by side, one pair after another.
use Rattle.std.specs.Prelude.{◌≡◌, ℕ, ◌+◌, ◌<◌, ◌≤◌, Bool, true, Some, List, [], ◌∷◌, length, map, slice_get, if◌then◌else◌}
use Rattle.std.specs.Borrow.{Bor}
use Rattle.std.specs.declared.cmp.Ordering.{Ordering}
use Rattle.std.specs.declared.cmp.Ordering.TheVariants.{Less}
use Rattle.version_ranges.specs.declared.cut.Cut.{Cut}
use Rattle.version_ranges.specs.declared.cuts.Cuts.{Cuts}
use Rattle.version_ranges.specs.declared.lent.CutsRef.{CutsRef}
use Rattle.version_ranges.specs.declared.pairs.Pairs.{Pairs}
use Rattle.version_ranges.specs.Point.{Point, point_cmp}
use Rattle.version_ranges.specs.Cut.{cut_cmp, stands_before}
use Rattle.version_ranges.specs.Cuts as cuts
use Rattle.version_ranges.specs.Lent.{value_of, piece_count}
use Rattle.version_ranges.specs.Steps.{piece_at}
use Rattle.version_ranges.specs.Sweep.{overlay, steps_left}

-- an item without its references
abbrev pub pair_of : {V W : Type 0} → Bor V × Bor W → V × W
pair_of q = (q.0.now, q.1.now)

module _ {T V W : Type 0} (cmp : T → T → Ordering) where
  -- what an iterator has left
  abbrev pub pairs_left : Pairs T V W → List (V × W)
  pairs_left it = if it.is_done then []
      else (it.sweep.left.now, it.sweep.right.now) ∷ map (λ s. s.1) (steps_left cmp it.sweep)

  module _ {a : _} {b : _} {c : _} {a' : _} {b' : _} {c' : _} where
    -- the cuts of two functions side by side, each with both values from it on
    abbrev pub steps_of_both : CutsRef T V a b c → CutsRef T W a' b' c' → List (Cut T × (V × W))
    steps_of_both left right =
        overlay (cut_cmp cmp) left.first.now left.rest.now right.first.now right.rest.now

    -- how many pieces they have side by side
    abbrev pub count_of_both : CutsRef T V a b c → CutsRef T W a' b' c' → ℕ
    count_of_both left right = length (steps_of_both left right) + 1

    -- which of these a point is in, counted from the first, if the values of the order have the
    -- names that f gives them
    abbrev pub piece_of_both_by : {K : Type 0} → (T → K) → (K → K → Ordering)
        → CutsRef T V a b c → CutsRef T W a' b' c' → Point K → ℕ
    piece_of_both_by f named left right p =
        piece_at (stands_before f named p) (steps_of_both left right)

    -- which of these a point lies in, counted from the first
    abbrev pub piece_of_both : CutsRef T V a b c → CutsRef T W a' b' c' → Point T → ℕ
    piece_of_both left right p = piece_of_both_by (λ v. v) cmp left right p

    -- these pairs are the values in the pieces of two functions side by side, one for each
    pub record AreInPieces (left : CutsRef T V a b c) (right : CutsRef T W a' b' c')
        (pairs : List (V × W)) : Type 0 where
      pub count : length pairs ≡ count_of_both left right
      pub covers : (p : Point T) →
          slice_get pairs (piece_of_both left right p)
          ≡ Some (value_of cmp left p, value_of cmp right p)
      -- each piece has a point
      pub nonempty : (i : ℕ) → i < length pairs → (p : Point T) × (piece_of_both left right p ≡ i)

    -- a function has these values in the pieces of two functions side by side
    abbrev pub HasValuesOfPairs : {X : Type 0} {a'' : _} {b'' : _} {c'' : _} → (X → X → Bool)
        → CutsRef T V a b c → CutsRef T W a' b' c' → List X → Cuts T X a'' b'' c'' → Type 0
    HasValuesOfPairs {X = X} same left right values new = (p : Point T) (x : X)
        → slice_get values (piece_of_both left right p) ≡ Some x
        → same (cuts.value_of cmp new p) x ≡ true

    -- these pairs are the values of two functions side by side, in order
    pub record ArePairs (left : CutsRef T V a b c) (right : CutsRef T W a' b' c')
        (pairs : List (V × W)) : Type 0 where
      -- which pair the values at a point are, counted from the first
      pub index : Point T → ℕ
      pub covers : (p : Point T) →
          slice_get pairs (index p) ≡ Some (value_of cmp left p, value_of cmp right p)
      -- each pair has a point
      pub nonempty : (i : ℕ) → i < length pairs → (p : Point T) × (index p ≡ i)
      -- the points of a pair are before those of the next
      pub ascending : (p q : Point T) → index p < index q → point_cmp cmp p q ≡ Less
      pub count : length pairs + 1 ≤ piece_count left + piece_count right
