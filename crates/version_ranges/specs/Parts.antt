-- The pieces of a function, one after another.
use Rattle.std.specs.Prelude.{◌≡◌, ℕ, ◌<◌, Bool, true, false, ◌&&◌, Option, Some, None, List, [], ◌∷◌, length, slice_get}
use Rattle.std.specs.Option.{option_copied}
use Rattle.std.specs.Range.Bound.{bound_map}
use Rattle.std.specs.declared.cmp.Ordering.{Ordering}
use Rattle.std.specs.declared.cmp.Ordering.TheVariants.{Less}
use Rattle.std.specs.declared.ops.Bound.{Bound}
use Rattle.std.specs.declared.ops.Bound.TheVariants.{Included, Excluded, Unbounded}
use Rattle.version_ranges.specs.declared.cut.Cut.{Cut}
use Rattle.version_ranges.specs.declared.cuts.Cuts.{Cuts}
use Rattle.version_ranges.specs.declared.pieces.Piece.{Piece}
use Rattle.version_ranges.specs.declared.pieces.Pieces.{Pieces}
use Rattle.version_ranges.specs.Point.{Point, point_cmp, is_in_bounds}
use Rattle.version_ranges.specs.Cut.{lower_of, upper_of}
use Rattle.version_ranges.specs.Cuts.{value_of, piece_of, piece_count}

-- the bounds of a piece, and its value
pub record Part (T V : Type 0) : Type 0 where
  pub lower : Bound T
  pub upper : Bound T
  pub value : V

-- whether two bounds are of one kind, at equal values
abbrev pub same_bound : {T : Type 0} → (T → T → Bool) → Bound T → Bound T → Bool
same_bound eq (Included v) (Included w) = eq v w
same_bound eq (Included v) (Excluded w) = false
same_bound eq (Included v) Unbounded = false
same_bound eq (Excluded v) (Included w) = false
same_bound eq (Excluded v) (Excluded w) = eq v w
same_bound eq (Excluded v) Unbounded = false
same_bound eq Unbounded (Included w) = false
same_bound eq Unbounded (Excluded w) = false
same_bound eq Unbounded Unbounded = true

module _ {T V : Type 0} where
  -- whether two pieces have equal bounds and equal values
  abbrev pub same_part : (T → T → Bool) → (V → V → Bool) → Part T V → Part T V → Bool
  same_part eq same p q =
      same_bound eq p.lower q.lower && (same_bound eq p.upper q.upper && same p.value q.value)

  -- whether two lists have equal pieces, one after another
  abbrev pub same_parts : (T → T → Bool) → (V → V → Bool) → List (Part T V) → List (Part T V) → Bool
  same_parts eq same [] [] = true
  same_parts eq same [] (q ∷ qs) = false
  same_parts eq same (p ∷ ps) [] = false
  same_parts eq same (p ∷ ps) (q ∷ qs) = same_part eq same p q && same_parts eq same ps qs

  -- the pieces from a lower bound on
  abbrev pub parts_from : Bound T → V → List (Cut T × V) → List (Part T V)
  parts_from low v [] = record { lower = low; upper = Unbounded; value = v } ∷ []
  parts_from low v (s ∷ steps) =
      record { lower = low; upper = upper_of s.0; value = v } ∷ parts_from (lower_of s.0) s.1 steps

  -- a piece without its references
  abbrev pub part_of : Piece T V → Part T V
  part_of p = record {
    lower = bound_map (λ v. v.now) p.lower;
    upper = bound_map (λ v. v.now) p.upper;
    value = p.value.now;
  }

  abbrev pub parts_if : Bound T → Option V → List (Cut T × V) → List (Part T V)
  parts_if low None steps = []
  parts_if low (Some v) steps = parts_from low v steps

  -- what an iterator has left
  abbrev pub parts_left : Pieces T V → List (Part T V)
  parts_left it = parts_if (bound_map (λ v. v.now) it.lower) (option_copied it.value) it.rest.now

  -- whether a point lies between the bounds of a piece
  abbrev pub is_in : (T → T → Ordering) → Part T V → Point T → Bool
  is_in cmp part p = is_in_bounds cmp part.lower part.upper p

  -- a point lies between the bounds of a piece
  abbrev pub IsIn : (T → T → Ordering) → Part T V → Point T → Type 0
  IsIn cmp part p = is_in cmp part p ≡ true

  module _ {a : _} {b : _} {c : _} where
    -- all pieces
    abbrev pub parts_of : Cuts T V a b c → List (Part T V)
    parts_of cuts = parts_from Unbounded cuts.first cuts.rest.items

    -- the piece at an index
    abbrev pub IsPiece : Cuts T V a b c → ℕ → Part T V → Type 0
    IsPiece cuts i part = slice_get (parts_of cuts) i ≡ Some part

    -- what holds of the value of each piece
    abbrev pub HoldsOfPieces : (V → Bool) → Cuts T V a b c → Type 0
    HoldsOfPieces holds cuts =
        (i : ℕ) (part : Part T V) → IsPiece cuts i part → holds part.value ≡ true

    -- what holds of the value at each point
    abbrev pub HoldsOfPoints : (T → T → Ordering) → (V → Bool) → Cuts T V a b c → Type 0
    HoldsOfPoints cmp holds cuts = (p : Point T) → holds (value_of cmp cuts p) ≡ true

    -- these parts are the pieces of a function, in order
    pub record ArePieces (cmp : T → T → Ordering) (cuts : Cuts T V a b c)
        (parts : List (Part T V)) : Type 0 where
      pub count : length parts ≡ piece_count cuts
      -- each point lies in the part at its index, which has the value there
      pub covers : (p : Point T) → (part : Part T V) ×
          (slice_get parts (piece_of cmp cuts p) ≡ Some part) ×
          IsIn cmp part p × (part.value ≡ value_of cmp cuts p)
      -- and in no other part
      pub apart : (i : ℕ) (part : Part T V) (p : Point T) →
          slice_get parts i ≡ Some part → IsIn cmp part p → piece_of cmp cuts p ≡ i
      -- each part has a point
      pub nonempty : (i : ℕ) (part : Part T V) →
          slice_get parts i ≡ Some part → (p : Point T) × IsIn cmp part p
      -- the points of a part are before those of the next
      pub ascending : (p q : Point T) →
          piece_of cmp cuts p < piece_of cmp cuts q → point_cmp cmp p q ≡ Less
