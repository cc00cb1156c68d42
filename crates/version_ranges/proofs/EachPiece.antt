-- Induction over the pieces of a function: what is true of each piece's value is true of the value
-- at each point, and the other way round. A clause ranges only over tests; these lemmas are over
-- any property, for the proofs of the crates above.
use Rattle.std.proofs.Common.{◌≡◌, ℕ, Bool, true, false, sym, ap, ◌∙◌, subst, Some, arith}
use Rattle.std.specs.Prelude.{slice_get}
use Rattle.std.specs.declared.cmp.Ordering.{Ordering}
use Rattle.version_ranges.specs.declared.cuts.Cuts.{Cuts}
use Rattle.version_ranges.specs.Point.{Point}
use Rattle.version_ranges.specs.Cuts.{value_of}
use Rattle.version_ranges.specs.Parts.{Part, parts_of, IsIn, ArePieces}
use Rattle.version_ranges.proofs.PieceLaws.{same_some}

module _ {T V : Type 0} {a : _} {b : _} {c : _} (cmp : T → T → Ordering) (cuts : Cuts T V a b c) (h : ArePieces cmp cuts (parts_of cuts)) where
  -- the value at a point is that of the piece whose bounds it lies between
  pub value_of_part : (p : Point T) (i : ℕ) (part : Part T V) → slice_get (parts_of cuts) i ≡ Some part → IsIn cmp part p → value_of cmp cuts p ≡ part.value
  value_of_part p i part e k =
      let q = h.covers p in
      sym q.3 ∙ ap (λ x. x.value) (same_some q.0 part (sym q.1 ∙ ap (slice_get (parts_of cuts)) (h.apart i part p e k) ∙ e))

  -- each piece has a point
  pub point_of_part : (i : ℕ) (part : Part T V) → slice_get (parts_of cuts) i ≡ Some part → (p : Point T) × IsIn cmp part p × (value_of cmp cuts p ≡ part.value)
  point_of_part i part e = let q = h.nonempty i part e in (q.0, q.1, value_of_part q.0 i part e q.1)

  pub at_each_point : (P : V → Type 0) → ((i : ℕ) (part : Part T V) → slice_get (parts_of cuts) i ≡ Some part → P part.value) → (p : Point T) → P (value_of cmp cuts p)
  at_each_point P k p = let q = h.covers p in subst P q.3 (k _ q.0 q.1)

  pub at_each_piece : (P : V → Type 0) → ((p : Point T) → P (value_of cmp cuts p)) → (i : ℕ) (part : Part T V) → slice_get (parts_of cuts) i ≡ Some part → P part.value
  at_each_piece P k i part e = let q = point_of_part i part e in subst P q.2 (k q.0)

-- what cannot be false is true
pub is_true : (b : Bool) → (b ≡ false → ⊥) → b ≡ true
is_true b h1 = grind arith
