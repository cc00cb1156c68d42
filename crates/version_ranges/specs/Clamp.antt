-- Functions whose points are moved into a range.
use Rattle.std.specs.Prelude.{◌≡◌, Bool, true, false}
use Rattle.std.specs.Borrow.{Bor}
use Rattle.std.specs.Range.Bound.{bound_map}
use Rattle.std.specs.declared.cmp.Ordering.{Ordering}
use Rattle.std.specs.declared.ops.Bound.{Bound}
use Rattle.version_ranges.specs.declared.cuts.Cuts.{Cuts}
use Rattle.version_ranges.specs.Cuts.{value_of}
use Rattle.version_ranges.specs.Point.{Point, begin_point, point_lt, is_from, is_until, is_in_bounds}

module _ {T : Type 0} where
  -- the bound that a reference points to
  abbrev pub bound_of : Bound (Bor T) → Bound T
  bound_of bound = bound_map (λ v. v.now) bound

  module _ (cmp : T → T → Ordering) (lower upper : Bound T) where
    -- a point between two bounds
    abbrev pub IsBetween : Point T → Type 0
    IsBetween p = is_in_bounds cmp lower upper p ≡ true

    -- there is a point between two bounds
    abbrev pub HasPoint : Type 0
    HasPoint = (p : Point T) × IsBetween p

    -- there is no point between two bounds
    abbrev pub IsBare : Type 0
    IsBare = (p : Point T) → is_in_bounds cmp lower upper p ≡ false

    -- One function is another one between two bounds. Below them it has that function's value at
    -- the first point between them, and above them the value at each point between them, from some
    -- such point on.
    pub record IsClamped {V : Type 0} (same : V → V → Bool) (old new : Point T → V) : Type 0 where
      pub inside : (p : Point T) → IsBetween p → same (new p) (old p) ≡ true
      pub below : (p : Point T) → is_from cmp lower p ≡ false →
          same (new p) (old (begin_point lower)) ≡ true
      pub above : (p : Point T) → is_until cmp upper p ≡ false →
          (q : Point T) × IsBetween q ×
          ((r : Point T) → IsBetween r → point_lt cmp r q ≡ false → same (new p) (old r) ≡ true)

-- one function is another one, whose points are moved between two borrowed bounds
abbrev pub IsMovedInto : {T V : Type 0} {a : _} {b : _} {c : _} → (T → T → Ordering)
    → (V → V → Bool) → Bound (Bor T) → Bound (Bor T) → Cuts T V a b c → Cuts T V a b c → Type 0
IsMovedInto cmp same lower upper old new =
    IsClamped cmp (bound_of lower) (bound_of upper) same (value_of cmp old) (value_of cmp new)
