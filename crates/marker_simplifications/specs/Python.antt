-- Truths and ranges of Python versions: simplifying for a range, and requiring one.
use Rattle.std.specs.Prelude.{◌≡◌, Bool, true, false, ◌&&◌}
use Rattle.std.specs.Borrow.{Bor}
use Rattle.std.specs.declared.ops.Bound.{Bound}
use Rattle.std.specs.declared.ops.Bound.TheVariants.{Included, Excluded, Unbounded}
use Rattle.version_ranges.specs.Point.{Point, begin_point, point_lt, is_from, is_until, is_in_bounds}
use Rattle.version_ranges.specs.Clamp.{IsBetween, IsBare, bound_of}
use Rattle.pep440_version.specs.Parts.{Parts}
use Rattle.pep440_version.specs.Order.{version_cmp}
use Rattle.marker_environment.specs.Valuation.{Valuation}
use Rattle.marker_nodes.specs.Python.{python_of, with_python}

-- whether a range leaves nothing out
abbrev pub is_whole : Bound Parts → Bound Parts → Bool
is_whole Unbounded Unbounded = true
is_whole Unbounded (Included last) = false
is_whole Unbounded (Excluded end) = false
is_whole (Included first) upper = false
is_whole (Excluded before) upper = false

module _ (lower upper : Bound Parts) where
  -- whether the Python version is in the range
  abbrev pub is_python_in : Valuation → Bool
  is_python_in v = is_in_bounds version_cmp lower upper (python_of v)

  -- The truth g is the truth f, given that the Python version is in the range.
  pub record Assumes (f g : Valuation → Bool) : Type 0 where
    -- in the range it is f
    pub inside : (v : Valuation) → is_python_in v ≡ true → g v ≡ f v
    -- below a range with points it is f at the first point
    pub below : (p : Point Parts) → IsBetween version_cmp lower upper p → (v : Valuation)
        → is_from version_cmp lower (python_of v) ≡ false
        → g v ≡ f (with_python (begin_point lower) v)
    -- above it, what f is at every point of the range from some point on
    pub above : (p : Point Parts) → IsBetween version_cmp lower upper p → (v : Valuation)
        → is_until version_cmp upper (python_of v) ≡ false →
        (q : Point Parts) × IsBetween version_cmp lower upper q
        × ((r : Point Parts) → IsBetween version_cmp lower upper r
        → point_lt version_cmp r q ≡ false → g v ≡ f (with_python r v))
    -- for an empty range it is false everywhere
    pub empty : IsBare version_cmp lower upper → (v : Valuation) → g v ≡ false

  -- the truth f, and the Python version in the range
  abbrev pub require : (Valuation → Bool) → Valuation → Bool
  require f v = f v && is_python_in v

  -- two truths agree wherever the Python version is in the range
  abbrev pub AgreeInside : (Valuation → Bool) → (Valuation → Bool) → Type 0
  AgreeInside f g = (v : Valuation) → is_python_in v ≡ true → f v ≡ g v

-- whether the Python version is between two bounds
abbrev pub is_python_between : Bound (Bor Parts) → Bound (Bor Parts) → Valuation → Bool
is_python_between lower upper = is_python_in (bound_of lower) (bound_of upper)
