-- What is reported in an evaluation.
use Rattle.std.specs.Prelude.{◌≡◌, ℕ, Bool, false, List, Option, All, String, string_bytes}
use Rattle.std.specs.Borrow.{Bor}
use Rattle.std.specs.Global.{Global}
use Rattle.std.specs.Range.Bound.{bound_map}
use Rattle.std.specs.String.{string_eq}
use Rattle.std.specs.declared.ops.Bound.{Bound}
use Rattle.std.specs.declared.ops.Bound.TheVariants.{Included, Excluded, Unbounded}
use Rattle.version_ranges.specs.Clamp.{bound_of}
use Rattle.version_ranges.specs.Point.{at, is_until}
use Rattle.marker_words.specs.Compare.{text_cmp}
use Rattle.pep508_errors.specs.declared.warning.MarkerWarningKind.{MarkerWarningKind}
use Rattle.pep508_errors.specs.declared.warning.MarkerWarningKind.TheVariants.{LexicographicComparison}
use Rattle.pep508_errors.specs.Kinds.{Adds}

-- whether only one value is between two bounds
abbrev pub is_single : Bound (String Global) → Bound (String Global) → Bool
is_single (Included first) (Included last) = string_eq first last
is_single (Included first) (Excluded end) = false
is_single (Included first) Unbounded = false
is_single (Excluded before) upper = false
is_single Unbounded upper = false

-- whether a text is not above an upper bound
abbrev pub is_text_until : Bound (Bor (String Global)) → List ℕ → Bool
is_text_until upper text = is_until text_cmp (bound_map string_bytes (bound_of upper)) (at text)

-- only comparisons by order were reported
abbrev pub AddsComparisons : Option (List MarkerWarningKind) → Option (List MarkerWarningKind)
    → Type 0
AddsComparisons before after = (kinds : List MarkerWarningKind) × Adds before after kinds
    × All (λ kind. kind ≡ LexicographicComparison) kinds
