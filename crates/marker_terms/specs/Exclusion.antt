-- Comparisons that are true outside of a range.
use Rattle.std.specs.Prelude.{◌≡◌, String, not}
use Rattle.std.specs.Borrow.{Bor}
use Rattle.std.specs.declared.ops.Bound.{Bound}
use Rattle.version_ranges.specs.Point.{is_in_bounds}
use Rattle.pep440_version.specs.Parts.{Parts}
use Rattle.pep440_rs.specs.Bounds.{IsAtRelease, is_within}
use Rattle.marker_words.specs.Compare.{text_bound, text_cmp}
use Rattle.marker_words.specs.Key.{variable_of}
use Rattle.marker_words.specs.declared.key.MarkerValueString.{MarkerValueString}
use Rattle.marker_words.specs.declared.key.VersionVariable.{VersionVariable}
use Rattle.marker_environment.specs.Valuation.{Valuation}
use Rattle.marker_parts.specs.declared.expression.MarkerExpression.{MarkerExpression}
use Rattle.marker_terms.specs.Clauses.{term_holds}

-- the comparison is true exactly where the key's text is outside of the range
abbrev pub ExcludesTexts : {A B : Type 0} → MarkerValueString → Bound (Bor (String A))
    → Bound (Bor (String B)) → MarkerExpression → Type 0
ExcludesTexts key lower upper term = (v : Valuation) → term_holds term v
    ≡ not (is_in_bounds text_cmp (text_bound lower) (text_bound upper) (v.text (variable_of key)))

-- the comparison is true exactly where the version is outside of the range, if its bounds are
-- releases
abbrev pub ExcludesVersions : VersionVariable → Bound (Bor Parts) → Bound (Bor Parts)
    → MarkerExpression → Type 0
ExcludesVersions variable lower upper term = IsAtRelease lower → IsAtRelease upper
    → (v : Valuation) → term_holds term v ≡ not (is_within lower upper (v.version variable))
