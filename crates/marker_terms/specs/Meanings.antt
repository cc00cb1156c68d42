-- What the clauses of a set of values mean, and the terms of a range.
use Rattle.std.specs.Prelude.{◌≡◌, ℕ, Bool, List, String, not, string_bytes, true}
use Rattle.std.specs.Ordering.{is_eq}
use Rattle.std.specs.Borrow.{Bor}
use Rattle.std.specs.declared.ops.Bound.{Bound}
use Rattle.version_ranges.specs.Bounds.{all_bounds, passes_at}
use Rattle.version_ranges.specs.Point.{Point, is_in_bounds}
use Rattle.version_ranges.specs.Ranges.{contains_by, contains_point}
use Rattle.version_ranges.specs.declared.ranges.Ranges.{Ranges}
use Rattle.pep440_version.specs.Order.{version_cmp}
use Rattle.pep440_version.specs.Parts.{Parts}
use Rattle.pep440_specifier.specs.declared.operator.Operator.{Operator}
use Rattle.pep440_rs.specs.Bounds.{IsAtRelease, is_release, is_within}
use Rattle.pep440_rs.specs.Intervals.{is_in}
use Rattle.marker_words.specs.Compare.{beside, text_bound, text_cmp}
use Rattle.marker_words.specs.Key.{variable_of}
use Rattle.marker_words.specs.declared.key.MarkerValueString.{MarkerValueString}
use Rattle.marker_words.specs.declared.key.VersionVariable.{VersionVariable}
use Rattle.marker_environment.specs.Valuation.{Valuation}
use Rattle.marker_parts.specs.Expression.{holds_text}
use Rattle.marker_parts.specs.declared.expression.MarkerExpression.{MarkerExpression}
use Rattle.marker_words.specs.declared.operator.MarkerOperator.{MarkerOperator}
use Rattle.marker_terms.specs.Clauses.{clause_holds, clauses_hold}
use Rattle.marker_terms.specs.Plain.{is_plain}

-- the clauses are true exactly where a test is
abbrev pub ClausesMean : (Valuation → Bool) → List (List MarkerExpression) → Type 0
ClausesMean test clauses = (v : Valuation) → clauses_hold clauses v ≡ test v

-- all terms are true exactly where a test is
abbrev pub TermsMean : (Valuation → Bool) → List MarkerExpression → Type 0
TermsMean test terms = (v : Valuation) → clause_holds terms v ≡ test v

module _ {a : _} {b : _} {c : _} where
  -- whether the version is in the set
  abbrev pub in_versions : VersionVariable → Ranges Parts a b c → Valuation → Bool
  in_versions variable set v = contains_point version_cmp set (v.version variable)

  -- all versions at bounds of the set are releases
  abbrev pub HasReleaseBounds : Ranges Parts a b c → Type 0
  HasReleaseBounds set = all_bounds is_release set ≡ true

module _ {A : Type 0} {a : _} {b : _} {c : _} where
  -- whether the key's text is in the set
  abbrev pub in_texts : MarkerValueString → Ranges (String A) a b c → Valuation → Bool
  in_texts key set v = contains_by string_bytes text_cmp set (v.text (variable_of key))

  -- no text at a bound of the set has both quotes
  abbrev pub HasPlainTexts : Ranges (String A) a b c → Type 0
  HasPlainTexts set = all_bounds (λ t. is_plain (string_bytes t)) set ≡ true

-- whether the version is in the range
abbrev pub in_version_range : VersionVariable → Bound (Bor Parts) → Bound (Bor Parts)
    → Valuation → Bool
in_version_range variable lower upper v = is_within lower upper (v.version variable)

module _ {A B : Type 0} (lower : Bound (Bor (String A))) (upper : Bound (Bor (String B))) where
  -- whether the key's text is in the range
  abbrev pub in_text_range : MarkerValueString → Valuation → Bool
  in_text_range key v =
      is_in_bounds text_cmp (text_bound lower) (text_bound upper) (v.text (variable_of key))

  -- the range has this text alone
  abbrev pub IsOnlyText : List ℕ → Type 0
  IsOnlyText text = (q : Point (List ℕ))
      → is_in_bounds text_cmp (text_bound lower) (text_bound upper) q
      ≡ is_eq (beside text_cmp q text)

-- the versions of a specifier are those outside of a range, if its bounds are releases
abbrev pub HasVersionsOutside : Bound (Bor Parts) → Bound (Bor Parts) → Operator → Parts → Type 0
HasVersionsOutside lower upper operator version = IsAtRelease lower → IsAtRelease upper
    → (p : Point Parts) → is_in operator version.release p ≡ not (is_within lower upper p)

-- no text at the bound has both quotes
abbrev pub IsPlainAt : {A : Type 0} → Bound (Bor (String A)) → Type 0
IsPlainAt bound = passes_at is_plain (text_bound bound) ≡ true

-- two operators of texts give opposite answers
abbrev pub AreOpposite : MarkerOperator → MarkerOperator → Type 0
AreOpposite operator other = (key : MarkerValueString) (value : List ℕ) (v : Valuation)
    → holds_text operator key value v ≡ not (holds_text other key value v)
