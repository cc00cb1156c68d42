-- What the comparisons and clauses mean that are made of sets and ranges, and when they are
-- printable.
use Rattle.std.specs.Prelude.{◌≡◌, Bool, String, Vec, length, not, string_bytes, true}
use Rattle.std.specs.Borrow.{Bor}
use Rattle.std.specs.declared.ops.Bound.{Bound}
use Rattle.version_ranges.specs.Point.{Point}
use Rattle.version_ranges.specs.declared.ranges.Ranges.{Ranges}
use Rattle.pep440_version.specs.Parts.{Parts}
use Rattle.pep440_specifier.specs.Operator.{is_star}
use Rattle.pep440_specifier.specs.Specifier.{Specifier}
use Rattle.pep440_rs.specs.Bounds.{IsAtRelease}
use Rattle.pep440_rs.specs.Intervals.{is_in}
use Rattle.marker_words.specs.declared.key.MarkerValueString.{MarkerValueString}
use Rattle.marker_words.specs.declared.key.MarkerValueVersion.{MarkerValueVersion}
use Rattle.marker_words.specs.declared.key.VersionVariable.{VersionVariable}
use Rattle.marker_environment.specs.Valuation.{Valuation}
use Rattle.marker_parts.specs.declared.expression.MarkerExpression.{MarkerExpression}
use Rattle.marker_parts.specs.Expression.{holds, holds_version, test_of}
use Rattle.marker_terms.specs.Clauses.{clauses_of}
use Rattle.marker_terms.specs.Exclusion.{ExcludesTexts, ExcludesVersions}
use Rattle.marker_terms.specs.Meanings.{ClausesMean, HasPlainTexts, HasReleaseBounds, HasVersionsOutside, IsOnlyText, IsPlainAt, TermsMean, in_version_range, in_versions}
use Rattle.marker_terms.specs.Plain.{AllPrintable, HavePrintableTerms, IsPrintable, is_plain}

module _ {A B : Type 0} where
  -- the clauses are true exactly where a test is
  abbrev pub ClausesHoldWhere : (Valuation → Bool) → Vec (Vec MarkerExpression A) B → Type 0
  ClausesHoldWhere test clauses = ClausesMean test (clauses_of clauses.items)

  -- each term of the clauses is printable, if a fact is true
  abbrev pub ArePrintableIf : Type 0 → Vec (Vec MarkerExpression A) B → Type 0
  ArePrintableIf fact clauses = fact → HavePrintableTerms (clauses_of clauses.items)

module _ {A : Type 0} where
  -- all terms are true exactly where a test is
  abbrev pub HoldWhere : (Valuation → Bool) → Vec MarkerExpression A → Type 0
  HoldWhere test terms = TermsMean test terms.items

  -- all terms are true exactly where a test is false
  abbrev pub HoldOutside : (Valuation → Bool) → Vec MarkerExpression A → Type 0
  HoldOutside test terms = TermsMean (λ v. not (test v)) terms.items

-- ---- sets of texts

module _ {A B : Type 0} {a : _} {b : _} {c : _} where
  -- each term is printable, if no text at a bound of the set has both quotes
  abbrev pub ArePrintableIfPlain : Ranges (String A) a b c → Vec MarkerExpression B → Type 0
  ArePrintableIfPlain set terms = HasPlainTexts set → AllPrintable terms.items

module _ {A B : Type 0} where
  -- the comparison is true exactly where the key's text is outside of the range
  abbrev pub ExcludesTextsOf : MarkerValueString
      → Bound (Bor (String A)) × Bound (Bor (String B)) → MarkerExpression → Type 0
  ExcludesTextsOf key bounds term = ExcludesTexts key bounds.0 bounds.1 term

  -- the range has this text alone
  abbrev pub IsOnlyTextOf : Bound (Bor (String A)) × Bound (Bor (String A)) → Bor (String B)
      → Type 0
  IsOnlyTextOf bounds text = IsOnlyText bounds.0 bounds.1 (string_bytes text.now)

  -- the text has not both quotes, if none at the bound has
  abbrev pub IsPlainIfAt : Bound (Bor (String A)) → Bor (String B) → Type 0
  IsPlainIfAt bound text = IsPlainAt bound → is_plain (string_bytes text.now) ≡ true

  -- each term is printable, if no text at a bound of the range has both quotes
  abbrev pub ArePrintableBetween : Bound (Bor (String A)) × Bound (Bor (String A))
      → Vec MarkerExpression B → Type 0
  ArePrintableBetween bounds terms =
      IsPlainAt bounds.0 → IsPlainAt bounds.1 → AllPrintable terms.items

-- the comparison is printable, if no text at the bound has both quotes
abbrev pub IsPrintableIfPlain : {A : Type 0} → Bound (Bor (String A)) → MarkerExpression → Type 0
IsPrintableIfPlain bound term = IsPlainAt bound → IsPrintable term

-- ---- sets of versions, whose bounds are releases

module _ {A B : Type 0} {a : _} {b : _} {c : _} where
  -- the clauses are true exactly where the version is in the set
  abbrev pub MeanVersions : VersionVariable → Ranges Parts a b c → Vec (Vec MarkerExpression A) B
      → Type 0
  MeanVersions variable set clauses = HasReleaseBounds set
      → ClausesMean (in_versions variable set) (clauses_of clauses.items)

module _ {A : Type 0} {a : _} {b : _} {c : _} where
  -- all terms are true exactly where the version is outside of the set
  abbrev pub MeanVersionsOutside : VersionVariable → Ranges Parts a b c
      → Vec MarkerExpression A → Type 0
  MeanVersionsOutside variable set terms = HasReleaseBounds set
      → TermsMean (λ v. not (in_versions variable set v)) terms.items

-- all terms are true exactly where the version is in the range
abbrev pub MeanVersionRange : {A : Type 0} → VersionVariable
    → Bound (Bor Parts) × Bound (Bor Parts) → Vec MarkerExpression A → Type 0
MeanVersionRange variable bounds terms = IsAtRelease bounds.0 → IsAtRelease bounds.1
    → TermsMean (in_version_range variable bounds.0 bounds.1) terms.items

-- the comparison is true exactly where the version is outside of the range
abbrev pub ExcludesVersionsOf : VersionVariable → Bound (Bor Parts) × Bound (Bor Parts)
    → MarkerExpression → Type 0
ExcludesVersionsOf variable bounds term = ExcludesVersions variable bounds.0 bounds.1 term

-- ---- specifiers

-- the versions of the specifier are those outside of the range
abbrev pub IsOutside : Bound (Bor Parts) × Bound (Bor Parts) → Specifier → Type 0
IsOutside bounds s = HasVersionsOutside bounds.0 bounds.1 s.operator s.version

-- the versions of one specifier are those that another one leaves out
abbrev pub IsNegationOf : Specifier → Specifier → Type 0
IsNegationOf other s = (p : Point Parts)
    → is_in s.operator s.version.release p ≡ not (is_in other.operator other.version.release p)

-- the expression compares the variable with the specifier
abbrev pub ComparesWith : VersionVariable → Specifier → MarkerExpression → Type 0
ComparesWith variable s term = (v : Valuation)
    → holds (test_of term) v ≡ is_in s.operator s.version.release (v.version variable)

-- for each key, two specifiers take the same versions
abbrev pub TakeTheSame : Specifier → Specifier → Type 0
TakeTheSame s t = (key : MarkerValueVersion) (p : Point Parts)
    → holds_version key s p ≡ holds_version key t p

-- for each key, one specifier takes the versions that the other one leaves out
abbrev pub TakeTheOthers : Specifier → Specifier → Type 0
TakeTheOthers s t = (key : MarkerValueVersion) (p : Point Parts)
    → holds_version key s p ≡ not (holds_version key t p)

-- two specifiers have as many release numbers, if the first has a star
abbrev pub AreCountedAlike : Specifier → Specifier → Type 0
AreCountedAlike s t =
    is_star s.operator ≡ true → length s.version.release ≡ length t.version.release
