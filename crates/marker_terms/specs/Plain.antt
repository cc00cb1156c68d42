-- The comparisons whose printed text parses back, in the grammar of markers (PEP 508).
use Rattle.std.specs.Prelude.{◌≡◌, ◌≢◌, ◌==◌, ◌&&◌, ℕ, Bool, true, not, List, []}
use Rattle.std.specs.List.{AllByRecursion, list_any}
use Rattle.pep440_specifier.specs.Specifier.{IsWellFormed, Specifier}
use Rattle.pep440_specifier.specs.declared.operator.Operator.TheVariants.{ExactEqual}
use Rattle.pep440_rs.specs.Intervals as releases
use Rattle.pep508_names.specs.Name.{IsName, NormalizesTo}
use Rattle.marker_words.specs.declared.operator.MarkerOperator.TheVariants.{TildeEqual}
use Rattle.marker_parts.specs.declared.expression.MarkerExpression.{MarkerExpression}
use Rattle.marker_parts.specs.Expression.{Extra, Overflows, Test, arbitrary, extra, name, test_of, text, version, version_in}
use Rattle.std.specs.Borrow.{Bor}
use Rattle.std.specs.declared.ops.Bound.{Bound}
use Rattle.pep440_version.specs.Parts.{Parts}
use Rattle.pep440_specifier.specs.Bounds.{bound_specifiers}

-- one of the two quotes, 39 and 34, is not in the text, and so can enclose it
abbrev pub is_plain : List ℕ → Bool
is_plain t = not (list_any (λ c. c == 39) t && list_any (λ c. c == 34) t)

-- a name by its normal form, or a plain text that is an invalid name
abbrev pub IsPlainExtra : Extra → Type 0
IsPlainExtra (name n) = NormalizesTo n n
IsPlainExtra (arbitrary t) = ¬ IsName t × (is_plain t ≡ true)

-- the text of the comparison parses back: markers have no `===`, texts are not compared by `~=`,
-- and lists of versions are left out
abbrev pub IsPlain : Test → Type 0
IsPlain (version key s) = IsWellFormed s × (s.operator ≢ ExactEqual)
IsPlain (version_in key versions negated) = ⊥
IsPlain (text key TildeEqual value) = ⊥
IsPlain (text key operator value) = is_plain value ≡ true
IsPlain (extra operator x) = IsPlainExtra x

-- a term that parses back and has a set
pub record IsPrintable (e : MarkerExpression) : Type 0 where
  pub plain : IsPlain (test_of e)
  pub fits : ¬ Overflows (test_of e)

-- each term is printable
abbrev pub AllPrintable : List MarkerExpression → Type 0
AllPrintable terms = AllByRecursion IsPrintable terms

-- each term of each clause is printable
abbrev pub HavePrintableTerms : List (List MarkerExpression) → Type 0
HavePrintableTerms clauses = AllByRecursion AllPrintable clauses

-- there is a term, and each is printable
pub record IsPrintableClause (terms : List MarkerExpression) : Type 0 where
  pub some : terms ≢ []
  pub each : AllPrintable terms

-- there is a clause, and each is printable
pub record ArePrintable (clauses : List (List MarkerExpression)) : Type 0 where
  pub some : clauses ≢ []
  pub each : AllByRecursion IsPrintableClause clauses

-- a comparison of a full version with the specifier is written without `===`, and has a set
pub record IsPrintableSpecifier (s : Specifier) : Type 0 where
  pub operator : s.operator ≢ ExactEqual
  pub fits : ¬ releases.Overflows s.operator s.version.release

-- a specifier is printable if another one is
abbrev pub IsPrintableAs : Specifier → Specifier → Type 0
IsPrintableAs other s = IsPrintableSpecifier other → IsPrintableSpecifier s

-- each specifier of a range is printable
abbrev pub HasPrintableSpecifiers : Bound (Bor Parts) → Bound (Bor Parts) → Type 0
HasPrintableSpecifiers lower upper =
    AllByRecursion IsPrintableSpecifier (bound_specifiers lower upper)
