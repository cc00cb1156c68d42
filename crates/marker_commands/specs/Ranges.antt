-- What a range of Python versions is.
use Rattle.std.specs.Prelude.{◌≡◌, ℕ, ◌&&◌, List, []}
use Rattle.std.specs.Str.{chars}
use Rattle.std.specs.declared.ops.Bound.{Bound}
use Rattle.version_ranges.specs.Point.{Point, is_in_bounds}
use Rattle.version_ranges.specs.Ranges.{contains_point, IsSet}
use Rattle.version_ranges.specs.declared.ranges.Ranges.{Ranges}
use Rattle.pep440_version.specs.Order.{version_cmp}
use Rattle.pep440_version.specs.Parts.{Parts}
use Rattle.pep440_specifier.specs.Specifier.{Specifier}
use Rattle.pep440_rs.specs.Bounds.{is_in_all}
use Rattle.pep440_rs.specs.Intervals.{is_in}
use Rattle.requirement_words.specs.Specifiers.{IsSpecifiers}

-- the text is that of these specifiers, with commas between them; a semicolon (59) ends none
abbrev pub IsSpecifierList : List ℕ → List Specifier → Type 0
IsSpecifierList text specifiers = IsSpecifiers 59 (chars text) [] specifiers

module _ {a : _} {b : _} {c : _} where
  -- the set has the versions of the old one that match the specifier
  abbrev pub IsMatching : Ranges Parts a b c → Specifier → Ranges Parts a b c → Type 0
  IsMatching old specifier new = IsSet version_cmp new (λ p. contains_point version_cmp old p
      && is_in specifier.operator specifier.version.release p)

-- the text is that of specifiers, which exactly the points between the bounds match
pub record IsRangeText (text : List ℕ) (lower upper : Bound Parts) : Type 0 where
  pub specifiers : List Specifier
  pub list : IsSpecifierList text specifiers
  pub matches : (p : Point Parts)
      → is_in_bounds version_cmp lower upper p ≡ is_in_all specifiers p
