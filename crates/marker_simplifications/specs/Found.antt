-- What may be found, and sets of the values of one variable that may be.
use Rattle.std.specs.Prelude.{◌≡◌, Bool, IfOk, IfSome, Option, Result, String, string_bytes, if◌then◌else◌}
use Rattle.std.specs.Global.{Global}
use Rattle.std.specs.declared.cmp.Ordering.{Ordering}
use Rattle.version_ranges.specs.declared.cuts.Cuts.{Cuts}
use Rattle.version_ranges.specs.declared.ranges.Ranges.{Ranges}
use Rattle.version_ranges.specs.Cuts.{value_of}
use Rattle.version_ranges.specs.Point.{Point}
use Rattle.version_ranges.specs.Ranges.{contains_by, contains_point}
use Rattle.pep440_version.specs.Parts.{Parts}
use Rattle.pep440_version.specs.Order.{version_cmp}
use Rattle.marker_words.specs.declared.key.TextVariable.{TextVariable}
use Rattle.marker_words.specs.declared.key.VersionVariable.{VersionVariable}
use Rattle.marker_words.specs.Compare.{text_cmp}
use Rattle.marker_environment.specs.Valuation.{Valuation}
use Rattle.marker_parts.specs.Expression.{Test, holds}
use Rattle.marker_diagrams.specs.declared.node_id.NodeId.{NodeId}
use Rattle.marker_diagrams.specs.Id.{opposite}

-- if something was found, without an error, it is such
abbrev pub IfFound : {A E : Type 0} → Result (Option A) E → (A → Type 0) → Type 0
IfFound result P = IfOk result (λ found. IfSome found P)

module _ {a : _} {b : _} {c : _} where
  -- whether the variable's version is in the set
  abbrev pub has_version_in : VersionVariable → Ranges Parts a b c → Valuation → Bool
  has_version_in x set v = contains_point version_cmp set (v.version x)

  -- whether the variable's text is in the set
  abbrev pub has_text_in : TextVariable → Ranges (String Global) a b c → Valuation → Bool
  has_text_in x set v = contains_by string_bytes text_cmp set (v.text x)

  -- the test holds exactly where this variable's version is in this set
  abbrev pub IsRangeOf : Test → VersionVariable × Ranges Parts a b c → Type 0
  IsRangeOf test range = (v : Valuation) → holds test v ≡ has_version_in range.0 range.1 v

module _ {T : Type 0} {a : _} {b : _} {c : _} where
  -- the points of the set have this child, and all others its negation
  abbrev pub HasChildExactlyIn : (T → T → Ordering) → Cuts T NodeId a b c → NodeId
      → Ranges T a b c → Type 0
  HasChildExactlyIn cmp edges child set = (p : Point T) → value_of cmp edges p
      ≡ (if contains_point cmp set p then child else opposite child)
