-- Sets of the values of one variable, as conditions.
use Rattle.std.specs.Prelude.{◌≡◌, Bool, string_bytes}
use Rattle.version_ranges.specs.Ranges.{contains_by, contains_point}
use Rattle.pep440_version.specs.Order.{version_cmp}
use Rattle.marker_words.specs.Compare.{text_cmp}
use Rattle.marker_environment.specs.Valuation.{Valuation}
use Rattle.marker_simplifications.specs.declared.value_set.ValueSet.{ValueSet}
use Rattle.marker_simplifications.specs.declared.value_set.ValueSet.TheVariants.{Versions, Texts}

-- whether the value of the set's variable is in the set
abbrev pub contains : ValueSet → Valuation → Bool
contains (Versions x set) v = contains_point version_cmp set.ranges (v.version x)
contains (Texts x range) v = contains_by string_bytes text_cmp range (v.text x)

-- the truth is whether the variable's value is in the set
abbrev pub IsSetOf : (Valuation → Bool) → ValueSet → Type 0
IsSetOf f set = (v : Valuation) → contains set v ≡ f v
