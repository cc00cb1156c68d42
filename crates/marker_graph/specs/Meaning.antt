-- What markers mean, as facts of each valuation.
use Rattle.std.specs.Prelude.{◌≡◌, Bool, true, false, ◌&&◌, ◌||◌}
use Rattle.marker_environment.specs.Valuation.{Valuation}
use Rattle.marker_parts.specs.Expression.{Test, Overflows}
use Rattle.marker_simplifications.specs.declared.value_set.ValueSet.{ValueSet}
use Rattle.marker_simplifications.specs.Expression.{IsInvalid}
use Rattle.marker_simplifications.specs.ValueSet.{contains}
use Rattle.marker_graph.specs.declared.tree.MarkerTree.{MarkerTree}
use Rattle.marker_graph.specs.Contents.{Contents, truth}

-- the test can be a marker: no bound would be above 2^64 - 1, and `~=` compares no texts
pub record CanBeMade (test : Test) : Type 0 where
  pub no_overflow : ¬ Overflows test
  pub not_invalid : ¬ IsInvalid test

-- the marker is true exactly where the test is
abbrev pub IsTrueWhere : Contents → (Valuation → Bool) → MarkerTree → Type 0
IsTrueWhere c test t = (v : Valuation) → truth c t v ≡ test v

-- the marker is true exactly where both of the two are
abbrev pub IsTrueWhereBoth : Contents → MarkerTree → MarkerTree → MarkerTree → Type 0
IsTrueWhereBoth c a b t = (v : Valuation) → truth c t v ≡ (truth c a v && truth c b v)

-- the marker is true exactly where one of the two is
abbrev pub IsTrueWhereEither : Contents → MarkerTree → MarkerTree → MarkerTree → Type 0
IsTrueWhereEither c a b t = (v : Valuation) → truth c t v ≡ (truth c a v || truth c b v)

-- two markers mean the same
abbrev pub MeanTheSame : Contents → MarkerTree → MarkerTree → Type 0
MeanTheSame c a b = (v : Valuation) → truth c a v ≡ truth c b v

-- no valuation satisfies both markers
abbrev pub AreDisjoint : Contents → MarkerTree → MarkerTree → Type 0
AreDisjoint c a b = (v : Valuation) → (truth c a v && truth c b v) ≡ false

-- a valuation satisfies both markers
abbrev pub Overlap : Contents → MarkerTree → MarkerTree → Type 0
Overlap c a b = (v : Valuation) × (truth c a v ≡ true) × (truth c b v ≡ true)

-- the set has exactly the values for which the marker is true
abbrev pub IsSetOf : Contents → MarkerTree → ValueSet → Type 0
IsSetOf c t set = (v : Valuation) → contains set v ≡ truth c t v
