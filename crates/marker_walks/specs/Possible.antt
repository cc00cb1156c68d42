-- Truths that some valuation with given extras satisfies.
use Rattle.std.specs.Prelude.{◌≡◌, ◌<◌, ⊤, ℕ, length, Bool, true, false, not, bytes_eq, List, Contains, Option, Some, None}
use Rattle.std.specs.Borrow.{Bor}
use Rattle.std.specs.List.{list_any}
use Rattle.std.specs.Option.{option_map}
use Rattle.std.specs.declared.ops.Bound.{Bound}
use Rattle.version_ranges.specs.Clamp.{bound_of}
use Rattle.version_ranges.specs.Point.{at, is_in_bounds}
use Rattle.pep440_version.specs.Parts.{Parts}
use Rattle.pep440_version.specs.Order.{version_cmp}
use Rattle.marker_words.specs.declared.key.VersionVariable.{VersionVariable}
use Rattle.marker_words.specs.declared.key.VersionVariable.TheVariants.{ImplementationVersion, PythonFullVersion}
use Rattle.marker_environment.specs.Valuation.{Valuation}
use Rattle.marker_nodes.specs.Python.{python_of}
use Rattle.marker_nodes.specs.declared.variable.TruthVariable.{TruthVariable}
use Rattle.marker_nodes.specs.declared.variable.TruthVariable.TheVariants as truths

-- whether the name is one of these
abbrev pub is_listed : List (List ℕ) → List ℕ → Bool
is_listed names name = list_any (λ listed. bytes_eq listed name) names

-- exactly these valid extras are true, and no arbitrary one is
pub record HasExtras (extras : List (List ℕ)) (v : Valuation) : Type 0 where
  pub valid : (name : List ℕ) → v.extra name ≡ is_listed extras name
  pub arbitrary : (text : List ℕ) → v.arbitrary text ≡ false

-- the Python version is at one of these
abbrev pub HasVersion : List Parts → Valuation → Type 0
HasVersion versions v = (version : Parts) × Contains versions version × (python_of v ≡ at version)

-- some valuation with exactly these extras satisfies the truth
abbrev pub IsPossible : List (List ℕ) → (Valuation → Bool) → Type 0
IsPossible extras f = (v : Valuation) × HasExtras extras v × (f v ≡ true)

-- no valuation with exactly these extras does
abbrev pub IsImpossible : List (List ℕ) → (Valuation → Bool) → Type 0
IsImpossible extras f = (v : Valuation) → HasExtras extras v → f v ≡ false

-- some valuation with exactly these extras, and the Python version at one of these, satisfies the
-- truth
abbrev pub IsPossibleAt : List (List ℕ) → List Parts → (Valuation → Bool) → Type 0
IsPossibleAt extras versions f = (v : Valuation) × HasExtras extras v × HasVersion versions v
    × (f v ≡ true)

-- no such valuation does
abbrev pub IsImpossibleAt : List (List ℕ) → List Parts → (Valuation → Bool) → Type 0
IsImpossibleAt extras versions f = (v : Valuation) → HasExtras extras v → HasVersion versions v
    → f v ≡ false

-- the versions that references point to
abbrev pub listed_versions : Option (Bor (List Parts)) → Option (List Parts)
listed_versions versions = option_map (λ list. list.now) versions

-- if versions are listed, there is one
abbrev pub HasSome : Option (Bor (List Parts)) → Type 0
HasSome None = ⊤
HasSome (Some versions) = 0 < length versions.now

-- the Python version is one of these, if some are listed
abbrev pub IsAmong : Option (List Parts) → Valuation → Type 0
IsAmong None v = ⊤
IsAmong (Some versions) v = HasVersion versions v

-- the answer is whether some valuation with exactly these extras, at one of these versions,
-- satisfies the truth
pub record AnswersPossible (extras : List (List ℕ)) (versions : Option (List Parts))
    (f : Valuation → Bool) (answer : Bool) : Type 0 where
  pub possible : answer ≡ true → (v : Valuation) × HasExtras extras v × IsAmong versions v
      × (f v ≡ true)
  pub impossible : answer ≡ false → (v : Valuation) → HasExtras extras v → IsAmong versions v
      → f v ≡ false

-- whether a version variable may be between two bounds: always, except for the Python version if
-- versions are listed
abbrev pub may_lie_in : VersionVariable → Option (List Parts) → Bound Parts → Bound Parts → Bool
may_lie_in ImplementationVersion versions lower upper = true
may_lie_in PythonFullVersion None lower upper = true
may_lie_in PythonFullVersion (Some versions) lower upper =
    list_any (λ version. is_in_bounds version_cmp lower upper (at version)) versions

-- the same of references
abbrev pub may_lie_between : VersionVariable → Option (Bor (List Parts)) → Bound (Bor Parts)
    → Bound (Bor Parts) → Bool
may_lie_between x versions lower upper =
    may_lie_in x (listed_versions versions) (bound_of lower) (bound_of upper)

-- whether the variable may be true with exactly these extras: a substring test may
abbrev pub may_be_so : List (List ℕ) → TruthVariable → Bool
may_be_so extras (truths.In x text) = true
may_be_so extras (truths.Contains x text) = true
may_be_so extras (truths.Extra name) = is_listed extras name
may_be_so extras (truths.Arbitrary text) = false

-- and whether it may be otherwise
abbrev pub may_not_be_so : List (List ℕ) → TruthVariable → Bool
may_not_be_so extras (truths.In x text) = true
may_not_be_so extras (truths.Contains x text) = true
may_not_be_so extras (truths.Extra name) = not (is_listed extras name)
may_not_be_so extras (truths.Arbitrary text) = true
