-- Truths of markers in environments, and with extras alone.
use Rattle.std.specs.Prelude.{◌≡◌, ℕ, Bool, true, false, All, List, Option, Some, None}
use Rattle.std.specs.Borrow.{Bor}
use Rattle.pep508_errors.specs.declared.warning.MarkerWarningKind.{MarkerWarningKind}
use Rattle.pep508_errors.specs.declared.warning.MarkerWarningKind.TheVariants.{LexicographicComparison}
use Rattle.marker_environment.specs.declared.environment.MarkerEnvironment.{MarkerEnvironment}
use Rattle.marker_environment.specs.Environment.{valuation_of, values_of}
use Rattle.marker_walks.specs.Possible.{IsImpossible, IsPossible}
use Rattle.marker_graph.specs.declared.tree.MarkerTree.{MarkerTree}
use Rattle.marker_graph.specs.Contents.{Contents, truth}

-- the answer is what the marker is in the environment with these extras
abbrev pub Evaluates : Contents → MarkerTree → MarkerEnvironment → List (List ℕ) → Bool → Type 0
Evaluates c t e extras answer = answer ≡ truth c t (valuation_of (values_of e) extras)

-- if there is an environment, the answer is what the marker is in it
abbrev pub EvaluatesIn : Contents → MarkerTree → Option (Bor MarkerEnvironment)
    → List (List ℕ) → Bool → Type 0
EvaluatesIn c t environment extras answer = (e : Bor MarkerEnvironment)
    → environment ≡ Some e → Evaluates c t e.now extras answer

-- the marker is true at a valuation with exactly these extras
abbrev pub CanBeTrue : Contents → MarkerTree → List (List ℕ) → Type 0
CanBeTrue c t extras = IsPossible extras (truth c t)

-- the marker is false at each of them
abbrev pub CannotBeTrue : Contents → MarkerTree → List (List ℕ) → Type 0
CannotBeTrue c t extras = IsImpossible extras (truth c t)

-- without an environment, the answer `true` says that the marker can be true with these extras
abbrev pub Admits : Contents → MarkerTree → Option (Bor MarkerEnvironment) → List (List ℕ)
    → Bool → Type 0
Admits c t environment extras answer =
    environment ≡ None → answer ≡ true → CanBeTrue c t extras

-- without an environment, the answer `false` says that it cannot
abbrev pub Excludes : Contents → MarkerTree → Option (Bor MarkerEnvironment) → List (List ℕ)
    → Bool → Type 0
Excludes c t environment extras answer =
    environment ≡ None → answer ≡ false → CannotBeTrue c t extras

-- each of the warnings is about a comparison of texts by order
abbrev pub AreComparisons : {T : Type 0} → List (MarkerWarningKind × T) → Type 0
AreComparisons warnings = All (λ warning. warning.0 ≡ LexicographicComparison) warnings
