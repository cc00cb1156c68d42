-- The trees of cells, and what they mean.
use Rattle.std.specs.Prelude.{◌≡◌, ◌≤◌, ◌⊎◌, ℕ, Bool, List, length, map, Some, slice_get}
use Rattle.marker_environment.specs.Valuation.{Valuation}
use Rattle.marker_graph.specs.declared.tree.MarkerTree.{MarkerTree}
use Rattle.marker_graph.specs.Contents.{Contents, IsHeld, truth}

-- what the trees mean
abbrev pub truths_of : Contents → List MarkerTree → List (Valuation → Bool)
truths_of c trees = map (truth c) trees

-- the interner has each tree
abbrev pub AreHeld : Contents → List MarkerTree → Type 0
AreHeld c trees = (a : ℕ) (t : MarkerTree) → slice_get trees a ≡ Some t → IsHeld c t

-- the two trees are in the cells of these numbers
abbrev pub AreInCells : List MarkerTree → ℕ → ℕ → MarkerTree × MarkerTree → Type 0
AreInCells trees a b pair = (slice_get trees a ≡ Some pair.0) × (slice_get trees b ≡ Some pair.1)

-- the interner has the two trees
abbrev pub AreBothHeld : Contents → MarkerTree × MarkerTree → Type 0
AreBothHeld c pair = IsHeld c pair.0 × IsHeld c pair.1

-- one of the numbers is that of no cell
abbrev pub LacksCell : List MarkerTree → ℕ → ℕ → Type 0
LacksCell trees a b = (length trees ≤ a) ⊎ (length trees ≤ b)
