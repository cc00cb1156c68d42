-- The markers of an interner in the order of their numbers.
use Rattle.std.specs.Prelude.{◌≡◌, ℕ, ◌<◌, ◌≤◌, ◌⊎◌, List, [], ◌∷◌, ◌++◌, Option, None, Some, length, map, take}
use Rattle.std.specs.List.{All}
use Rattle.std.specs.List.Sorted.{IsNonDecreasingBy, IsPartitionPoint}
use Rattle.marker_diagrams.specs.Id.{place_of}
use Rattle.marker_graph.specs.declared.mark.Mark.{Mark}
use Rattle.marker_graph.specs.declared.tree.MarkerTree.{MarkerTree}
use Rattle.marker_graph.specs.Contents.{Contents, IsHeld, truth}
use Rattle.marker_graph.specs.Mark.{HoldsUpTo}
use Rattle.pep508_markers.specs.Machine.{Cells}
use Rattle.foreign_markers.specs.declared.markers.Growth.{Growth}

-- their truths
abbrev pub truths_in : Contents → List MarkerTree → Cells
truths_in c trees = map (truth c) trees

-- the interner has each marker
abbrev pub AreHeld : Contents → List MarkerTree → Type 0
AreHeld c trees = All (IsHeld c) trees

-- the interner had the nodes of each marker at the mark
abbrev pub AreBefore : Mark → List MarkerTree → Type 0
AreBefore mark trees = All (λ tree. place_of tree.id ≤ mark.nodes) trees

-- when the interner grew, it had the nodes of the markers before this number
pub record IsGrowth (trees : List MarkerTree) (growth : Growth) : Type 0 where
  pub within : growth.number ≤ length trees
  pub before : AreBefore growth.before (take growth.number trees)

-- so it was at each growth, and these are in the order of their numbers
pub record AreGrowths (trees : List MarkerTree) (growths : List Growth) : Type 0 where
  pub each : All (IsGrowth trees) growths
  pub ascend : IsNonDecreasingBy (λ growth. growth.number) growths

-- so many of the growths came before this number, and the others did not
abbrev pub AreBeforeNumber : ℕ → List Growth → ℕ → Type 0
AreBeforeNumber number growths count =
    IsPartitionPoint (λ g. g.number < number) (λ g. number ≤ g.number) growths count

-- the growths are as before, or with one more at their end
abbrev pub MayHaveMore : Growth → List Growth → List Growth → Type 0
MayHaveMore growth old new = (new ≡ old) ⊎ (new ≡ old ++ (growth ∷ []))

-- an interner as it was at a growth, if there is one, and else as it is
abbrev pub IsReleasedTo : Option Growth → Contents → Contents → Type 0
IsReleasedTo (Some growth) old new = HoldsUpTo growth.before old new
IsReleasedTo None old new = new ≡ old
