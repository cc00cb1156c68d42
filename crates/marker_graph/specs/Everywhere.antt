-- What is true of every interner that keeps the rules, of the markers that it holds, and as it
-- grows.
use Rattle.std.specs.Prelude.{◌≡◌, ◌<◌, ◌≤◌, ◌+◌, ◌*◌, Bool, false, List, [], ◌∷◌, OnOk, Result, Some, length}
use Rattle.std.specs.Ordering.{is_lt}
use Rattle.marker_environment.specs.Valuation.{Valuation}
use Rattle.marker_diagrams.specs.Diagram.{IsStore}
use Rattle.marker_nodes.specs.Node.{Node, markers}
use Rattle.marker_nodes.specs.Variable.{Variable, variable_cmp}
use Rattle.marker_graph.specs.declared.tree.MarkerTree.{MarkerTree}
use Rattle.marker_graph.specs.declared.tree.TheConstants.MarkerTree.{TRUE, FALSE}
use Rattle.marker_graph.specs.Contents.{Contents, IsHeld, IsKept}
use Rattle.marker_graph.specs.Tree.{DependsOn, HasExactly, HasSubtrees, IsMarkerOf, IsSubtree, node_of}

-- in each interner
abbrev pub InEach : (Contents → Type 0) → Type 0
InEach P = (c : Contents) → IsStore markers c.nodes → P c

-- of each marker that an interner holds
abbrev pub OfMarkers : (Contents → MarkerTree → Type 0) → Type 0
OfMarkers P = InEach (λ c. (t : MarkerTree) → IsHeld c t → P c t)

-- of each marker that an interner holds, and each subtree of it
abbrev pub OfSubtrees : (Contents → MarkerTree → MarkerTree → Type 0) → Type 0
OfSubtrees P = InEach (λ c. (t s : MarkerTree) → IsHeld c t → IsSubtree c t s → P c t s)

-- of each marker that an interner holds, and its node
abbrev pub OfNodes : (Contents → MarkerTree → Node → Type 0) → Type 0
OfNodes P =
    InEach (λ c. (t : MarkerTree) (n : Node) → IsHeld c t → node_of c t ≡ Some n → P c t n)

-- as an interner grows
abbrev pub AsItGrows : (Contents → Contents → Type 0) → Type 0
AsItGrows P = (old new : Contents) → IsKept old new → P old new

-- the order of two markers does not matter
abbrev pub Commutes : (Contents → MarkerTree → MarkerTree → MarkerTree → Type 0) → Type 0
Commutes Joins = InEach (λ c. (a b t u : MarkerTree) → Joins c a b t → Joins c b a u → t ≡ u)

-- how three markers are grouped does not matter
abbrev pub Associates : (Contents → MarkerTree → MarkerTree → MarkerTree → Type 0) → Type 0
Associates Joins = InEach (λ c. (x y z xy yz t u : MarkerTree) → Joins c x y xy → Joins c xy z t
    → Joins c y z yz → Joins c x yz u → t ≡ u)

-- a marker joined with itself is itself
abbrev pub IsIdempotent : (Contents → MarkerTree → MarkerTree → MarkerTree → Type 0) → Type 0
IsIdempotent Joins = InEach (λ c. (a t : MarkerTree) → IsHeld c a → Joins c a a t → t ≡ a)

-- the truth depends on no variable before this one
abbrev pub DependsOnNoneBefore : (Valuation → Bool) → Variable → Type 0
DependsOnNoneBefore f x = (y : Variable) → DependsOn f y → is_lt (variable_cmp y x) ≡ false

-- the truth depends on the variable, and on none before it
abbrev pub DependsFirstOn : (Valuation → Bool) → Variable → Type 0
DependsFirstOn f x = DependsOn f x × DependsOnNoneBefore f x

-- the marker of the truth has exactly three subtrees: itself, `TRUE` and `FALSE`
abbrev pub HasThreeSubtrees : Contents → (Valuation → Bool) → Type 0
HasThreeSubtrees c f = (t : MarkerTree) → IsMarkerOf c f t → HasExactly c t (t ∷ TRUE ∷ FALSE ∷ [])

-- there are at most as many expansions more as pairs of a subtree of each marker
abbrev pub GrowsByPairs : Contents → Contents → MarkerTree → MarkerTree → Type 0
GrowsByPairs old new t u = (xs ys : List MarkerTree) → HasSubtrees old t xs → HasSubtrees old u ys
    → new.expansions ≤ old.expansions + length xs * length ys

-- there are more expansions if the marker is new, until they are counted no further
abbrev pub CountsNew : Contents → Contents → MarkerTree → Type 0
CountsNew old new t = (IsHeld old t → ⊥) → old.expansions < 18446744073709551615
    → old.expansions < new.expansions

-- the expansions for a marker that joins two others: at most one for each pair of subtrees, none
-- uncounted, and one if the marker is new
pub record CountsJoin {T E : Type 0} (result : Result T E) (old new : Contents)
    (a b joined : MarkerTree) : Type 0 where
  pub bound : GrowsByPairs old new a b
  pub rises : old.expansions ≤ new.expansions
  pub raises : OnOk result (CountsNew old new joined)
