-- What is true of the order of any two diagrams.
use Rattle.std.specs.Prelude.{◌≡◌, List}
use Rattle.marker_environment.specs.Valuation.{Valuation}
use Rattle.marker_diagrams.specs.declared.node_id.NodeId.{NodeId}
use Rattle.marker_diagrams.specs.Diagram.{IsHeld, IsStore, truth}
use Rattle.marker_nodes.specs.Node.{Node, markers}

-- of two diagrams, each an id that a store has
abbrev pub OfDiagrams : (List Node × NodeId → List Node × NodeId → Type 0) → Type 0
OfDiagrams P = (a b : List Node) → IsStore markers a → IsStore markers b → (s t : NodeId)
    → IsHeld a s → IsHeld b t → P (a, s) (b, t)

-- two diagrams mean the same
abbrev pub MeanTheSame : List Node × NodeId → List Node × NodeId → Type 0
MeanTheSame d e = (v : Valuation) → truth markers d.0 d.1 v ≡ truth markers e.0 e.1 v
