-- What is true of every store of nodes, of the ids that it holds, and as it grows.
use Rattle.std.specs.Prelude.{◌≡◌, ◌≢◌, ◌⊎◌, ℕ, Bool, not, true, false, List, ◌∷◌, Some}
use Rattle.std.specs.Ordering.{is_lt}
use Rattle.marker_diagrams.specs.declared.node_id.NodeId.{NodeId}
use Rattle.marker_diagrams.specs.declared.node_id.TheConstants.NodeId.{FALSE}
use Rattle.marker_diagrams.specs.Id.{is_negated, opposite, signed_id, id_of}
use Rattle.marker_diagrams.specs.Diagram.{NodeKind, node_at, node_of, truth, AreSame, IsChoice, IsHeld, IsLawful, IsReady, IsStore, Separated}
use Rattle.marker_diagrams.specs.Residue.{AreChildrenOf, AreExactly, DependsOn, IsResidue, IsSubtree}

-- in each list of nodes of any kind
abbrev pub InEachList : (N X V : Type 0) → (NodeKind N X V → List N → Type 0) → Type 0
InEachList N X V P = (kind : NodeKind N X V) (nodes : List N) → P kind nodes

-- in each store of nodes of any kind
abbrev pub InEachStore : (N X V : Type 0) → (NodeKind N X V → List N → Type 0) → Type 0
InEachStore N X V P = (kind : NodeKind N X V) (nodes : List N) → IsStore kind nodes → P kind nodes

-- in each store of nodes of any kind that keeps the rules
abbrev pub InEachLawfulStore : (N X V : Type 0) → (NodeKind N X V → List N → Type 0) → Type 0
InEachLawfulStore N X V P = (kind : NodeKind N X V) (nodes : List N) → IsLawful kind
    → IsStore kind nodes → P kind nodes

module _ {N X V : Type 0} (kind : NodeKind N X V) (nodes : List N) where
  -- the id has this truth at each valuation
  abbrev pub MeansEverywhere : NodeId → Bool → Type 0
  MeansEverywhere t b = (v : V) → truth kind nodes t v ≡ b

  -- the negation of an id is true where the id is false
  abbrev pub NegationsMeanTheContrary : Type 0
  NegationsMeanTheContrary = (t : NodeId) (v : V)
      → truth kind nodes (opposite t) v ≡ not (truth kind nodes t v)

  -- an id means at each valuation what the child means that its node selects, with its own sign
  abbrev pub NodesMeanTheirChildren : Type 0
  NodesMeanTheirChildren = (t : NodeId) (n : N) → node_of nodes t ≡ Some n → (v : V)
      → truth kind nodes t v ≡ truth kind nodes (signed_id (is_negated t) (kind.pick n v)) v

  -- two ids of the list are equal, or differ at some valuation
  abbrev pub OtherIdsAreSeparated : Type 0
  OtherIdsAreSeparated = (a b : NodeId) → IsHeld nodes a → IsHeld nodes b
      → (a ≡ b) ⊎ Separated kind nodes a b

  -- an id of the list other than `FALSE` is true at some valuation
  abbrev pub OtherIdsAreSatisfied : Type 0
  OtherIdsAreSatisfied = (t : NodeId) → IsHeld nodes t → t ≢ FALSE
      → (v : V) × (truth kind nodes t v ≡ true)

  -- the list is a store, and remains one with this node before it that is ready and no duplicate
  abbrev pub RemainsAStoreWith : N → Type 0
  RemainsAStoreWith n = IsLawful kind → IsStore kind nodes → IsReady kind nodes n
      → ((i : ℕ) (m : N) → node_at nodes i ≡ Some m → AreSame kind n m → ⊥)
      → IsStore kind (n ∷ nodes)

  -- the id of a node of the list is the choice of the children of each node that is the same
  abbrev pub SameNodesHaveOneId : Type 0
  SameNodesHaveOneId = (n m : N) (i : ℕ) → node_of nodes (id_of i false) ≡ Some m
      → AreSame kind n m
      → IsChoice kind nodes (kind.variable n) (kind.pick n) (id_of i false)

  -- the second id means a residue of the first one's truth, at this variable and valuation
  abbrev pub MeansResidue : NodeId → X → V → NodeId → Type 0
  MeansResidue t x s u = IsResidue kind (truth kind nodes t) x s (truth kind nodes u)

  -- each subtree of an id means a residue of its truth
  abbrev pub EachSubtreeIsAResidue : Type 0
  EachSubtreeIsAResidue = (t u : NodeId) → IsSubtree kind nodes t u
      → (x : X) × (s : V) × MeansResidue t x s u

  -- each residue of the truth of an id is what a subtree means
  abbrev pub EachResidueIsASubtree : Type 0
  EachResidueIsASubtree = (t : NodeId) (x : X) (s : V)
      → (u : NodeId) × IsSubtree kind nodes t u × MeansResidue t x s u

  -- subtrees of an id that mean the same are the same
  abbrev pub SubtreesMeanOtherTruths : Type 0
  SubtreesMeanOtherTruths = (t u w : NodeId) → IsHeld nodes t
      → IsSubtree kind nodes t u → IsSubtree kind nodes t w
      → ((v : V) → truth kind nodes u v ≡ truth kind nodes w v) → u ≡ w

  -- the truth of an id depends on the variable of its node
  abbrev pub DependOnTheirVariables : Type 0
  DependOnTheirVariables = (t : NodeId) (n : N) → IsHeld nodes t → node_of nodes t ≡ Some n
      → DependsOn kind (truth kind nodes t) (kind.variable n)

  -- the truth of an id depends on no variable before that of its node
  abbrev pub DependOnNoneBefore : Type 0
  DependOnNoneBefore = (t : NodeId) (n : N) (x : X) → node_of nodes t ≡ Some n
      → DependsOn kind (truth kind nodes t) x → is_lt (kind.cmp x (kind.variable n)) ≡ false

  -- if the children of each node can be listed, so can the subtrees of each id, each once
  abbrev pub SubtreesCanBeListed : Type 0
  SubtreesCanBeListed = ((n : N) → (children : List NodeId) × AreChildrenOf kind n children)
      → (t : NodeId) → (ids : List NodeId) × AreExactly (IsSubtree kind nodes t) ids
