-- A search for a valuation with exactly some extras, at one of some versions, that satisfies an id.
use Rattle.std.specs.Prelude.{◌≡◌, ◌<◌, ◌≤◌, ℕ, length, All, Bool, true, false, List, Option, Some}
use Rattle.std.specs.Borrow.{Bor}
use Rattle.pep440_version.specs.Parts.{Parts}
use Rattle.marker_environment.specs.Valuation.{Valuation}
use Rattle.marker_diagrams.specs.declared.node_id.NodeId.{NodeId}
use Rattle.marker_diagrams.specs.Diagram.{IsHeld, IsStore, node_of, truth}
use Rattle.marker_diagrams.specs.Id.{place_of}
use Rattle.marker_nodes.specs.Node.{Node, markers}
use Rattle.marker_walks.specs.declared.possible.Rest.{Rest}
use Rattle.marker_walks.specs.declared.possible.Rest.TheVariants.{Satisfied, Child}
use Rattle.marker_walks.specs.declared.looks.Looks.{Looks}
use Rattle.marker_walks.specs.Looks.{AreUnbounded}
use Rattle.marker_walks.specs.Possible.{AnswersPossible, HasExtras, HasSome, IsAmong, listed_versions}

-- the nodes satisfy the rules of diagrams and have the id, and if versions are listed, there is one
pub record IsSearch (nodes : List Node) (versions : Option (Bor (List Parts))) (t : NodeId)
    : Type 0 where
  pub rules : IsStore markers nodes
  pub some : HasSome versions
  pub held : IsHeld nodes t

module _ (extras : List (List ℕ)) (versions : Option (Bor (List Parts))) (nodes : List Node) where
  -- the answer is whether a valuation of the search satisfies the id
  abbrev pub Answers : NodeId → Bool → Type 0
  Answers t answer = AnswersPossible extras (listed_versions versions)
      (truth markers nodes t) answer

  -- no valuation of the search satisfies the id
  abbrev pub IsOut : NodeId → Type 0
  IsOut t = (v : Valuation) → HasExtras extras v → IsAmong (listed_versions versions) v
      → truth markers nodes t v ≡ false

  -- none satisfies one of the ids
  abbrev pub AreOut : List NodeId → Type 0
  AreOut ids = All IsOut ids

  -- each remembered id is out, and there is room for two
  pub record IsMemory (ids : List NodeId) : Type 0 where
    pub places : 2 ≤ length ids
    pub out : AreOut ids

  -- after visits as many ids are remembered, each is out, and looks without a limit stay so
  pub record IsKept (looks : Looks) (ids : List NodeId) (looks' : Looks) (ids' : List NodeId)
      : Type 0 where
    pub unbounded : AreUnbounded looks → AreUnbounded looks'
    pub places : length ids' ≡ length ids
    pub out : AreOut ids'

  -- what remains of an id: nothing if it is satisfied, otherwise an older id with the same answer
  abbrev pub Leaves : NodeId → Rest → Type 0
  Leaves t Satisfied = Answers t true
  Leaves t (Child u) = (place_of u < place_of t)
      × ((answer : Bool) → Answers u answer → Answers t answer)

-- the id is out in each search in which these are
abbrev pub IsOutWith : List NodeId → NodeId → Type 0
IsOutWith ids t = (extras : List (List ℕ)) (versions : Option (Bor (List Parts)))
    (nodes : List Node) → AreOut extras versions nodes ids → IsOut extras versions nodes t

-- the new ids are out in each search in which the old ones and this one are
abbrev pub RemainOutWith : NodeId → List NodeId → List NodeId → Type 0
RemainOutWith t old new = (extras : List (List ℕ)) (versions : Option (Bor (List Parts)))
    (nodes : List Node) → IsOut extras versions nodes t → AreOut extras versions nodes old
    → AreOut extras versions nodes new

-- the node of the id is one of these
abbrev pub IsOneOf : {A : Type 0} → List Node → NodeId → (A → Node) → Type 0
IsOneOf nodes t node = (x : _) × (node_of nodes t ≡ Some (node x))
