-- Ids under a range of Python versions, and ids with extras set true.
use Rattle.std.specs.Prelude.{◌≡◌, ℕ, ◌<◌, Bool, false, List, Some, length, slice_get}
use Rattle.std.specs.Map.{lookup}
use Rattle.std.specs.Borrow.{Bor}
use Rattle.std.specs.declared.ops.Bound.{Bound}
use Rattle.version_ranges.specs.Clamp.{bound_of}
use Rattle.pep440_version.specs.Parts.{Parts}
use Rattle.marker_words.specs.declared.key.VersionVariable.TheVariants.{ImplementationVersion}
use Rattle.marker_environment.specs.Valuation.{Valuation}
use Rattle.marker_diagrams.specs.declared.node_id.NodeId.{NodeId}
use Rattle.marker_diagrams.specs.Id.{place_of, same_id}
use Rattle.marker_diagrams.specs.Diagram as diagram
use Rattle.marker_nodes.specs.declared.variable.TruthVariable.{TruthVariable}
use Rattle.marker_nodes.specs.declared.variable.TruthVariable.TheVariants.{In, Contains, Extra, Arbitrary}
use Rattle.marker_nodes.specs.Variable.{Variable, of_version}
use Rattle.marker_nodes.specs.Branches.{variable, value_at as pick}
use Rattle.marker_nodes.specs.Node.{Node, markers}
use Rattle.marker_nodes.specs.Side.{is_asked}
use Rattle.marker_simplifications.specs.Python.{Assumes}
use Rattle.marker_simplifications.specs.Extras.{AnswersBy, grant, with_extras}

-- the list of nodes has the id, which depends only on variables after x
abbrev pub IsLater : List Node → Variable → NodeId → Type 0
IsLater nodes x t = diagram.IsHeld nodes t × diagram.IsAfter markers nodes x t

-- so it is of each id
abbrev pub AreLater : List Node → Variable → List NodeId → Type 0
AreLater nodes x ids = (i : ℕ) (t : NodeId) → slice_get ids i ≡ Some t → IsLater nodes x t

-- the list of nodes has the id, which depends only on variables after the version of the
-- implementation
abbrev pub IsAfterImplementation : List Node → NodeId → Type 0
IsAfterImplementation nodes t = IsLater nodes (of_version ImplementationVersion) t

-- so it is of each id
abbrev pub AreAfterImplementation : List Node → List NodeId → Type 0
AreAfterImplementation nodes ids = AreLater nodes (of_version ImplementationVersion) ids

-- the node of the id, if it has one, branches on another variable
abbrev pub BranchesElsewhere : List Node → Variable → NodeId → Type 0
BranchesElsewhere nodes x t =
    (n : Node) → diagram.node_of nodes t ≡ Some n → is_asked x n ≡ false

-- the id t is the id a, given that the Python version is in a range, and depends only on a's
-- variables
pub record IsAssumed (nodes : List Node) (lower upper : Bound Parts) (a t : NodeId) : Type 0 where
  pub held : diagram.IsHeld nodes t
  pub means : Assumes lower upper (diagram.truth markers nodes a) (diagram.truth markers nodes t)
  pub after : (x : Variable) → diagram.IsAfter markers nodes x a → diagram.IsAfter markers nodes x t

-- the ids of one list are those of the other, one by one, given that the Python version is in a
-- range
abbrev pub AreAssumed : List Node → Bound Parts → Bound Parts → List NodeId → List NodeId → Type 0
AreAssumed nodes lower upper ids made = (i : ℕ) (a t : NodeId) → slice_get ids i ≡ Some a
    → slice_get made i ≡ Some t → IsAssumed nodes lower upper a t

-- the result for an id is that id, given that the Python version is in a range
abbrev pub AreFound : List Node → Bound Parts → Bound Parts → List (NodeId × NodeId) → Type 0
AreFound nodes lower upper found = (a t : NodeId) → lookup (same_id a) found ≡ Some t
    → diagram.IsHeld nodes a × IsAssumed nodes lower upper a t

-- the id t is the id a, given that the Python version is between two bounds
abbrev pub IsAssumedBetween : List Node → Bound (Bor Parts) → Bound (Bor Parts) → NodeId → NodeId
    → Type 0
IsAssumedBetween nodes lower upper a t = IsAssumed nodes (bound_of lower) (bound_of upper) a t

-- one list has as many ids as the other, which are the same, one by one, given that it is between
-- them
pub record AreAssumedBetween (nodes : List Node) (lower upper : Bound (Bor Parts))
    (ids made : List NodeId) : Type 0 where
  pub count : length made ≡ length ids
  pub assumed : AreAssumed nodes (bound_of lower) (bound_of upper) ids made

-- the nodes satisfy the rules of diagrams, and the result for an id is that id, given that it is
-- between them
pub record KnowsBetween (nodes : List Node) (lower upper : Bound (Bor Parts))
    (known : List (NodeId × NodeId)) : Type 0 where
  pub rules : diagram.IsStore markers nodes
  pub found : AreFound nodes (bound_of lower) (bound_of upper) known

-- whether a variable is set to true: for an extra the answer for its name, and otherwise never
abbrev pub Grants : (List ℕ → Bool → Type 0) → TruthVariable → Bool → Type 0
Grants Answers (Extra name) granted = Answers name granted
Grants Answers (In x text) granted = granted ≡ false
Grants Answers (Contains x text) granted = granted ≡ false
Grants Answers (Arbitrary text) granted = granted ≡ false

-- with the extras set to true, the node has the child that it had
abbrev pub IsUntouched : (List ℕ → Bool → Type 0) → Node → Type 0
IsUntouched Answers n = (granted : List ℕ → Bool) → AnswersBy Answers granted → (v : Valuation)
    → pick n (with_extras granted v) ≡ pick n v

-- with the extras set to true, the node has this child
pub record IsTouched (Answers : List ℕ → Bool → Type 0) (n : Node) (child : NodeId) : Type 0 where
  pub picks : (granted : List ℕ → Bool) → AnswersBy Answers granted → (v : Valuation)
      → pick n (with_extras granted v) ≡ child
  pub some : (v : Valuation) × (pick n v ≡ child)

-- The id t is the id a with extras set to true, if the answers are those of a fixed set, and
-- depends only on a's variables.
pub record IsGranted (nodes : List Node) (Answers : List ℕ → Bool → Type 0)
    (a t : NodeId) : Type 0 where
  pub held : diagram.IsHeld nodes t
  pub means : (granted : List ℕ → Bool) → AnswersBy Answers granted → (v : Valuation)
      → diagram.truth markers nodes t v ≡ grant granted (diagram.truth markers nodes a) v
  pub after : (x : Variable) → diagram.IsAfter markers nodes x a → diagram.IsAfter markers nodes x t

-- the ids of one list are those of the other, one by one, with extras set true
abbrev pub AreGranted : List Node → (List ℕ → Bool → Type 0) → List NodeId → List NodeId → Type 0
AreGranted nodes Answers ids made = (i : ℕ) (a t : NodeId) → slice_get ids i ≡ Some a
    → slice_get made i ≡ Some t → IsGranted nodes Answers a t

-- the known results are true
abbrev pub AreKnown : List Node → (List ℕ → Bool → Type 0) → List (NodeId × NodeId) → Type 0
AreKnown nodes Answers known = (a t : NodeId) → lookup (same_id a) known ≡ Some t
    → diagram.IsHeld nodes a × IsGranted nodes Answers a t

-- so they are, and the nodes satisfy the rules of diagrams
pub record KnowsGranted (nodes : List Node) (Answers : List ℕ → Bool → Type 0)
    (results : List (NodeId × NodeId)) : Type 0 where
  pub rules : diagram.IsStore markers nodes
  pub known : AreKnown nodes Answers results

-- the node of the id branches on x, and these are its children
abbrev pub HasChildren : List Node → NodeId → Variable → (Valuation → NodeId) → Type 0
HasChildren nodes id x child = (n : Node) × (diagram.node_of nodes id ≡ Some n) × (variable n ≡ x)
    × ((v : Valuation) → pick n v ≡ child v)

-- the list of nodes has each id, below another one
abbrev pub AreUnder : List Node → NodeId → List NodeId → Type 0
AreUnder nodes parent ids = (i : ℕ) (t : NodeId) → slice_get ids i ≡ Some t → diagram.IsHeld nodes t
    × (place_of t < place_of parent)
