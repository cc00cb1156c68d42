-- Decision diagrams over any kind of nodes. Nodes are in a list, the newest first.
use Rattle.std.proofs.Common.{suc}
use Rattle.std.specs.Prelude.{◌≡◌, ◌≢◌, ◌⊎◌, ℕ, ◌≤◌, ◌<◌, ◌==◌, Bool, true, false, List, [], ◌∷◌, Option, Some, None, length, if◌then◌else◌}
use Rattle.std.specs.Ordering.{is_eq}
use Rattle.std.specs.Cmp.{IsTotalOrder}
use Rattle.std.specs.declared.cmp.Ordering.{Ordering}
use Rattle.std.specs.declared.cmp.Ordering.TheVariants.{Less, Equal}
use Rattle.marker_diagrams.specs.declared.node_id.NodeId.{NodeId}
use Rattle.marker_diagrams.specs.Id.{signed, place_of, is_negated}

-- A kind of nodes: N are the nodes, X the variables that they branch on, V the valuations of all
-- variables.
pub record NodeKind (N X V : Type 0) : Type 0 where
  -- the variable on which a node branches
  pub variable : N → X
  -- the order of variables
  pub cmp : X → X → Ordering
  -- the child of a node that a valuation selects
  pub pick : N → V → NodeId
  -- the valuation that selects the first child
  pub lowest : V
  -- the first valuation at the variables that a test selects, and the second one at all others
  pub mix : (X → Bool) → V → V → V
  -- whether not all children are the same, and the node is written in the one way for its children
  pub is_reduced : N → Bool

module _ {N : Type 0} where
  -- the node at a place, counted from the oldest at 1
  abbrev pub node_at : List N → ℕ → Option N
  node_at [] i = None
  node_at (n ∷ older) i = if i == suc (length older) then Some n else node_at older i

  -- the node of an id; the truth and its negation have none
  abbrev pub node_of : List N → NodeId → Option N
  node_of nodes t = node_at nodes (place_of t)

  -- the id is `TRUE`, `FALSE`, or of a node in the list
  abbrev pub IsHeld : List N → NodeId → Type 0
  IsHeld nodes t = place_of t ≤ length nodes

module _ {N X V : Type 0} (kind : NodeKind N X V) where
  -- the node at a place means what the child means that it picks; place 0 is true
  abbrev pub truth_at : List N → ℕ → V → Bool
  truth_at [] i v = true
  truth_at (n ∷ older) i v =
      if i == suc (length older) then signed (is_negated (kind.pick n v))
      (truth_at older (place_of (kind.pick n v)) v) else truth_at older i v

  -- what an id means: a truth for each valuation
  abbrev pub truth : List N → NodeId → V → Bool
  truth nodes t v = signed (is_negated t) (truth_at nodes (place_of t) v)

  -- two ids differ at some valuation
  abbrev pub Separated : List N → NodeId → NodeId → Type 0
  Separated nodes a b = (v : V) × (truth nodes a v ≢ truth nodes b v)

  -- the id depends only on variables after x
  abbrev pub IsAfter : List N → X → NodeId → Type 0
  IsAfter nodes x t = (n : N) → node_of nodes t ≡ Some n → kind.cmp x (kind.variable n) ≡ Less

  -- the valuation w, with v's value of the variable x
  abbrev pub with_variable : X → V → V → V
  with_variable x v w = kind.mix (λ y. is_eq (kind.cmp x y)) v w

  -- two nodes branch on one variable and have the same children
  pub record AreSame (n m : N) : Type 0 where
    pub variable : kind.cmp (kind.variable n) (kind.variable m) ≡ Equal
    pub pick : (v : V) → kind.pick n v ≡ kind.pick m v

  -- The rules for a kind of nodes.
  pub record IsLawful : Type 0 where
    -- the order of variables is a total order
    pub total : IsTotalOrder kind.cmp
    -- there is a variable, and one after each
    pub some : X
    pub later : (x : X) → (y : X) × (kind.cmp x y ≡ Less)
    -- a node depends only on its own variable
    pub own : (n : N) (t : X → Bool) (v w : V)
        → kind.pick n (kind.mix t v w) ≡ (if t
        (kind.variable n) then kind.pick n v else kind.pick n w)
    -- a reduced node has two children
    pub proper : (n : N) → kind.is_reduced n ≡ true → (v : V) × (w : V)
        × (kind.pick n v ≢ kind.pick n w)
    -- reduced nodes on one variable are the same, or have different children somewhere
    pub told : (n m : N) → kind.is_reduced n ≡ true → kind.is_reduced m ≡ true
        → kind.cmp (kind.variable n) (kind.variable m) ≡ Equal →
        AreSame n m ⊎ ((v : V) × (kind.pick n v ≢ kind.pick m v))

  -- Children, one for each valuation, that the list has and that depend only on variables after x.
  pub record AreChildren (nodes : List N) (x : X) (child : V → NodeId) : Type 0 where
    pub held : (v : V) → IsHeld nodes (child v)
    pub after : (v : V) → IsAfter nodes x (child v)

  -- A node that may be added to a list: the list has its children, which depend on later variables,
  -- and the first one is not a negation.
  pub record IsReady (nodes : List N) (n : N) : Type 0 where
    pub children : AreChildren nodes (kind.variable n) (kind.pick n)
    pub plain : is_negated (kind.pick n kind.lowest) ≡ false
    pub reduced : kind.is_reduced n ≡ true

  -- The invariant of a node at a place: its children are at lower places and depend on later
  -- variables, and the first one is not a negation.
  pub record IsNode (nodes : List N) (i : ℕ) (n : N) : Type 0 where
    pub below : (v : V) → place_of (kind.pick n v) < i
    pub after : (v : V) → IsAfter nodes (kind.variable n) (kind.pick n v)
    pub plain : is_negated (kind.pick n kind.lowest) ≡ false
    pub reduced : kind.is_reduced n ≡ true

  -- A list of nodes that satisfy this invariant, no two of which are the same.
  pub record IsStore (nodes : List N) : Type 0 where
    pub node : (i : ℕ) (n : N) → node_at nodes i ≡ Some n → IsNode nodes i n
    pub unique : (i j : ℕ) (n m : N) → node_at nodes i ≡ Some n → node_at nodes j ≡ Some m
        → AreSame n m → i ≡ j

  -- The new list has the nodes of the old one, with their meanings.
  pub record Keeps (old new : List N) : Type 0 where
    pub longer : length old ≤ length new
    pub node : (i : ℕ) → i ≤ length old → node_at new i ≡ node_at old i
    pub truth : (i : ℕ) (v : V) → i ≤ length old → truth_at new i v ≡ truth_at old i v

  -- The id means at each valuation what the child for it means, and depends on no variable before
  -- x.
  pub record IsChoice (nodes : List N) (x : X) (child : V → NodeId) (t : NodeId) : Type 0 where
    pub held : IsHeld nodes t
    pub means : (v : V) → truth nodes t v ≡ truth nodes (child v) v
    pub after : (y : X) → kind.cmp y x ≡ Less → IsAfter nodes y t
