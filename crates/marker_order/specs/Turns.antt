-- The edges of two nodes side by side, as their order compares them.
use Rattle.std.specs.Prelude.{List, [], ◌∷◌}
use Rattle.std.specs.Ordering.{ordering_then}
use Rattle.std.specs.declared.cmp.Ordering.{Ordering}
use Rattle.std.specs.declared.cmp.Ordering.TheVariants.{Less, Equal, Greater}
use Rattle.std.specs.declared.ops.Bound.{Bound}
use Rattle.std.specs.declared.ops.Bound.TheVariants.{Included, Excluded, Unbounded}
use Rattle.std.specs.String.{string_cmp}
use Rattle.version_ranges.specs.Point.{above, at, begin_point, point_cmp}
use Rattle.version_ranges.specs.Parts.{Part, parts_left, parts_of}
use Rattle.pep440_version.specs.Order.{version_cmp}
use Rattle.marker_diagrams.specs.declared.node_id.NodeId.{NodeId}
use Rattle.marker_nodes.specs.Node.{Node}
use Rattle.marker_nodes.specs.declared.node.Branches.TheVariants as nodes
use Rattle.marker_order.specs.declared.turns.Edges.{Edges}
use Rattle.marker_order.specs.declared.turns.Turn.{Turn}
use Rattle.marker_order.specs.declared.turns.Turn.TheVariants.{Told, Below}
use Rattle.marker_order.specs.declared.turns.Turns.{Turns}
use Rattle.marker_order.specs.declared.turns.Turns.TheVariants.{Versions, Texts, Both, Last, Done}

-- what the order of the bounds of two edges leaves to their children
abbrev pub turn_by : Ordering → NodeId → NodeId → Turn
turn_by Less c d = Told Less
turn_by Equal c d = Below c d
turn_by Greater c d = Told Greater

module _ {T : Type 0} (cmp : T → T → Ordering) where
  -- lower bounds by the points at which ranges begin: no bound comes first, and `Included v` before
  -- `Excluded v`
  abbrev pub lower_cmp : Bound T → Bound T → Ordering
  lower_cmp l m = point_cmp cmp (begin_point l) (begin_point m)

  -- upper bounds by the points at which ranges end: `Excluded v` comes before `Included v`, and no
  -- bound last
  abbrev pub upper_cmp : Bound T → Bound T → Ordering
  upper_cmp Unbounded Unbounded = Equal
  upper_cmp Unbounded (Included w) = Greater
  upper_cmp Unbounded (Excluded w) = Greater
  upper_cmp (Included v) Unbounded = Less
  upper_cmp (Included v) (Included w) = point_cmp cmp (above v) (above w)
  upper_cmp (Included v) (Excluded w) = point_cmp cmp (above v) (at w)
  upper_cmp (Excluded v) Unbounded = Less
  upper_cmp (Excluded v) (Included w) = point_cmp cmp (at v) (above w)
  upper_cmp (Excluded v) (Excluded w) = point_cmp cmp (at v) (at w)

  abbrev pub turn_of : Part T NodeId → Part T NodeId → Turn
  turn_of p q = turn_by (ordering_then (lower_cmp p.lower q.lower) (upper_cmp p.upper q.upper))
      p.value q.value

  -- edge by edge; the node that has no more comes first
  abbrev pub edge_turns : List (Part T NodeId) → List (Part T NodeId) → List Turn
  edge_turns [] [] = []
  edge_turns [] (q ∷ qs) = Told Less ∷ edge_turns [] qs
  edge_turns (p ∷ ps) [] = Told Greater ∷ edge_turns ps []
  edge_turns (p ∷ ps) (q ∷ qs) = turn_of p q ∷ edge_turns ps qs

  -- what an iterator has left
  abbrev pub edges_left : Edges T → List Turn
  edges_left it = edge_turns (parts_left it.left) (parts_left it.right)

abbrev pub turns_left : Turns → List Turn
turns_left (Versions edges) = edges_left version_cmp edges
turns_left (Texts edges) = edges_left string_cmp edges
turns_left (Both high low) = Below high.0 high.1 ∷ Below low.0 low.1 ∷ []
turns_left (Last low) = Below low.0 low.1 ∷ []
turns_left Done = []

-- the turns of two nodes on one variable
abbrev pub turns_of : Node → Node → List Turn
turns_of (nodes.Version x es) (nodes.Version y fs) =
    edge_turns version_cmp (parts_of es) (parts_of fs)
turns_of (nodes.Text x es) (nodes.Text y fs) = edge_turns string_cmp (parts_of es) (parts_of fs)
turns_of (nodes.Truth x i j) (nodes.Truth y k l) = Below i k ∷ Below j l ∷ []
turns_of (nodes.Version x es) (nodes.Text y fs) = []
turns_of (nodes.Version x es) (nodes.Truth y k l) = []
turns_of (nodes.Text x es) (nodes.Version y fs) = []
turns_of (nodes.Text x es) (nodes.Truth y k l) = []
turns_of (nodes.Truth x i j) (nodes.Version y fs) = []
turns_of (nodes.Truth x i j) (nodes.Text y fs) = []

-- the order of turns, if `cmp` is that of children
abbrev pub turns_cmp : (NodeId → NodeId → Ordering) → List Turn → Ordering
turns_cmp cmp [] = Equal
turns_cmp cmp (Told order ∷ turns) = ordering_then order (turns_cmp cmp turns)
turns_cmp cmp (Below c d ∷ turns) = ordering_then (cmp c d) (turns_cmp cmp turns)
