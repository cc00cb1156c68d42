-- The children of two diagrams side by side, under the first of their variables.
use Rattle.std.specs.Prelude.{◌≡◌, ℕ, Bool, List, Some, String, true, ◌&&◌, string_bytes, if◌then◌else◌}
use Rattle.std.specs.Global.{Global}
use Rattle.std.specs.Borrow.{Bor}
use Rattle.std.specs.String.{string_cmp}
use Rattle.version_ranges.specs.declared.lent.CutsRef.{CutsRef}
use Rattle.version_ranges.specs.Lent.{all_lent_cuts, value_by, value_of}
use Rattle.version_ranges.specs.Pairs.{count_of_both, piece_of_both, piece_of_both_by}
use Rattle.pep440_version.specs.Parts.{Parts}
use Rattle.pep440_version.specs.Order.{version_cmp}
use Rattle.pep440_rs.specs.Intervals.{is_trimmed}
use Rattle.marker_words.specs.declared.key.TextVariable.{TextVariable}
use Rattle.marker_words.specs.declared.key.VersionVariable.{VersionVariable}
use Rattle.marker_words.specs.Compare.{text_cmp}
use Rattle.marker_environment.specs.Valuation.{Valuation}
use Rattle.marker_diagrams.specs.declared.node_id.NodeId.{NodeId}
use Rattle.marker_nodes.specs.declared.side.First.{First}
use Rattle.marker_nodes.specs.declared.side.Sides.{Sides}
use Rattle.marker_nodes.specs.declared.side.Sides.TheVariants.{Version, Text, Truth}
use Rattle.marker_nodes.specs.declared.variable.TruthVariable.{TruthVariable}
use Rattle.marker_nodes.specs.Variable.{Variable, of_version, of_text, truth_variable, answer}
use Rattle.marker_nodes.specs.Branches as branches
use Rattle.marker_nodes.specs.Node.{Node}
use Rattle.marker_nodes.specs.Side.{AreChildrenAt, child_by}

-- the variable
abbrev pub variable : Sides → Variable
variable (Version x left right) = of_version x
variable (Text x left right) = of_text x
variable (Truth x high low) = truth_variable x.now

-- the pair of children that a valuation selects
abbrev pub pair_at : Sides → Valuation → NodeId × NodeId
pair_at (Version x left right) v = (
  value_of version_cmp left (v.version x),
  value_of version_cmp right (v.version x),
)
pair_at (Text x left right) v = (
  value_by string_bytes text_cmp left (v.text x),
  value_by string_bytes text_cmp right (v.text x),
)
pair_at (Truth x high low) v = if answer x.now v then (high.0.now, high.1.now)
    else (low.0.now, low.1.now)

-- which pair that is, counted from the first
abbrev pub piece : Sides → Valuation → ℕ
piece (Version x left right) v = piece_of_both version_cmp left right (v.version x)
piece (Text x left right) v =
    piece_of_both_by string_cmp string_bytes text_cmp left right (v.text x)
piece (Truth x high low) v = if answer x.now v then 0 else 1

-- how many pairs there are
abbrev pub count : Sides → ℕ
count (Version x left right) = count_of_both version_cmp left right
count (Text x left right) = count_of_both string_cmp left right
count (Truth x high low) = 2

-- whether each version at which a child changes is written without zeros at the end of its release
abbrev pub has_trimmed_cuts : Sides → Bool
has_trimmed_cuts (Version x left right) =
    all_lent_cuts is_trimmed left && all_lent_cuts is_trimmed right
has_trimmed_cuts (Text x left right) = true
has_trimmed_cuts (Truth x high low) = true

-- the pairs are the children of the nodes of two ids at the variable
abbrev pub ArePairsOf : List Node → NodeId → NodeId → Sides → Type 0
ArePairsOf nodes a b sides =
    (v : Valuation) → AreChildrenAt nodes (variable sides) a b v (pair_at sides v)

-- the variable of the node that comes first
abbrev pub first_variable : First → Variable
first_variable first = branches.variable first.node.now

-- the value at each version is the child there of the id t, which has the node n
abbrev pub AreVersionChildren : {a : _} {b : _} {c : _} → VersionVariable → NodeId → Node
    → CutsRef Parts NodeId a b c → Type 0
AreVersionChildren x t n edges = (v : Valuation)
    → value_of version_cmp edges (v.version x) ≡ child_by (Some n) (of_version x) t v

-- the same of texts
abbrev pub AreTextChildren : {a : _} {b : _} {c : _} → TextVariable → NodeId → Node
    → CutsRef (String Global) NodeId a b c → Type 0
AreTextChildren x t n edges = (v : Valuation)
    → value_by string_bytes text_cmp edges (v.text x) ≡ child_by (Some n) (of_text x) t v

-- the first id of the pair is the child for true of the id t, which has the node n, and the second
-- one that for false
abbrev pub AreTruthChildren : TruthVariable → NodeId → Node → Bor NodeId × Bor NodeId → Type 0
AreTruthChildren x t n pair = (v : Valuation)
    → (if answer x v then pair.0.now else pair.1.now) ≡ child_by (Some n) (truth_variable x) t v
