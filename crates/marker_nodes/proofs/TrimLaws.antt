-- The versions at which the children of nodes change, as they are written.
use Rattle.std.proofs.Common.{◌≡◌, ℕ, suc, Bool, true, cond, ◌==◌, List, [], ◌∷◌, ◌++◌, reverse, length, Option, Some, ◌∙◌, arith}
use Rattle.std.specs.Prelude.{IfSome}
use Rattle.std.specs.Borrow.{Bor}
use Rattle.std.specs.Option.{option_copied}
use Rattle.marker_diagrams.specs.declared.node_id.NodeId.{NodeId}
use Rattle.marker_diagrams.specs.Diagram.{node_at, node_of}
use Rattle.marker_diagrams.proofs.NodeLaws.{node_bounds, node_kept}
use Rattle.marker_diagrams.proofs.KeyLaws.{newest}
use Rattle.marker_nodes.specs.Branches.{has_trimmed_cuts}
use Rattle.marker_nodes.specs.Node.{Node}
use Rattle.marker_nodes.specs.Table.{AreTrimmed}

-- one node more, or less
module _ (n : Node) (older : List Node) where
  trimmed_by : has_trimmed_cuts n ≡ true → AreTrimmed older → (i : ℕ) (m : Node) (b : Bool) → cond b (Some n) (node_at older i) ≡ Some m → has_trimmed_cuts m ≡ true
  trimmed_by h1 h2 i m b h3 = grind arith

  pub trimmed_more : has_trimmed_cuts n ≡ true → AreTrimmed older → AreTrimmed (n ∷ older)
  trimmed_more h k i m e = trimmed_by h k i m (i == suc (length older)) e

  pub trimmed_older : AreTrimmed (n ∷ older) → AreTrimmed older
  trimmed_older k i m e = k i m (node_kept n older i ((node_bounds older i m e).1) ∙ e)

pub trimmed_new : (keys : List Node) (n : Node) (b : Bool) → has_trimmed_cuts n ≡ true → AreTrimmed (reverse keys) → AreTrimmed (reverse (cond b keys (keys ++ n ∷ [])))
trimmed_new keys n b h1 h2 = grind (arith, newest, trimmed_more, reverse)

-- a node that is found
pub found_trimmed : (nodes : List Node) (t : NodeId) (r : Option (Bor Node)) → AreTrimmed nodes → option_copied r ≡ node_of nodes t → IfSome r (λ n. has_trimmed_cuts n.now ≡ true)
found_trimmed nodes t r h1 h2 = grind arith
