-- Marks of interners, and an interner after its release to one.
use Rattle.std.specs.Prelude.{◌≡◌, ◌≤◌, ◌↔◌, length}
use Rattle.marker_diagrams.specs.Id.{place_of}
use Rattle.marker_conjunctions.specs.Contents as conjunctions
use Rattle.marker_conjunctions.specs.Reach.{reach}
use Rattle.marker_graph.specs.declared.mark.Mark.{Mark}
use Rattle.marker_graph.specs.declared.tree.MarkerTree.{MarkerTree}
use Rattle.marker_graph.specs.Contents.{Contents, HoldsTheSame, IsHeld, IsKept}

-- the mark says how many nodes and known conjunctions there are, which are conjunctions of those
-- nodes
pub record IsMarkOf (c : Contents) (mark : Mark) : Type 0 where
  pub nodes : mark.nodes ≡ length c.nodes
  pub known : mark.known ≡ length c.memo
  pub within : reach c.memo ≤ length c.nodes

-- what an interner holds without the nodes and the known conjunctions that came after the mark
abbrev pub released : Mark → Contents → Contents
released mark c = conjunctions.released mark.nodes mark.known c

-- of the markers that were held, those whose nodes the mark counts are held, and no others
abbrev pub HoldsUpTo : Mark → Contents → Contents → Type 0
HoldsUpTo mark old new =
    (t : MarkerTree) → IsHeld new t ↔ (IsHeld old t × (place_of t.id ≤ mark.nodes))

-- what was held when the mark was made is held again, if only more was added since
abbrev pub Restores : Mark → Contents → Contents → Type 0
Restores mark old new =
    (c : Contents) → IsMarkOf c mark → IsKept c old → HoldsTheSame c new
