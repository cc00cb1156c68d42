use Rattle.marker_diagrams.specs.Diagram.{IsStore}
use Rattle.marker_diagrams.specs.Id.{place_of}
use Rattle.marker_diagrams.proofs.ResidueLaws.{depends}
use Rattle.marker_nodes.specs.Node.{markers}
use Rattle.marker_nodes.proofs.BranchLaws.{children_differ}
use Rattle.marker_nodes.proofs.NodeLaws.{lawful}
use Rattle.marker_graph.specs.Contents.{Contents, IsHeld, truth}
use Rattle.marker_graph.specs.declared.tree.MarkerTree.{MarkerTree}
use Rattle.marker_graph.specs.Tree.{IsSubtree}
use Rattle.marker_graph.proofs.SubtreeLaws.{subtree_held, subtree_means}
use Rattle.marker_view.specs.Readable.{HasReleases, IsReadable, IsReadableTruth}
use Rattle.marker_view.proofs.ReleaseLaws.{plain_node, release_node}

module _ (c : Contents) (store : IsStore markers c.nodes) (t : MarkerTree) (held : IsHeld c t) (readable : IsReadableTruth (truth c t)) where
  pub readable_bounds : HasReleases c t
  readable_bounds s n sub node =
      let kept = λ (u : MarkerTree) (below : IsSubtree c t u). subtree_held c store t u held below in
      let r = subtree_means c store t s held sub in
      release_node c store t s kept sub n node readable.0 readable.1 readable.2 r.0 r.1 r.2
      (λ v w h. children_differ n ((store.node (place_of s.id) n node).reduced) v w h)

  pub readable_marker : IsReadable c t
  readable_marker s n sub node =
      let kept = λ (u : MarkerTree) (below : IsSubtree c t u). subtree_held c store t u held below in
      let r = subtree_means c store t s held sub in
      plain_node c store t s kept sub n node readable.0 readable.1 readable.2 r.0 r.1 r.2
      (λ v w h. children_differ n ((store.node (place_of s.id) n node).reduced) v w h)
      (depends markers lawful c.nodes store s.id n (kept s sub) node)
