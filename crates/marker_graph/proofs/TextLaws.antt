-- The markers of texts stay what they are.
use Rattle.std.proofs.Common.{◌≡◌, ◌≤◌, ℕ, List, [], ◌⊎◌, inl, inr, refl, sym, ap, ◌∙◌, subst, arith}
use Rattle.marker_diagrams.specs.declared.node_id.NodeId.{NodeId}
use Rattle.marker_diagrams.specs.Diagram as diagram
use Rattle.marker_diagrams.specs.Id.{place_of}
use Rattle.marker_nodes.specs.Node.{Node, markers}
use Rattle.marker_conjunctions.specs.declared.conjunctions.Conjunctions.{Conjunctions}
use Rattle.marker_conjunctions.specs.Contents.{contents, nothing, IsWellKept}
use Rattle.marker_conjunctions.proofs.AndLaws.{well_kept_longer}
use Rattle.marker_conjunctions.proofs.ReleaseLaws.{kept_nodes, released_held, released_kept, released_well}
use Rattle.marker_texts.specs.declared.known_texts.KnownTexts.{KnownTexts}
use Rattle.marker_texts.specs.Known.{IsKnown}
use Rattle.marker_graph.specs.declared.tree.MarkerTree.{MarkerTree}
use Rattle.marker_graph.specs.declared.mark.Mark.{Mark}
use Rattle.marker_graph.specs.Contents.{Contents, IsHeld, IsKept}
use Rattle.marker_graph.specs.Mark.{released}
use Rattle.marker_graph.specs.Texts.{IsInOrder, IsMarkerOfText}

-- a marker of a text is one in what an interner holds with more, and with less that has the marker
pub still_marker : (c d : Contents) (text : List ℕ) (t : MarkerTree) → IsKept c d → IsMarkerOfText c text t → IsMarkerOfText d text t
still_marker c d text t h1 h2 = grind arith

was_marker : (c d : Contents) (text : List ℕ) (t : MarkerTree) → IsKept c d → IsHeld c t → IsMarkerOfText d text t → IsMarkerOfText c text t
was_marker c d text t h1 h2 h3 = grind arith

-- nothing was made yet
pub empty_in_order : (nodes : List Node) (conjunctions : Conjunctions) (texts : KnownTexts) → nodes ≡ [] → diagram.IsStore markers nodes → contents [] conjunctions ≡ nothing →
    ((text : List ℕ) (id : NodeId) → IsKnown texts text id → ⊥) → IsInOrder (contents nodes conjunctions) texts
empty_in_order nodes conjunctions texts no_nodes store empty unknown = record {
  kept = subst IsWellKept (sym (ap (λ n. contents n conjunctions) no_nodes ∙ empty)) (record { nodes = subst (diagram.IsStore markers) no_nodes store; known = λ a b t e. absurd cc; within = omega arith });
  texts = λ text id known. absurd (unknown text id known);
}

-- what an interner holds grew
pub still_in_order : (c d : Contents) (texts : KnownTexts) → IsInOrder c texts → IsWellKept d → IsKept c d → IsInOrder d texts
still_in_order c d texts order well kept = record { kept = well; texts = λ text id known. still_marker c d text (record { id = id }) kept (order.texts text id known) }

-- nodes came
pub more_nodes : (c : Contents) (new : List Node) (texts : KnownTexts) → IsInOrder c texts → diagram.IsStore markers new → diagram.Keeps markers c.nodes new →
    IsInOrder record { nodes = new; memo = c.memo; expansions = c.expansions } texts
more_nodes c new texts order store kept =
    still_in_order c record { nodes = new; memo = c.memo; expansions = c.expansions } texts order (well_kept_longer c new order.kept store kept) (kept_nodes c record { nodes = new; memo = c.memo; expansions = c.expansions } kept refl)

-- a text was remembered
pub one_text_more : (c : Contents) (old new : KnownTexts) (added : List ℕ) (t : MarkerTree) → IsInOrder c old → IsMarkerOfText c added t →
    ((text : List ℕ) (id : NodeId) → IsKnown new text id → IsKnown old text id ⊎ ((text ≡ added) × (id ≡ t.id))) → IsInOrder c new
one_text_more c old new added t order marker learned = record { kept = order.kept; texts = λ text id known. by_case text id (learned text id known) }
  where
    by_case : (text : List ℕ) (id : NodeId) → IsKnown old text id ⊎ ((text ≡ added) × (id ≡ t.id)) → IsMarkerOfText c text (record { id = id })
    by_case text id (inl known) = order.texts text id known
    by_case text id (inr h) = subst (λ (x : List ℕ). IsMarkerOfText c x (record { id = id })) (sym h.0) (subst (λ (y : NodeId). IsMarkerOfText c added (record { id = y })) (sym h.1) marker)

-- what came since a mark was given up
pub released_in_order : (mark : Mark) (c : Contents) (old new : KnownTexts) → IsInOrder c old →
    ((text : List ℕ) (id : NodeId) → IsKnown new text id → IsKnown old text id × (place_of id ≤ mark.nodes)) → IsInOrder (released mark c) new
released_in_order mark c old new order left = record {
  kept = released_well mark.nodes mark.known c order.kept;
  texts = λ text id known.
      let h = left text id known in
      let marker = order.texts text id h.0 in
      was_marker (released mark c) c text (record { id = id }) (released_kept mark.nodes mark.known c) ((released_held mark.nodes mark.known c id).1 (marker.0, h.1)) marker;
}
