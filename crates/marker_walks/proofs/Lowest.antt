-- Ids at the lowest valuation: they are true there, unless they are negations.
use Rattle.std.proofs.Common.{◌≡◌, ℕ, zero, suc, ◌<◌, true, false, List, Option, Some, None, refl, ap, ◌∙◌, arith}
use Rattle.marker_diagrams.specs.declared.node_id.NodeId.{NodeId}
use Rattle.marker_diagrams.specs.Id.{place_of, is_negated, signed}
use Rattle.marker_diagrams.specs.Diagram.{node_at, IsStore, truth, truth_at}
use Rattle.marker_diagrams.proofs.Canonicity.{descends}
use Rattle.marker_diagrams.proofs.NodeLaws.{truth_free, truth_node}
use Rattle.marker_nodes.specs.Node.{Node, lowest, markers}
use Rattle.marker_nodes.proofs.NodeLaws.{lawful}
use Rattle.marker_walks.specs.Disjoint.{TellsDisjoint}
use Rattle.marker_walks.proofs.Disjoints.{tells_no}

module _ (nodes : List Node) (store : IsStore markers nodes) where
  -- at a place, if all places below are
  true_at : (i : ℕ) → ((j : ℕ) → j < i → truth_at markers nodes j lowest ≡ true) → (m : Option Node) → node_at nodes i ≡ m → truth_at markers nodes i lowest ≡ true
  true_at i below None e = truth_free markers nodes i lowest e
  true_at i below (Some m) e =
      let is = store.node i m e in
      let child = markers.pick m lowest in
      truth_node markers nodes i m lowest (descends markers lawful nodes store) e
      ∙ ap (λ s. signed s (truth_at markers nodes (place_of child) lowest)) is.plain
      ∙ below (place_of child) (is.below lowest)

  true_below : (n i : ℕ) → i < n → truth_at markers nodes i lowest ≡ true
  true_below zero i below = absurd (omega (arith, below))
  true_below (suc n) i below = true_at i (λ j less. true_below n j (omega (arith, less, below))) (node_at nodes i) refl

  -- an id that is no negation
  plain_is_true : (t : NodeId) → is_negated t ≡ false → truth markers nodes t lowest ≡ true
  plain_is_true t plain = ap (λ s. signed s (truth_at markers nodes (place_of t) lowest)) plain ∙ true_below (suc (place_of t)) (place_of t) (omega (arith))

  -- so two of them meet there
  pub plain_meet : (a b : NodeId) → is_negated a ≡ false → is_negated b ≡ false → TellsDisjoint nodes a b false
  plain_meet a b p q = tells_no nodes a b (lowest, plain_is_true a p, plain_is_true b q)
