-- Ids that choose among children.
use Rattle.std.proofs.Common.{◌≡◌, Bool, List, sym, ap, ◌∙◌, subst, arith}
use Rattle.marker_diagrams.specs.declared.node_id.NodeId.{NodeId}
use Rattle.marker_diagrams.specs.Diagram.{NodeKind, node_of, IsHeld, truth, IsLawful, AreChildren, IsChoice}

module _ {N X V : Type 0} (kind : NodeKind N X V) (nodes : List N) (x : X) where
  -- children that are the same for each valuation
  pub children_same : (child other : V → NodeId) → ((v : V) → child v ≡ other v) → AreChildren kind nodes x child → AreChildren kind nodes x other
  children_same child other h1 h2 = grind arith

  pub choice_same : (child other : V → NodeId) (t : NodeId) → ((v : V) → child v ≡ other v) → IsChoice kind nodes x child t → IsChoice kind nodes x other t
  choice_same child other t h1 h2 = grind arith

  -- if all children are the same, that child is the choice
  pub choice_constant : IsLawful kind → (child : V → NodeId) (t : NodeId) → ((v : V) → child v ≡ t) → AreChildren kind nodes x child → IsChoice kind nodes x child t
  choice_constant laws child t e c = record {
    held = subst (IsHeld nodes) (e kind.lowest) (c.held kind.lowest);
    means = λ v. ap (λ u. truth kind nodes u v) (sym (e v));
    after = λ y l n f. laws.total.trans y x (kind.variable n) l (c.after kind.lowest n (ap (node_of nodes) (e kind.lowest) ∙ f));
  }
