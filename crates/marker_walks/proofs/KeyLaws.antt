-- Keys that the nodes of subtrees ask about, and keys that a truth depends on.
use Rattle.std.proofs.Common.{◌≡◌, ℕ, ◌+◌, ◌<◌, List, Some, ◌⊎◌, get_or, sym, ap, ◌∙◌, arith}
use Rattle.std.specs.Prelude.{slice_get}
use Rattle.std.proofs.lemmas.Option.{get_or_from_slice_get}
use Rattle.marker_diagrams.specs.declared.node_id.NodeId.{NodeId}
use Rattle.marker_diagrams.specs.Diagram.{IsHeld, IsStore, truth}
use Rattle.marker_diagrams.specs.Residue.{AreExactly, IsSubtree}
use Rattle.marker_nodes.specs.Branches.{variable}
use Rattle.marker_nodes.specs.Node.{Node, markers}
use Rattle.marker_nodes.proofs.NodeLaws.{lawful}
use Rattle.marker_nodes.proofs.VariableLaws.{one_variable}
use Rattle.marker_walks.specs.declared.keys.EnvironmentKey.{EnvironmentKey}
use Rattle.marker_walks.specs.Keys.{is_about, AsksAbout, DependsOnKey}
use Rattle.marker_walks.proofs.DependLaws.{asked_depends, depends_asked}

-- a subtree's node that asks about the key shows that the truth depends on it
pub found_key : (nodes : List Node) (id : NodeId) (ids : List NodeId) (key : EnvironmentKey) (i : ℕ) (u : NodeId) → IsStore markers nodes → IsHeld nodes id →
    AreExactly (IsSubtree markers nodes id) ids → slice_get ids i ≡ Some u → AsksAbout nodes u key → DependsOnKey (truth markers nodes id) key
found_key nodes id ids key i u store held exact e asks =
    (variable asks.0, asks.2, asked_depends markers lawful nodes store id u asks.0 held (exact.each i u e) asks.1)

-- where no subtree's node asks about the key, the truth does not depend on it
pub missing_key : (nodes : List Node) (id : NodeId) (ids : List NodeId) (key : EnvironmentKey) → IsStore markers nodes → IsHeld nodes id →
    AreExactly (IsSubtree markers nodes id) ids → ((i : ℕ) (u : NodeId) → slice_get ids i ≡ Some u → AsksAbout nodes u key → ⊥) → DependsOnKey (truth markers nodes id) key → ⊥
missing_key nodes id ids key store held exact none d =
    let a = depends_asked markers lawful nodes store id d.0 held d.2 in
    let p = exact.all a.subtree a.under in
    none p.0 a.subtree p.1 (a.node, a.has, sym (ap (is_about key) (one_variable d.0 (variable a.node) a.asks)) ∙ d.1)

less_or : (k i : ℕ) → k < i + 1 → (k < i) ⊎ (k ≡ i)
less_or k i h1 = grind arith

-- what is true of none before an index, and not at it, is true of none up to it
pub none_up_to : (ids : List NodeId) (index : ℕ) (d : NodeId) (P : NodeId → Type 0) → (P (get_or ids index d) → ⊥) → ((i : ℕ) (u : NodeId) → i < index → slice_get ids i ≡ Some u → P u → ⊥) →
    (i : ℕ) (u : NodeId) → i < index + 1 → slice_get ids i ≡ Some u → P u → ⊥
none_up_to ids index d P h1 h2 i u h3 h4 h5 = grind (arith, less_or, get_or_from_slice_get)
