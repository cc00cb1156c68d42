-- A store stays one as nodes are added.
use Rattle.std.proofs.Common.{◌≡◌, ℕ, suc, ◌<◌, ◌≤◌, Bool, true, false, cond, ◌==◌, List, [], ◌∷◌, length, Some, refl, sym, ap, ◌∙◌, arith, rules}
use Rattle.std.specs.Ordering.{ordering_reverse}
use Rattle.std.proofs.lemmas.Cmp.{alike_right}
use Rattle.std.proofs.lemmas.Bool.{eqb-true}
use Rattle.marker_diagrams.specs.declared.node_id.NodeId.{NodeId}
use Rattle.marker_diagrams.specs.Id.{signed, place_of, is_negated}
use Rattle.marker_diagrams.specs.Diagram.{NodeKind, node_at, node_of, truth, truth_at, IsLawful, IsReady, IsNode, IsStore, IsChoice, AreSame}
use Rattle.marker_diagrams.proofs.NodeLaws.{same_some, none_some, node_bounds, node_kept, truth_node}

module _ {N X V : Type 0} (kind : NodeKind N X V) where
  pub empty_store : IsStore kind []
  empty_store = record { node = λ i n e. none_some n e; unique = λ i j n m e f s. none_some n e }

  same_turned : IsLawful kind → (n m : N) → AreSame kind n m → AreSame kind m n
  same_turned laws n m s = record { variable = laws.total.antisymm (kind.variable m) (kind.variable n) ∙ ap ordering_reverse s.variable; pick = λ v. sym (s.pick v) }

  module _ (laws : IsLawful kind) (nodes : List N) (store : IsStore kind nodes) (n : N) (ready : IsReady kind nodes n) (fresh : (i : ℕ) (m : N) → node_at nodes i ≡ Some m → AreSame kind n m → ⊥) where
    older_node : (i : ℕ) (m : N) → node_at nodes i ≡ Some m → IsNode kind (n ∷ nodes) i m
    older_node i m e =
        let k = store.node i m e in
        let b : (0 < i) × (i ≤ length nodes) = node_bounds nodes i m e in
        record {
          below = k.below;
          after = λ v x f. k.after v x (sym (node_kept n nodes (place_of (kind.pick m v)) (let j : place_of (kind.pick m v) < i = k.below v in omega arith)) ∙ f);
          plain = k.plain;
          reduced = k.reduced;
        }

    new_node : IsNode kind (n ∷ nodes) (suc (length nodes)) n
    new_node = grind arith

    node_by : (i : ℕ) (m : N) (b : Bool) → (i == suc (length nodes)) ≡ b → cond b (Some n) (node_at nodes i) ≡ Some m → IsNode kind (n ∷ nodes) i m
    node_by i m true e f = grind (arith, eqb-true, length, same_some, new_node)
    node_by i m false e f = older_node i m f

    unique_by : (i j : ℕ) (m k : N) (b : Bool) → (i == suc (length nodes)) ≡ b → (c : Bool) → (j == suc (length nodes)) ≡ c →
        cond b (Some n) (node_at nodes i) ≡ Some m → cond c (Some n) (node_at nodes j) ≡ Some k → AreSame kind m k → i ≡ j
    unique_by i j m k b h1 c h2 h3 h4 h5 = search (rules, eqb-true, length, same_some, same_turned)

    -- a node that is ready and new makes a longer store
    pub store_more : IsStore kind (n ∷ nodes)
    store_more = record {
      node = λ i m e. node_by i m (i == suc (length nodes)) refl e;
      unique = λ i j m k e f s. unique_by i j m k (i == suc (length nodes)) refl (j == suc (length nodes)) refl e f s;
    }

  -- the id of a stored node means what each node means that is the same
  pub id_of_same : IsLawful kind → (nodes : List N) → IsStore kind nodes → (n k : N) (t : NodeId) → node_of nodes t ≡ Some k → is_negated t ≡ false → AreSame kind n k →
      IsChoice kind nodes (kind.variable n) (kind.pick n) t
  id_of_same laws nodes store n k t e s h = record {
    held = (node_bounds nodes (place_of t) k e).1;
    means = λ v.
        ap (λ b. signed b (truth_at kind nodes (place_of t) v)) s ∙ truth_node kind nodes (place_of t) k v (λ i m f. (store.node i m f).below) e ∙ ap (λ c. truth kind nodes c v) (sym (h.pick v));
    after = λ x l m f.
        ap (kind.cmp x) (ap kind.variable (same_some m k (sym f ∙ e))) ∙ sym (alike_right laws.total (kind.variable n) (kind.variable k) x h.variable) ∙ l;
  }
