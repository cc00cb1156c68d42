-- Nodes at their places, what they mean, and what stays when nodes come.
use Rattle.std.proofs.Common.{◌≡◌, ℕ, suc, ◌<◌, ◌≤◌, Bool, true, false, cond, ◌==◌, List, [], ◌∷◌, length, Option, Some, None, refl, sym, ap, ◌∙◌, arith, rules}
use Rattle.std.proofs.lemmas.Bool.{eq-eqb, ne_eqb}
use Rattle.marker_diagrams.specs.declared.node_id.NodeId.{NodeId}
use Rattle.marker_diagrams.specs.Id.{signed, place_of, is_negated, signed_id}
use Rattle.marker_diagrams.specs.Diagram.{NodeKind, node_at, node_of, IsHeld, truth_at, truth, IsAfter, Keeps}
use Rattle.marker_diagrams.proofs.IdLaws.{signed_twice}

pub same_some : {W : Type 0} (a b : W) → Some a ≡ Some b → a ≡ b
same_some a b e = cc

pub none_some : {W G : Type 0} (a : W) → None ≡ Some a → G
none_some a e = cc

module _ {N : Type 0} where
  at_test : (older : List N) (n m : N) (i : ℕ) → ((node_at older i ≡ Some m) → (0 < i) × (i ≤ length older)) → (b : Bool) → (i == suc (length older)) ≡ b →
      cond b (Some n) (node_at older i) ≡ Some m → (0 < i) × (i ≤ suc (length older))
  at_test older n m i h1 b h2 h3 = grind arith

  -- nodes are at places from 1 up to the length of the list
  pub node_bounds : (nodes : List N) (i : ℕ) (m : N) → node_at nodes i ≡ Some m → (0 < i) × (i ≤ length nodes)
  node_bounds [] i m e = none_some m e
  node_bounds (n ∷ older) i m e = at_test older n m i (node_bounds older i m) (i == suc (length older)) refl e

  not_top : (nodes : List N) (i : ℕ) → i ≤ length nodes → (i == suc (length nodes)) ≡ false
  not_top nodes i h = ne_eqb i (suc (length nodes)) (λ e. omega arith)

  pub node_kept : (n : N) (nodes : List N) (i : ℕ) → i ≤ length nodes → node_at (n ∷ nodes) i ≡ node_at nodes i
  node_kept n nodes i h = ap (λ b. cond b (Some n) (node_at nodes i)) (not_top nodes i h)

  pub node_new : (n : N) (nodes : List N) → node_at (n ∷ nodes) (suc (length nodes)) ≡ Some n
  node_new n nodes = ap (λ b. cond b (Some n) (node_at nodes (suc (length nodes)))) (eq-eqb (suc (length nodes)) (suc (length nodes)) refl)

  none_test : (older : List N) (n : N) (i : ℕ) → (i ≤ length older → node_at older i ≡ None → i ≡ 0) → (b : Bool) → (i == suc (length older)) ≡ b →
      i ≤ suc (length older) → cond b (Some n) (node_at older i) ≡ None → i ≡ 0
  none_test older n i h1 b h2 h3 h4 = grind arith

  -- a place without a node is 0
  pub terminal : (nodes : List N) (i : ℕ) → i ≤ length nodes → node_at nodes i ≡ None → i ≡ 0
  terminal [] i h e = omega arith
  terminal (n ∷ older) i h e = none_test older n i (terminal older i) (i == suc (length older)) refl h e

module _ {N X V : Type 0} (kind : NodeKind N X V) where
  pub truth_kept : (n : N) (nodes : List N) (i : ℕ) (v : V) → i ≤ length nodes → truth_at kind (n ∷ nodes) i v ≡ truth_at kind nodes i v
  truth_kept n nodes i v h = ap (λ b. cond b (signed (is_negated (kind.pick n v)) (truth_at kind nodes (place_of (kind.pick n v)) v)) (truth_at kind nodes i v)) (not_top nodes i h)

  free_test : (older : List N) (n : N) (i : ℕ) (v : V) → (node_at older i ≡ None → truth_at kind older i v ≡ true) → (b : Bool) → cond b (Some n) (node_at older i) ≡ None →
      cond b (signed (is_negated (kind.pick n v)) (truth_at kind older (place_of (kind.pick n v)) v)) (truth_at kind older i v) ≡ true
  free_test older n i v h1 b h2 = grind arith

  -- a place without a node is true
  pub truth_free : (nodes : List N) (i : ℕ) (v : V) → node_at nodes i ≡ None → truth_at kind nodes i v ≡ true
  truth_free [] i v e = refl
  truth_free (n ∷ older) i v e = free_test older n i v (truth_free older i v) (i == suc (length older)) e

  -- children are at lower places
  abbrev pub Descends : List N → Type 0
  Descends nodes = (i : ℕ) (n : N) → node_at nodes i ≡ Some n → (v : V) → place_of (kind.pick n v) < i

  -- place 0 is true, because no node is there
  pub truth_first : (nodes : List N) (v : V) → Descends nodes → truth_at kind nodes 0 v ≡ true
  truth_first nodes v d = by_node (node_at nodes 0) refl
    where
      by_node : (o : Option N) → node_at nodes 0 ≡ o → truth_at kind nodes 0 v ≡ true
      by_node None e = truth_free nodes 0 v e
      by_node (Some n) e = let l : place_of (kind.pick n v) < 0 = d 0 n e v in absurd (omega arith)

  node_test : (older : List N) (n m : N) (i : ℕ) (v : V) → Descends (n ∷ older) →
      (node_at older i ≡ Some m → truth_at kind older i v ≡ truth kind older (kind.pick m v) v) →
      (b : Bool) → (i == suc (length older)) ≡ b → cond b (Some n) (node_at older i) ≡ Some m →
      cond b (signed (is_negated (kind.pick n v)) (truth_at kind older (place_of (kind.pick n v)) v)) (truth_at kind older i v) ≡ truth kind (n ∷ older) (kind.pick m v) v
  node_test older n m i v h1 h2 b h3 h4 = search (rules, same_some, length, node_new, truth_kept, node_bounds, node_kept)

  older_descend : (n : N) (older : List N) → Descends (n ∷ older) → Descends older
  older_descend n older d i m e v = d i m (node_kept n older i ((node_bounds older i m e).1) ∙ e) v

  -- a node's place means what its child means
  pub truth_node : (nodes : List N) (i : ℕ) (m : N) (v : V) → Descends nodes → node_at nodes i ≡ Some m → truth_at kind nodes i v ≡ truth kind nodes (kind.pick m v) v
  truth_node [] i m v d e = none_some m e
  truth_node (n ∷ older) i m v d e = node_test older n m i v d (truth_node older i m v (older_descend n older d)) (i == suc (length older)) refl e

  -- a signed id means its truth under the sign
  pub truth_signed : (nodes : List N) (s : Bool) (t : NodeId) (v : V) → truth kind nodes (signed_id s t) v ≡ signed s (truth kind nodes t v)
  truth_signed nodes s t v = sym (signed_twice s (is_negated t) (truth_at kind nodes (place_of t) v))

  -- an id of a node means what the child means, under the id's sign
  pub truth_child : (nodes : List N) (t : NodeId) (n : N) (v : V) → Descends nodes → node_of nodes t ≡ Some n → truth kind nodes t v ≡ truth kind nodes (signed_id (is_negated t) (kind.pick n v)) v
  truth_child nodes t n v d e = ap (signed (is_negated t)) (truth_node nodes (place_of t) n v d e) ∙ sym (truth_signed nodes (is_negated t) (kind.pick n v) v)

  pub keeps_itself : (nodes : List N) → Keeps kind nodes nodes
  keeps_itself nodes = record { longer = omega arith; node = λ i h. refl; truth = λ i v h. refl }

  pub keeps_more : (n : N) (nodes : List N) → Keeps kind nodes (n ∷ nodes)
  keeps_more n nodes = record { longer = omega arith; node = node_kept n nodes; truth = truth_kept n nodes }

  pub keeps_both : (a b c : List N) → Keeps kind a b → Keeps kind b c → Keeps kind a c
  keeps_both a b c h1 h2 = grind arith

  -- an id of the old list means what it meant
  pub truth_still : (old new : List N) (t : NodeId) (v : V) → Keeps kind old new → IsHeld old t → truth kind new t v ≡ truth kind old t v
  truth_still old new t v k h = ap (signed (is_negated t)) (k.truth (place_of t) v h)

  -- and depends on the same variables
  pub after_still : (old new : List N) (x : X) (t : NodeId) → Keeps kind old new → IsHeld old t → IsAfter kind old x t → IsAfter kind new x t
  after_still old new x t k h a n e = a n (sym (k.node (place_of t) h) ∙ e)

  pub after_before : (old new : List N) (x : X) (t : NodeId) → Keeps kind old new → IsHeld old t → IsAfter kind new x t → IsAfter kind old x t
  after_before old new x t k h a n e = a n (k.node (place_of t) h ∙ e)

  -- valuations that no node distinguishes give the same truths
  pub truth_alike : (nodes : List N) (i : ℕ) (v w : V) → ((n : N) → kind.pick n v ≡ kind.pick n w) → truth_at kind nodes i v ≡ truth_at kind nodes i w
  truth_alike [] i v w h = refl
  truth_alike (n ∷ older) i v w h = grind (arith, cond, length, truth_alike older, truth_alike older i v w h)
