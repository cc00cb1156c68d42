-- A table when a node is placed.
use Rattle.std.proofs.Common.{◌≡◌, ℕ, zero, suc, ◌+◌, ◌<◌, ◌≤◌, ◌^◌, Bool, true, false, not, cond, ◌||◌, ◌⊎◌, List, [], ◌∷◌, ◌++◌, reverse, length, ◌-◌, Option, Some, None, refl, sym, ap, ◌∙◌, subst, add-one, arith}
use Rattle.std.specs.Prelude.{slice_get, Result, IfOk}
use Rattle.std.specs.declared.alloc.AllocError.{AllocError}
use Rattle.std.proofs.lemmas.Option.{slice_get_within, slice_get-get_or}
use Rattle.std.specs.List.{list_any}
use Rattle.std.proofs.lemmas.Bool.{false≢true, ne_eqb}
use Rattle.std.proofs.lemmas.List.{length-reverse}
use Rattle.indexmap.specs.IndexSet.{insert_key}
use Rattle.marker_environment.specs.Valuation.{Valuation}
use Rattle.marker_diagrams.specs.declared.node_id.NodeId.{NodeId}
use Rattle.marker_diagrams.specs.Id.{id_of, index_of, place_of, is_negated, signed_id, same_id}
use Rattle.marker_diagrams.specs.Diagram.{node_at, node_of, IsHeld, AreSame, AreChildren, IsReady, IsStore, Keeps, IsChoice, Separated}
use Rattle.marker_diagrams.proofs.Canonicity.{separated}
use Rattle.marker_diagrams.proofs.IdLaws.{not_same_id, signed_id_undone}
use Rattle.marker_diagrams.proofs.NodeLaws.{same_some, none_some, node_bounds, keeps_itself, keeps_more}
use Rattle.marker_diagrams.proofs.StoreLaws.{store_more, id_of_same}
use Rattle.marker_diagrams.proofs.ChoiceLaws.{children_same, choice_same, choice_constant}
use Rattle.marker_diagrams.proofs.KeyLaws.{get_last, node_is, key_of, newest}
use Rattle.marker_nodes.specs.Branches.{count, has_trimmed_cuts, piece, variable, value_at as pick}
use Rattle.marker_nodes.specs.Variable.{Variable}
use Rattle.marker_nodes.specs.Node.{Node, markers, is_constant, is_joined, is_reduced, child_at, listed_child, lowest}
use Rattle.marker_nodes.specs.Table.{HasRoom, pieces_of}
use Rattle.marker_nodes.proofs.BranchLaws.{piece_within, constant_everywhere}
use Rattle.marker_nodes.proofs.NodeLaws.{lawful}
use Rattle.marker_nodes.proofs.TrimLaws.{trimmed_new}
use Rattle.marker_nodes.proofs.EqualNodes.{node_eq, equal_same, unequal_other}

or_first : (a b : Bool) → (a || b) ≡ false → a ≡ false
or_first a b h1 = grind arith

or_second : (a b : Bool) → (a || b) ≡ false → b ≡ false
or_second a b h1 = grind arith

any_get : {X : Type 0} (p : X → Bool) (xs : List X) (i : ℕ) (x : X) → list_any p xs ≡ false → slice_get xs i ≡ Some x → p x ≡ false
any_get p [] i x e f = none_some x f
any_get p (y ∷ ys) zero x e f = sym (ap p (same_some y x f)) ∙ or_first (p y) (list_any p ys) e
any_get p (y ∷ ys) (suc i) x e f = any_get p ys i x (or_second (p y) (list_any p ys) e) f

fresh : (keys : List Node) → IsStore markers (reverse keys) → (n : Node) → is_reduced n ≡ true → list_any (node_eq n) keys ≡ false →
    (i : ℕ) (m : Node) → node_at (reverse keys) i ≡ Some m → AreSame markers n m → ⊥
fresh keys w n r h i m e same =
    let p = key_of keys i m e in unequal_other n m r ((w.node i m e).reduced) (any_get (node_eq n) keys p.0 m h p.2) same

a_piece : (n : Node) → 1 ≤ count n
a_piece n = grind arith

-- there are no more nodes than pieces
nodes_have_pieces : (nodes : List Node) → length nodes ≤ pieces_of nodes
nodes_have_pieces [] = omega arith
nodes_have_pieces (n ∷ older) = omega (arith, a_piece n, nodes_have_pieces older)

-- the index of a node has an id
pub index_named : (keys : List Node) (pieces room index : ℕ) (k : Node) → HasRoom (reverse keys) pieces room → slice_get keys index ≡ Some k → index + 1 < 2 ^ 32
index_named keys pieces room index k h1 h2 = grind (arith, length, slice_get_within, reverse, length-reverse, nodes_have_pieces)

-- the nodes after one is inserted
module _ (keys nodes new : List Node) (n : Node) (w : IsStore markers (reverse keys)) (view_is : reverse keys ≡ nodes) (ready : IsReady markers nodes n) (new_is : new ≡ insert_key node_eq keys n) where
  ready_here : IsReady markers (reverse keys) n
  ready_here = subst (λ l. IsReady markers l n) (sym view_is) ready

  store_by : (b : Bool) → list_any (node_eq n) keys ≡ b → IsStore markers (reverse (cond b keys (keys ++ n ∷ [])))
  store_by true e = w
  store_by false e = subst (IsStore markers) (sym (newest n keys)) (store_more markers lawful (reverse keys) w n ready_here (fresh keys w n ready.reduced e))

  pub insert_store : IsStore markers (reverse new)
  insert_store = subst (λ l. IsStore markers (reverse l)) (sym new_is) (store_by (list_any (node_eq n) keys) refl)

  pieces_by : (b : Bool) → pieces_of (reverse (cond b keys (keys ++ n ∷ []))) ≡ cond b 0 (count n) + pieces_of (reverse keys)
  pieces_by b = grind (arith, newest)

  added_by_test : (b is_new : Bool) (added : ℕ) → is_new ≡ not b → ((is_new ≡ true) × (added ≡ count n)) ⊎ ((is_new ≡ false) × (added ≡ 0)) → added ≡ cond b 0 (count n)
  added_by_test b is_new added h1 h2 = grind arith

  fits_by_test : (b : Bool) (pieces room added : ℕ) → added ≡ cond b 0 (count n) → pieces ≤ room → (b ≡ true) ⊎ (count n ≤ room - pieces) → pieces + added ≤ room
  fits_by_test b pieces room added h1 h2 h3 = grind arith

  -- the pieces of a node that is new are counted, if there was room for them
  pub insert_room : (pieces room added : ℕ) (is_new : Bool) → HasRoom (reverse keys) pieces room → has_trimmed_cuts n ≡ true → is_new ≡ not (list_any (node_eq n) keys) → ((is_new ≡ true) × (added ≡ count n)) ⊎ ((is_new ≡ false) × (added ≡ 0)) →
      (list_any (node_eq n) keys ≡ true) ⊎ (count n ≤ room - pieces) → HasRoom (reverse new) (pieces + added) room
  insert_room pieces room added is_new h t e counts stands = grind (arith, node_eq, cond, added_by_test, reverse, pieces_by, insert_store, trimmed_new, fits_by_test)

  keeps_by : (b : Bool) → Keeps markers (reverse keys) (reverse (cond b keys (keys ++ n ∷ [])))
  keeps_by b = grind (arith, keeps_itself, reverse, newest, keeps_more)

  pub insert_keeps : Keeps markers nodes (reverse new)
  insert_keeps = subst (λ l. Keeps markers l (reverse new)) view_is (subst (λ l. Keeps markers (reverse keys) (reverse l)) (sym new_is) (keeps_by (list_any (node_eq n) keys)))

  module _ (k : Node) (index : ℕ) (stored : slice_get new index ≡ Some k) (eq : node_eq n k ≡ true) where
    stands : node_of (reverse new) (id_of index false) ≡ Some k
    stands = rw add-one (node_is new index ∙ stored)

    pub insert_choice : IsChoice markers (reverse new) (variable n) (pick n) (id_of index false)
    insert_choice = id_of_same markers lawful (reverse new) insert_store n k (id_of index false) stands refl (equal_same n k eq)

    added_by : (b : Bool) → list_any (node_eq n) keys ≡ b → new ≡ cond b keys (keys ++ n ∷ []) → index < length keys → reverse new ≡ nodes
    added_by b h1 h2 h3 = grind (arith, reverse, cond, ne_eqb, length, get_last, false≢true, any_get, node_eq)

    -- the id is new, or nothing was added
    pub insert_added : IsHeld nodes (id_of index false) → reverse new ≡ nodes
    insert_added h = added_by (list_any (node_eq n) keys) refl new_is (let l : length (reverse keys) ≡ length keys = length-reverse keys in let m : length (reverse keys) ≡ length nodes = ap length view_is in omega arith)

-- ---- a node that has listed children under the sign of the first
module _ (piece : Valuation → ℕ) (children values : List NodeId) (first : NodeId) (node : Node) (first_is : first ≡ child_at children 0) (within : (v : Valuation) → piece v < length children)
    (signs : (k : ℕ) → k < length children → child_at values k ≡ signed_id (is_negated first) (child_at children k)) (value : (v : Valuation) → pick node v ≡ child_at values (piece v)) where
  child_is : (v : Valuation) → pick node v ≡ signed_id (is_negated first) (child_at children (piece v))
  child_is v = value v ∙ signs (piece v) (within v)

  pub node_leads : piece lowest ≡ 0 → pick node lowest ≡ signed_id (is_negated first) first
  node_leads low = child_is lowest ∙ ap (λ i. signed_id (is_negated first) (child_at children i)) low ∙ ap (signed_id (is_negated first)) (sym first_is)

  pub node_chooses : (v : Valuation) → signed_id (is_negated first) (pick node v) ≡ child_at children (piece v)
  node_chooses v = ap (signed_id (is_negated first)) (child_is v) ∙ signed_id_undone (is_negated first) (child_at children (piece v))

-- ---- a node under the sign of its first child
module _ (first : NodeId) (node : Node) (leading : pick node lowest ≡ signed_id (is_negated first) first) where
  abbrev child : Valuation → NodeId
  child v = signed_id (is_negated first) (pick node v)

  module _ (nodes : List Node) (given : AreChildren markers nodes (variable node) (λ v. signed_id (is_negated first) (pick node v))) where
    pub node_ready : is_joined node ≡ true → is_constant node ≡ false → IsReady markers nodes node
    node_ready h1 h2 = grind arith

    pub node_constant : is_constant node ≡ true → IsChoice markers nodes (variable node) (λ v. signed_id (is_negated first) (pick node v)) first
    node_constant one =
        choice_constant markers nodes (variable node) lawful child first
        (λ v. ap (signed_id (is_negated first)) (constant_everywhere node one v lowest ∙ leading) ∙ signed_id_undone (is_negated first) first) given

  pub node_done : (last : List Node) (id : NodeId) → IsChoice markers last (variable node) (pick node) id → IsChoice markers last (variable node) (λ v. signed_id (is_negated first) (pick node v)) (signed_id (is_negated first) id)
  node_done last id h1 = grind arith

-- ---- a choice with given children
module _ (x y : Variable) (child other : Valuation → NodeId) (x_is : y ≡ x) (child_is : (v : Valuation) → other v ≡ child v) where
  pub choice_given : (nodes : List Node) → AreChildren markers nodes x child → AreChildren markers nodes y other
  choice_given nodes c = subst (λ z. AreChildren markers nodes z other) (sym x_is) (children_same markers nodes x child other (λ v. sym (child_is v)) c)

  pub choice_made : (nodes : List Node) (r : Result NodeId AllocError) → IfOk r (IsChoice markers nodes y other) → IfOk r (IsChoice markers nodes x child)
  choice_made nodes r h1 = grind arith

-- ---- a node's own children, listed
module _ (node : Node) (children : List NodeId) (count_is : length children ≡ count node) (value : (v : Valuation) → slice_get children (piece node v) ≡ Some (pick node v)) where
  listed_is : (v : Valuation) → pick node v ≡ listed_child node children v
  listed_is v = grind (arith, piece_within, length, same_some, slice_get-get_or)

  pub node_given : (nodes : List Node) → AreChildren markers nodes (variable node) (pick node) → AreChildren markers nodes (variable node) (listed_child node children)
  node_given nodes = children_same markers nodes (variable node) (pick node) (listed_child node children) listed_is

  pub node_chosen : (nodes : List Node) (r : Result NodeId AllocError) → IfOk r (IsChoice markers nodes (variable node) (listed_child node children)) → IfOk r (IsChoice markers nodes (variable node) (pick node))
  node_chosen nodes r h1 = grind (arith, choice_same, listed_is)

-- ---- look-up

index_place : (t : NodeId) (i : ℕ) → Some i ≡ index_of t → place_of t ≡ suc i
index_place t i h1 = grind arith

no_index : (t : NodeId) → None ≡ index_of t → place_of t ≡ 0
no_index t h1 = grind arith

pub node_found : (keys nodes : List Node) (t : NodeId) (i : ℕ) (r : Option Node) → Some i ≡ index_of t → reverse keys ≡ nodes → r ≡ slice_get keys i → r ≡ node_of nodes t
node_found keys nodes t i r e view_is f = f ∙ sym (node_is keys i) ∙ ap (λ l. node_at l (suc i)) view_is ∙ ap (node_at nodes) (sym (index_place t i e))

pub node_missing : (nodes : List Node) (t : NodeId) → None ≡ index_of t → None ≡ node_of nodes t
node_missing nodes t h1 = grind (arith, no_index, length, node_bounds)

pub table_separated : (keys nodes : List Node) (a b : NodeId) → IsStore markers (reverse keys) → reverse keys ≡ nodes → IsHeld nodes a → IsHeld nodes b → same_id a b ≡ false → Separated markers nodes a b
table_separated keys nodes a b w view_is i j d = separated markers lawful nodes (subst (IsStore markers) view_is w) a b i j (not_same_id a b d)
