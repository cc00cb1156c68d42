-- The oldest nodes of a list.
use Rattle.std.proofs.Common.{◌≡◌, ℕ, zero, suc, ◌+◌, ◌-◌, ◌<◌, ◌≤◌, List, [], ◌∷◌, ◌++◌, reverse, length, drop, refl, sym, ap, ◌∙◌, subst, arith, length-drop}
use Rattle.std.proofs.lemmas.Bool.{leb-true, leb-false}
use Rattle.std.proofs.lemmas.List.{length-reverse}
use Rattle.marker_diagrams.specs.Id.{place_of}
use Rattle.marker_diagrams.specs.Diagram.{node_at, IsStore, Keeps}
use Rattle.marker_diagrams.proofs.NodeLaws.{same_some, node_bounds, node_kept, node_new, keeps_itself, keeps_both, keeps_more}
use Rattle.marker_diagrams.proofs.KeyLaws.{newest}
use Rattle.marker_nodes.specs.Branches.{count, value_at as pick}
use Rattle.marker_nodes.specs.Node.{Node, markers}
use Rattle.marker_nodes.specs.Table.{AreTrimmed, HasRoom, oldest, pieces_of}
use Rattle.marker_nodes.proofs.TrimLaws.{trimmed_older}

-- a store without its newest node is a store
pub store_older : (n : Node) (older : List Node) → IsStore markers (n ∷ older) → IsStore markers older
store_older n older s = record {
  node = λ i m e.
      let b : (0 < i) × (i ≤ length older) = node_bounds older i m e in
      let k = s.node i m (node_kept n older i b.1 ∙ e) in
      record {
        below = k.below;
        after = λ v x f. k.after v x (node_kept n older (place_of (pick m v)) (let j : place_of (pick m v) < i = k.below v in omega arith) ∙ f);
        plain = k.plain;
        reduced = k.reduced;
      };
  unique = λ i j m k e f same. s.unique i j m k (node_kept n older i ((node_bounds older i m e).1) ∙ e) (node_kept n older j ((node_bounds older j k f).1) ∙ f) same;
}

pub store_dropped : (k : ℕ) (nodes : List Node) → IsStore markers nodes → IsStore markers (drop k nodes)
store_dropped zero nodes s = s
store_dropped (suc k) [] s = s
store_dropped (suc k) (n ∷ older) s = store_dropped k older (store_older n older s)

pub kept_dropped : (k : ℕ) (nodes : List Node) → Keeps markers (drop k nodes) nodes
kept_dropped zero nodes = keeps_itself markers nodes
kept_dropped (suc k) [] = keeps_itself markers []
kept_dropped (suc k) (n ∷ older) = keeps_both markers (drop k older) older (n ∷ older) (kept_dropped k older) (keeps_more markers n older)

-- the oldest nodes of a store are a store
pub oldest_store : (count : ℕ) (nodes : List Node) → IsStore markers nodes → IsStore markers (oldest count nodes)
oldest_store count nodes = store_dropped (length nodes - count) nodes

-- what their ids mean stays
pub oldest_kept : (count : ℕ) (nodes : List Node) → Keeps markers (oldest count nodes) nodes
oldest_kept count nodes = kept_dropped (length nodes - count) nodes

-- two lists of one length with the same nodes at each place are the same
same_nodes : (xs ys : List Node) → length xs ≡ length ys → ((i : ℕ) → i ≤ length xs → node_at xs i ≡ node_at ys i) → xs ≡ ys
same_nodes [] [] e h = refl
same_nodes [] (y ∷ ys) e h = absurd (omega (arith, e))
same_nodes (x ∷ xs) [] e h = absurd (omega (arith, e))
same_nodes (x ∷ xs) (y ∷ ys) e h =
    let l : length xs ≡ length ys = omega (arith, e) in
    let first : x ≡ y = same_some x y (sym (node_new x xs) ∙ h (suc (length xs)) (omega arith) ∙ ap (λ i. node_at (y ∷ ys) (suc i)) l ∙ node_new y ys) in
    let rest : xs ≡ ys = same_nodes xs ys l (λ i b. sym (node_kept x xs i b) ∙ h i (omega (arith, b)) ∙ node_kept y ys i (omega (arith, b, l))) in
    ap (λ z. z ∷ xs) first ∙ ap (λ l. y ∷ l) rest

-- nodes that were added are given up again
pub oldest_undoes : (old new : List Node) → Keeps markers old new → oldest (length old) new ≡ old
oldest_undoes old new h1 = grind (arith, length, length-drop, same_nodes, oldest_kept)

-- ---- nodes that are taken off one after another
drop_one : (k : ℕ) (nodes rest : List Node) (n : Node) → drop k nodes ≡ n ∷ rest → drop (suc k) nodes ≡ rest
drop_one zero nodes rest n e = ap (drop 1) e
drop_one (suc k) [] rest n e = absurd cc
drop_one (suc k) (m ∷ older) rest n e = drop_one k older rest n e

-- the keys of a set without its last one
module _ (keys all new : List Node) (n : Node) (k : ℕ) (popped : keys ≡ new ++ n ∷ []) (is : reverse keys ≡ drop k all) where
  turned : reverse keys ≡ n ∷ reverse new
  turned = ap reverse popped ∙ newest n new

  pub popped_nodes : reverse new ≡ drop (suc k) all
  popped_nodes = sym (drop_one k all (reverse new) n (sym is ∙ turned))

  module _ (pieces room : ℕ) (h : HasRoom (reverse keys) pieces room) where
    pieces_are : pieces ≡ count n + pieces_of (reverse new)
    pieces_are = h.counted ∙ ap pieces_of turned

    pub popped_room : HasRoom (reverse new) (pieces - count n) room
    popped_room = record {
      rules = store_older n (reverse new) (subst (IsStore markers) turned h.rules);
      trimmed = trimmed_older n (reverse new) (subst AreTrimmed turned h.trimmed);
      counted = let e : pieces ≡ count n + pieces_of (reverse new) = pieces_are in omega (arith, e);
      fits = let f = h.fits in omega (arith, f);
      named = h.named;
    }

-- what is left at the end
pub oldest_left : (keys now : List Node) (left : List Node) (len counter end : ℕ) → left ≡ drop (counter - len) (reverse keys) → reverse keys ≡ now → end ≡ length keys → end ≤ counter → (len ≤ end → counter ≤ end) → (end ≤ len → counter ≡ len) → left ≡ oldest len now
oldest_left keys now left len counter end h1 h2 h3 h4 h5 h6 = grind (arith, length, length-reverse, drop, leb-true, leb-false)
