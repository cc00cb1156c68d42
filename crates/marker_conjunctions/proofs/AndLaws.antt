-- The conjunction of two ids from those of their children, and what is known of conjunctions.
use Rattle.std.proofs.Common.{◌≡◌, ℕ, zero, suc, ◌≤◌, max, Bool, true, false, cond, ◌&&◌, List, [], ◌∷◌, ◌++◌, length, Some, Result, Ok, Err, refl, sym, ap, ◌∙◌, subst, arith}
use Rattle.std.specs.Prelude.{slice_get, IfOk}
use Rattle.std.specs.Map.{lookup}
use Rattle.std.specs.declared.alloc.AllocError.{AllocError}
use Rattle.std.specs.declared.cmp.Ordering.TheVariants.{Less}
use Rattle.std.proofs.lemmas.Bool.{and_parts}
use Rattle.marker_environment.specs.Valuation.{Valuation}
use Rattle.marker_diagrams.specs.declared.node_id.NodeId.{NodeId}
use Rattle.marker_diagrams.specs.Id.{is_negated, place_of, signed_id, same_id}
use Rattle.marker_diagrams.specs.Diagram.{IsAfter, IsHeld, IsStore, Keeps, IsChoice, AreChildren, truth}
use Rattle.marker_diagrams.proofs.IdLaws.{same_id_is}
use Rattle.marker_diagrams.proofs.NodeLaws.{same_some, none_some, keeps_both, truth_still, after_still}
use Rattle.marker_nodes.specs.Variable.{Variable, variable_cmp}
use Rattle.marker_nodes.specs.Node.{Node, markers, child_at}
use Rattle.marker_nodes.specs.And.{IsAnd}
use Rattle.marker_nodes.specs.Side.{branch, IsFirst}
use Rattle.marker_nodes.proofs.ChildLaws.{branch_after, branch_means, left_held, right_held}
use Rattle.marker_nodes.proofs.Descents.{held_kept}
use Rattle.marker_conjunctions.specs.Contents.{Contents, IsWellKept, same_pair}
use Rattle.marker_conjunctions.specs.Reach.{reach, top}

-- a conjunction stays one
pub and_kept : (old new : List Node) (a b t : NodeId) → Keeps markers old new → IsHeld old a → IsHeld old b → IsAnd old a b t → IsAnd new a b t
and_kept old new a b t h1 h2 h3 h4 = grind arith

-- ---- what is known

pub known_is : (c : Contents) (a b t : NodeId) → IsWellKept c → Some t ≡ lookup (same_pair (a, b)) c.memo → IsAnd c.nodes a b t
known_is c a b t w f = (w.known a b t (sym f)).1.1

-- one conjunction more
pub known_more : (c : Contents) (a b t : NodeId) (memo : List ((NodeId × NodeId) × NodeId)) (expansions : ℕ) → IsWellKept c → IsHeld c.nodes a → IsHeld c.nodes b → IsAnd c.nodes a b t →
    ((q : NodeId × NodeId) → lookup (same_pair q) memo ≡ cond (same_pair (a, b) q) (Some t) (lookup (same_pair q) c.memo)) → reach memo ≡ max (reach c.memo) (top ((a, b), t)) →
    IsWellKept record { nodes = c.nodes; memo = memo; expansions = expansions }
known_more c a b t memo expansions w i j h u reaches = record {
  nodes = w.nodes;
  known = λ x y r f. by_test x y r (same_pair (a, b) (x, y)) refl (sym (u (x, y)) ∙ f);
  within = let all : reach c.memo ≤ length c.nodes = w.within in let made : place_of t ≤ length c.nodes = h.held in omega (arith, all, made, reaches, i, j);
}
  where
    by_test : (x y r : NodeId) (z : Bool) → same_pair (a, b) (x, y) ≡ z → cond z (Some t) (lookup (same_pair (x, y)) c.memo) ≡ Some r → IsHeld c.nodes x × (IsHeld c.nodes y × IsAnd c.nodes x y r)
    by_test x y r true p f =
        let q = and_parts (same_id a x) (same_id b y) p in
        subst (λ s. IsHeld c.nodes s × (IsHeld c.nodes y × IsAnd c.nodes s y r)) (same_id_is a x q.0)
        (subst (λ s. IsHeld c.nodes a × (IsHeld c.nodes s × IsAnd c.nodes a s r)) (same_id_is b y q.1) (i, (j, subst (IsAnd c.nodes a b) (same_some t r f) h)))
    by_test x y r false p f = w.known x y r f

-- more nodes
pub well_kept_longer : (d : Contents) (new : List Node) → IsWellKept d → IsStore markers new → Keeps markers d.nodes new → IsWellKept record { nodes = new; memo = d.memo; expansions = d.expansions }
well_kept_longer d new w s k = record {
  nodes = s;
  known = λ a b t e. let h = w.known a b t e in (held_kept d.nodes new a k h.0, (held_kept d.nodes new b k h.1.0, and_kept d.nodes new a b t k h.0 h.1.0 h.1.1));
  within = let all : reach d.memo ≤ length d.nodes = w.within in let longer : length d.nodes ≤ length new = k.longer in omega (arith, all, longer);
}

-- ---- children of two ids
module _ (old : List Node) (store : IsStore markers old) (a b : NodeId) (i : IsHeld old a) (j : IsHeld old b) (x : Variable) (first : IsFirst old x a b) where
  module _ (new : List Node) (k : Keeps markers old new) (child : Valuation → NodeId) (ands : (v : Valuation) → IsAnd new (branch old x a v) (branch old x b v) (child v)) where
    -- the conjunctions may be children of a node on x
    pub and_children : AreChildren markers new x child
    and_children = record {
      held = λ v. (ands v).held;
      after = λ v. (ands v).after x
          (after_still markers old new x (branch old x a v) k (left_held old store a b i j x first v) (branch_after old store x a first.from_a v))
          (after_still markers old new x (branch old x b v) k (right_held old store a b i j x first v) (branch_after old store x b first.from_b v));
    }

    module _ (last : List Node) (l : Keeps markers new last) (t : NodeId) (choice : IsChoice markers last x child t) where
      both : Keeps markers old last
      both = keeps_both markers old new last k l

      still : (s : NodeId) (v : Valuation) → IsHeld old s → truth markers last s v ≡ truth markers old s v
      still s v h = truth_still markers old last s v both h

      before : (y : Variable) → IsAfter markers last y a → IsAfter markers last y b → variable_cmp y x ≡ Less
      before y h1 h2 = grind arith

      branch_kept : (s : NodeId) (v : Valuation) → IsHeld old s → IsHeld old (branch old x s v) → truth markers new (branch old x s v) v ≡ truth markers last s v
      branch_kept s v h g = truth_still markers old new (branch old x s v) v k g ∙ sym (branch_means old store x s v) ∙ sym (still s v h)

      pub joined : IsAnd last a b t
      joined = record {
        held = choice.held;
        means = λ v.
            choice.means v ∙ truth_still markers new last (child v) v l ((ands v).held) ∙ (ands v).means v
            ∙ ap (λ z. z && truth markers new (branch old x b v) v) (branch_kept a v i (left_held old store a b i j x first v))
            ∙ ap (λ z. truth markers last a v && z) (branch_kept b v j (right_held old store a b i j x first v));
        after = λ y p q. choice.after y (before y p q);
      }

  -- what is placed is the conjunction
  pub placed_is : (new last : List Node) (child : Valuation → NodeId) → Keeps markers old new → ((v : Valuation) → IsAnd new (branch old x a v) (branch old x b v) (child v)) → Keeps markers new last →
      (r : Result NodeId AllocError) → IfOk r (IsChoice markers last x child) → IfOk r (IsAnd last a b)
  placed_is new last child k h l (Ok t) c = joined new k child h last l t c
  placed_is new last child k h l (Err z) c = c

-- ---- the conjunctions of a list of pairs, under the signs of two ids
module _ (nodes : List Node) (a b : NodeId) where
  abbrev pub Ands : List (NodeId × NodeId) → List NodeId → Type 0
  Ands [] [] = Unit {0}
  Ands [] (t ∷ ts) = ⊥
  Ands (q ∷ qs) [] = ⊥
  Ands (q ∷ qs) (t ∷ ts) = IsAnd nodes (signed_id (is_negated a) q.0) (signed_id (is_negated b) q.1) t × Ands qs ts

  pub ands_more : (qs : List (NodeId × NodeId)) (ts : List NodeId) (q : NodeId × NodeId) (t : NodeId) → Ands qs ts → IsAnd nodes (signed_id (is_negated a) q.0) (signed_id (is_negated b) q.1) t → Ands (qs ++ q ∷ []) (ts ++ t ∷ [])
  ands_more [] [] q t h g = (g, tt)
  ands_more [] (u ∷ ts) q t h g = absurd h
  ands_more (p ∷ qs) [] q t h g = absurd h
  ands_more (p ∷ qs) (u ∷ ts) q t h g = (h.0, ands_more qs ts q t h.1 g)

  pub ands_length : (qs : List (NodeId × NodeId)) (ts : List NodeId) → Ands qs ts → length ts ≡ length qs
  ands_length [] [] h = refl
  ands_length [] (u ∷ ts) h = absurd h
  ands_length (p ∷ qs) [] h = absurd h
  ands_length (p ∷ qs) (u ∷ ts) h = ap suc (ands_length qs ts h.1)

  pub ands_at : (qs : List (NodeId × NodeId)) (ts : List NodeId) → Ands qs ts → (i : ℕ) (p : NodeId × NodeId) → slice_get qs i ≡ Some p → IsAnd nodes (signed_id (is_negated a) p.0) (signed_id (is_negated b) p.1) (child_at ts i)
  ands_at [] ts h i p e = none_some p e
  ands_at (q ∷ qs) [] h i p e = absurd h
  ands_at (q ∷ qs) (t ∷ ts) h zero p e = subst (λ r. IsAnd nodes (signed_id (is_negated a) r.0) (signed_id (is_negated b) r.1) t) (same_some q p e) h.0
  ands_at (q ∷ qs) (t ∷ ts) h (suc i) p e = ands_at qs ts h.1 i p e
