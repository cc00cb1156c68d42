-- The walk over the subtrees of an id.
use Rattle.std.proofs.Common.{◌≡◌, ℕ, zero, suc, ◌+◌, ◌<◌, ◌≤◌, List, [], ◌∷◌, length, Option, Some, None, ◌⊎◌, inl, inr, refl, sym, ap, subst, ◌∙◌, arith}
use Rattle.std.specs.Prelude.{slice_get, Result, OnOk}
use Rattle.std.proofs.lemmas.Option.{slice_get_within}
use Rattle.marker_environment.specs.Valuation.{Valuation}
use Rattle.marker_diagrams.specs.declared.node_id.NodeId.{NodeId}
use Rattle.marker_diagrams.specs.Id.{is_negated, signed_id}
use Rattle.marker_diagrams.specs.Diagram.{node_of}
use Rattle.marker_diagrams.specs.Residue.{IsSubtree, itself, child, AreExactly}
use Rattle.marker_diagrams.proofs.NodeLaws.{same_some, none_some}
use Rattle.marker_nodes.specs.Branches.{piece, value_at}
use Rattle.marker_nodes.specs.Node.{Node, markers}
use Rattle.marker_walks.specs.Subtrees.{Has, IsOnce, child_at, AddsChildren, AddsFirst, AreMoreThan}
use Rattle.marker_walks.proofs.GrowthLaws.{Grows}

less_or : (k i : ℕ) → k < i + 1 → (k < i) ⊎ (k ≡ i)
less_or k i h1 = grind arith

past : (ids : List NodeId) (i : ℕ) → i < length ids → slice_get ids i ≡ None → ⊥
past [] i l g = omega arith
past (x ∷ ids) zero l g = none_some x (sym g)
past (x ∷ ids) (suc i) l g = past ids i (omega arith) g

-- what is past the end of a list
pub end_past : (ids : List NodeId) (i : ℕ) → slice_get ids i ≡ None → length ids ≤ i
end_past [] i e = omega arith
end_past (x ∷ ids) zero e = none_some x (sym e)
end_past (x ∷ ids) (suc i) e = let l : length ids ≤ i = end_past ids i e in omega arith

pub on_ok : {T E A B : Type 0} (r : Result T E) → OnOk r A → (A → B) → OnOk r B
on_ok r h1 h2 = grind arith

-- ---- the children of one node
pub adds_none : (parent : NodeId) (children old : List NodeId) → AddsFirst parent children 0 old old
adds_none parent children old = grind arith

pub adds_one : (parent : NodeId) (children : List NodeId) (index : ℕ) (old new newer : List NodeId) (x c : NodeId) → x ≡ signed_id (is_negated parent) c →
    slice_get children index ≡ Some c → Grows new x newer →
    AddsFirst parent children index old new → AddsFirst parent children (index + 1) old newer
adds_one parent children index old new newer x c made e g a = record {
  longer = let l : length old ≤ length new = a.longer in let m : length new ≤ length newer = g.longer in omega arith;
  stays = λ i id f. g.stays i id (a.stays i id f);
  each = λ i id f. elim (g.each i id f) [ inl h ↦ a.each h.0 id h.1 | inr h ↦ inr (index, c, e, h ∙ made) ];
  some = some;
  once = λ o. g.once (a.once o);
}
  where
    here : (k : ℕ) (d : NodeId) → k ≡ index → slice_get children k ≡ Some d → Has newer (signed_id (is_negated parent) d)
    here k d h f =
        let s : c ≡ d = same_some c d (sym e ∙ ap (slice_get children) (sym h) ∙ f) in
        let P : NodeId → Type 0 = λ y. Has newer y in subst P (made ∙ ap (signed_id (is_negated parent)) s) g.has

    earlier : (id : NodeId) → Has new id → Has newer id
    earlier id h = (h.0, g.stays h.0 id h.1)

    some : (k : ℕ) (d : NodeId) → k < index + 1 → slice_get children k ≡ Some d → Has newer (signed_id (is_negated parent) d)
    some k d l f = elim (less_or k index l) [ inl h ↦ earlier (signed_id (is_negated parent) d) (a.some k d h f) | inr h ↦ here k d h f ]

pub adds_all : (n : Node) (parent : NodeId) (children : List NodeId) (old new : List NodeId) →
    ((v : Valuation) → slice_get children (piece n v) ≡ Some (value_at n v)) →
    ((i : ℕ) (w : NodeId) → slice_get children i ≡ Some w → (v : Valuation) × (value_at n v ≡ w)) →
    AddsFirst parent children (length children) old new → AddsChildren n parent old new
adds_all n parent children old new value inhabited a = record {
  longer = a.longer;
  stays = a.stays;
  each = λ i id e. elim (a.each i id e) [ inl h ↦ inl h | inr h ↦ inr (made id h) ];
  all = λ v. a.some (piece n v) (value_at n v) (slice_get_within children (piece n v) (value_at n v) (value v)) (value v);
  once = a.once;
}
  where
    made : (id : NodeId) → ((k : ℕ) × (c : NodeId) × (slice_get children k ≡ Some c) × (id ≡ signed_id (is_negated parent) c)) → (v : Valuation) × (id ≡ child_at n parent v)
    made id h = let p = inhabited h.0 h.1 h.2 in (p.0, h.3 ∙ ap (signed_id (is_negated parent)) (sym p.1))

-- ---- all subtrees

-- The list has subtrees of an id, each once, with the children of those up to an index.
pub record Walks (nodes : List Node) (id : NodeId) (index : ℕ) (ids : List NodeId) : Type 0 where
  pub first : Has ids id
  pub each : (i : ℕ) (u : NodeId) → slice_get ids i ≡ Some u → IsSubtree markers nodes id u
  pub closed : (i : ℕ) (u : NodeId) (n : Node) (v : Valuation) → i < index → slice_get ids i ≡ Some u → node_of nodes u ≡ Some n → Has ids (child_at n u v)
  pub once : IsOnce ids

pub walks_first : (nodes : List Node) (id : NodeId) (old new : List NodeId) → old ≡ [] → Grows old id new → Walks nodes id 0 new
walks_first nodes id old new e g = record {
  first = g.has;
  each = λ i u f. elim (g.each i u f) [ inl h ↦ absurd (none_at u h) | inr h ↦ let P : NodeId → Type 0 = λ x. IsSubtree markers nodes id x in subst P (sym h) itself ];
  closed = λ i u n v l. absurd (omega arith);
  once = g.once (λ i j u f k. absurd (none_at u (i, f)));
}
  where
    none_at : (u : NodeId) → Has old u → ⊥
    none_at u h = none_some u (ap (λ ids. slice_get ids h.0) (sym e) ∙ h.1)

-- an id without a node has no children
pub walks_leaf : (nodes : List Node) (id : NodeId) (index : ℕ) (ids : List NodeId) (parent : NodeId) → slice_get ids index ≡ Some parent → node_of nodes parent ≡ None →
    Walks nodes id index ids → Walks nodes id (index + 1) ids
walks_leaf nodes id index ids parent e none w = record {
  first = w.first;
  each = w.each;
  closed = λ i u n v l f g. elim (less_or i index l) [
    | inl h ↦ w.closed i u n v h f g
    | inr h ↦ absurd (none_some n (sym none ∙ ap (node_of nodes) (same_some parent u (sym e ∙ ap (slice_get ids) (sym h) ∙ f)) ∙ g))
  ];
  once = w.once;
}

pub walks_node : (nodes : List Node) (id : NodeId) (index : ℕ) (old new : List NodeId) (parent : NodeId) (n : Node) → slice_get old index ≡ Some parent → node_of nodes parent ≡ Some n →
    AddsChildren n parent old new → Walks nodes id index old → Walks nodes id (index + 1) new
walks_node nodes id index old new parent n e node a w = record {
  first = stay id w.first;
  each = λ i u f. elim (a.each i u f) [ inl h ↦ w.each h.0 u h.1 | inr h ↦ child parent u n h.0 (w.each index parent e) node h.1 ];
  closed = λ i u m v l f g. closed i u m v l f g;
  once = a.once w.once;
}
  where
    stay : (u : NodeId) → Has old u → Has new u
    stay u h = (h.0, a.stays h.0 u h.1)

    -- what stands at an index of the old list stood there
    old_at : (i : ℕ) (u : NodeId) → i < length old → slice_get new i ≡ Some u → slice_get old i ≡ Some u
    old_at i u l f = by_option (slice_get old i) refl
      where
        by_option : (o : Option NodeId) → slice_get old i ≡ o → slice_get old i ≡ Some u
        by_option None g = absurd (past old i l g)
        by_option (Some x) g = g ∙ sym (a.stays i x g) ∙ f

    closed : (i : ℕ) (u : NodeId) (m : Node) (v : Valuation) → i < index + 1 → slice_get new i ≡ Some u → node_of nodes u ≡ Some m → Has new (child_at m u v)
    closed i u m v l f g =
        let k : index < length old = slice_get_within old index parent e in
        let f' : slice_get old i ≡ Some u = old_at i u (omega arith) f in
        elim (less_or i index l) [
          | inl h ↦ stay (child_at m u v) (w.closed i u m v h f' g)
          | inr h ↦ here (same_some parent u (sym e ∙ ap (slice_get old) (sym h) ∙ f'))
        ]
      where
        here : parent ≡ u → Has new (child_at m u v)
        here p =
            let q : n ≡ m = same_some n m (sym node ∙ ap (node_of nodes) p ∙ g) in
            let P : Node → Type 0 = λ k. Has new (child_at k u v) in
            let Q : NodeId → Type 0 = λ k. Has new (child_at n k v) in
            subst P q (subst Q p (a.all v))

-- what is found so far may be more than enough
pub walked_past : (nodes : List Node) (id : NodeId) (index most : ℕ) (ids : List NodeId) → most < length ids → Walks nodes id index ids → AreMoreThan most (IsSubtree markers nodes id)
walked_past nodes id index most ids l w = record { ids = ids; more = l; each = w.each; once = w.once }

-- where each of the listed has its children in the list, all subtrees are there
pub walked : (nodes : List Node) (id : NodeId) (index : ℕ) (ids : List NodeId) → length ids ≤ index → Walks nodes id index ids → AreExactly (IsSubtree markers nodes id) ids
walked nodes id index ids l w = record { all = all; each = w.each; once = w.once }
  where
    all : (u : NodeId) → IsSubtree markers nodes id u → Has ids u
    all u itself = w.first
    all u (child s _ n v h e f) =
        let p = all s h in
        let k : p.0 < length ids = slice_get_within ids p.0 s p.1 in
        let P : NodeId → Type 0 = λ x. Has ids x in
        subst P (sym f) (w.closed p.0 s n v (omega arith) p.1 e)
