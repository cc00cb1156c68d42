-- The walk over the subtrees of an id that a target leads to.
use Rattle.std.proofs.Common.{◌≡◌, ℕ, zero, suc, ◌+◌, ◌<◌, ◌≤◌, Bool, List, [], ◌∷◌, length, Option, Some, None, ◌⊎◌, inl, inr, refl, sym, ap, subst, ◌∙◌, arith}
use Rattle.std.specs.Prelude.{slice_get}
use Rattle.std.specs.Ordering.{is_eq}
use Rattle.std.proofs.lemmas.Cmp.{tied_itself}
use Rattle.std.proofs.lemmas.Option.{slice_get_within}
use Rattle.marker_environment.specs.Valuation.{Valuation}
use Rattle.marker_diagrams.specs.declared.node_id.NodeId.{NodeId}
use Rattle.marker_diagrams.specs.Id.{is_negated, place_of, signed_id}
use Rattle.marker_diagrams.specs.Diagram.{IsHeld, IsStore, node_of, truth, with_variable}
use Rattle.marker_diagrams.proofs.Canonicity.{child_seen}
use Rattle.marker_diagrams.proofs.NodeLaws.{none_some, same_some, truth_child}
use Rattle.marker_nodes.specs.Branches.{variable}
use Rattle.marker_nodes.specs.Node.{Node, markers}
use Rattle.marker_nodes.specs.Variable.{variable_cmp}
use Rattle.marker_nodes.proofs.NodeLaws.{lawful}
use Rattle.marker_nodes.proofs.VariableLaws.{variable_total}
use Rattle.marker_walks.specs.Subtrees.{AddsChildren, Has, child_at}
use Rattle.marker_walks.proofs.GrowthLaws.{Grows}
use Rattle.selection_commands.specs.declared.target.Target.{Target}
use Rattle.selection_commands.specs.Target.{Agrees, known_child}
use Rattle.selection_commands.specs.Truth.{MayBe}
use Rattle.selection_commands.specs.Reached.{AddsReached, AreReached, IsSettled}
use Rattle.selection_commands.proofs.TargetLaws.{given, given_agrees, some_agrees, mixed_agrees, known_picks, open_picks}

less_or : (k i : ℕ) → k < i + 1 → (k < i) ⊎ (k ≡ i)
less_or zero zero l = inr refl
less_or zero (suc i) l = inl (omega arith)
less_or (suc k) zero l = absurd (omega arith)
less_or (suc k) (suc i) l = elim (less_or k i (omega arith)) [ inl h ↦ inl (omega arith) | inr h ↦ inr (ap suc h) ]

past : (ids : List NodeId) (i : ℕ) → i < length ids → slice_get ids i ≡ None → ⊥
past [] i l g = omega arith
past (x ∷ ids) zero l g = none_some x (sym g)
past (x ∷ ids) (suc i) l g = past ids i (omega arith) g

-- ---- the children of one node
module _ (target : Target) (n : Node) (parent : NodeId) (old new : List NodeId) where
  -- the one that the target selects
  pub adds_known : (c u : NodeId) → known_child target n ≡ Some c → u ≡ signed_id (is_negated parent) c → Grows old u new → AddsReached target n parent old new
  adds_known c u k u_is g = record {
    stays = g.stays;
    each = λ i id e. elim (g.each i id e) [
      | inl h ↦ inl h
      | inr h ↦
          let s = some_agrees target in inr (s.0, s.1, h ∙ u_is ∙ ap (signed_id (is_negated parent)) (sym (known_picks target n c s.0 k s.1)))
    ];
    all = λ v a. let P : NodeId → Type 0 = λ x. Has new x in subst P (u_is ∙ ap (signed_id (is_negated parent)) (sym (known_picks target n c v k a))) g.has;
  }

  -- all of them
  pub adds_open : known_child target n ≡ None → AddsChildren n parent old new → AddsReached target n parent old new
  adds_open k g = record {
    stays = g.stays;
    each = λ i id e. elim (g.each i id e) [
      | inl h ↦ inl h
      | inr h ↦ inr (given target h.0, given_agrees target h.0, h.1 ∙ ap (signed_id (is_negated parent)) (sym (open_picks target n h.0 k)))
    ];
    all = λ v a. g.all v;
  }

-- The list has ids that the target leads to, with the children of those up to an index.
pub record Reaches (target : Target) (nodes : List Node) (id : NodeId) (index : ℕ) (ids : List NodeId) : Type 0 where
  pub first : Has ids id
  pub held : (i : ℕ) (u : NodeId) → slice_get ids i ≡ Some u → IsHeld nodes u
  pub leads : (i : ℕ) (u : NodeId) (b : Bool) → slice_get ids i ≡ Some u → MayBe target (truth markers nodes u) b → MayBe target (truth markers nodes id) b
  pub closed : (i : ℕ) (u : NodeId) (n : Node) (v : Valuation) → i < index → slice_get ids i ≡ Some u → node_of nodes u ≡ Some n → Agrees target v → Has ids (child_at n u v)

-- ---- all that are reached
module _ (target : Target) (nodes : List Node) (store : IsStore markers nodes) where
  -- what a child that an environment leads to may be, the id may be
  child_leads : (t : NodeId) (n : Node) (s : Valuation) (b : Bool) → node_of nodes t ≡ Some n → Agrees target s →
      MayBe target (truth markers nodes (child_at n t s)) b → MayBe target (truth markers nodes t) b
  child_leads t n s b stands h w = (
    with_variable markers (variable n) s w.0,
    mixed_agrees target (λ y. is_eq (variable_cmp (variable n) y)) s w.0 h w.1,
    child_seen markers lawful nodes store t n (variable n) s w.0 stands (tied_itself variable_total (variable n)) ∙ w.2,
  )

  pub child_below : (t : NodeId) (n : Node) (v : Valuation) → node_of nodes t ≡ Some n → place_of (child_at n t v) < place_of t
  child_below t n v stands = (store.node (place_of t) n stands).below v

  child_held : (t : NodeId) (n : Node) (v : Valuation) → node_of nodes t ≡ Some n → IsHeld nodes t → IsHeld nodes (child_at n t v)
  child_held t n v stands i = let l : place_of (child_at n t v) < place_of t = child_below t n v stands in omega arith

  pub child_means : (t : NodeId) (n : Node) (v : Valuation) → node_of nodes t ≡ Some n → truth markers nodes t v ≡ truth markers nodes (child_at n t v) v
  child_means t n v stands = truth_child markers nodes t n v (λ i m e. (store.node i m e).below) stands

  -- an id and the child that the target selects
  module _ (id t u c : NodeId) (n : Node) (stands : node_of nodes t ≡ Some n) (k : known_child target n ≡ Some c) (u_is : u ≡ signed_id (is_negated t) c) where
    same_child : (v : Valuation) → Agrees target v → child_at n t v ≡ u
    same_child v a = ap (signed_id (is_negated t)) (known_picks target n c v k a) ∙ sym u_is

    pub settled_below : place_of u < place_of t
    settled_below = let s = some_agrees target in subst (λ x. place_of x < place_of t) (same_child s.0 s.1) (child_below t n s.0 stands)

    pub settled_on : IsSettled target nodes id t → IsSettled target nodes id u
    settled_on w = record {
      held = let l : place_of u < place_of t = settled_below in let h = w.held in omega arith;
      same = λ v a. w.same v a ∙ child_means t n v stands ∙ ap (λ x. truth markers nodes x v) (same_child v a);
    }

  module _ (id : NodeId) where
    pub reaches_first : (old new : List NodeId) → old ≡ [] → IsHeld nodes id → Grows old id new → Reaches target nodes id 0 new
    reaches_first old new e h g = record {
      first = g.has;
      held = λ i u f. let P : NodeId → Type 0 = λ x. IsHeld nodes x in subst P (sym (only i u f)) h;
      leads = λ i u b f m. let P : NodeId → Type 0 = λ x. MayBe target (truth markers nodes x) b in subst P (only i u f) m;
      closed = λ i u n v l. absurd (omega arith);
    }
      where
        none_at : {A : Type 0} (u : NodeId) → Has old u → A
        none_at u k = none_some u (ap (λ ids. slice_get ids k.0) (sym e) ∙ k.1)

        only : (i : ℕ) (u : NodeId) → slice_get new i ≡ Some u → u ≡ id
        only i u f = elim (g.each i u f) [ inl k ↦ none_at u k | inr k ↦ k ]

    pub reaches_leaf : (index : ℕ) (ids : List NodeId) (parent : NodeId) → slice_get ids index ≡ Some parent → node_of nodes parent ≡ None → Reaches target nodes id index ids → Reaches target nodes id (index + 1) ids
    reaches_leaf index ids parent e none w = record {
      first = w.first;
      held = w.held;
      leads = w.leads;
      closed = λ i u n v l f g a. elim (less_or i index l) [
        | inl h ↦ w.closed i u n v h f g a
        | inr h ↦ none_some n (sym none ∙ ap (node_of nodes) (same_some parent u (sym e ∙ ap (slice_get ids) (sym h) ∙ f)) ∙ g)
      ];
    }

    pub reaches_node : (index : ℕ) (old new : List NodeId) (parent : NodeId) (n : Node) → slice_get old index ≡ Some parent → node_of nodes parent ≡ Some n →
        AddsReached target n parent old new → Reaches target nodes id index old → Reaches target nodes id (index + 1) new
    reaches_node index old new parent n e node g w = record {
      first = stay id w.first;
      held = λ i u f. elim (g.each i u f) [
        | inl h ↦ w.held h.0 u h.1
        | inr h ↦ let P : NodeId → Type 0 = λ x. IsHeld nodes x in subst P (sym h.2) (child_held parent n h.0 node (w.held index parent e))
      ];
      leads = λ i u b f m. elim (g.each i u f) [
        | inl h ↦ w.leads h.0 u b h.1 m
        | inr h ↦ w.leads index parent b e (child_leads parent n h.0 b node h.1 (let P : NodeId → Type 0 = λ x. MayBe target (truth markers nodes x) b in subst P h.2 m))
      ];
      closed = λ i u m v l f k a. closed i u m v l f k a;
    }
      where
        stay : (u : NodeId) → Has old u → Has new u
        stay u h = (h.0, g.stays h.0 u h.1)

        here : (u : NodeId) (m : Node) (v : Valuation) → parent ≡ u → node_of nodes u ≡ Some m → Agrees target v → Has new (child_at m u v)
        here u m v s k a =
            let same : n ≡ m = same_some n m (sym node ∙ ap (node_of nodes) s ∙ k) in
            let P : Node → Type 0 = λ x. Has new (child_at x u v) in let Q : NodeId → Type 0 = λ x. Has new (child_at n x v) in subst P same (subst Q s (g.all v a))

        earlier : (i : ℕ) (u : NodeId) (m : Node) (v : Valuation) → i < index → slice_get old i ≡ Some u → node_of nodes u ≡ Some m → Agrees target v → Has new (child_at m u v)
        earlier i u m v l f k a = stay (child_at m u v) (w.closed i u m v l f k a)

        before : (i : ℕ) (u : NodeId) → i < index → slice_get new i ≡ Some u → slice_get old i ≡ Some u
        before i u l f = by_old (slice_get old i) refl
          where
            by_old : (o : Option NodeId) → slice_get old i ≡ o → slice_get old i ≡ Some u
            by_old (Some x) k = k ∙ ap Some (same_some x u (sym (g.stays i x k) ∙ f))
            by_old None k = absurd (past old i (let m : index < length old = slice_get_within old index parent e in omega arith) k)

        closed : (i : ℕ) (u : NodeId) (m : Node) (v : Valuation) → i < index + 1 → slice_get new i ≡ Some u → node_of nodes u ≡ Some m → Agrees target v → Has new (child_at m u v)
        closed i u m v l f k a = elim (less_or i index l) [
          | inl h ↦ earlier i u m v h (before i u h f) k a
          | inr h ↦ here u m v (same_some parent u (sym (g.stays index parent e) ∙ ap (slice_get new) (sym h) ∙ f)) k a
        ]

    pub all_reached : (index : ℕ) (ids : List NodeId) → length ids ≤ index → Reaches target nodes id index ids → AreReached target nodes id ids
    all_reached index ids l w = record {
      first = w.first;
      held = w.held;
      leads = w.leads;
      closed = λ i u n v f g a. w.closed i u n v (let m : i < length ids = slice_get_within ids i u f in omega arith) f g a;
    }
