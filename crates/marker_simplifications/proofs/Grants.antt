-- Ids with extras set true.
use Rattle.std.proofs.Common.{◌≡◌, ℕ, ◌<◌, Bool, true, false, cond, List, [], length, Some, None, Result, Ok, Err, refl, sym, ap, ◌∙◌, subst, arith}
use Rattle.std.specs.Prelude.{slice_get, IfOk}
use Rattle.std.specs.Map.{lookup}
use Rattle.std.specs.declared.alloc.AllocError.{AllocError}
use Rattle.std.specs.declared.cmp.Ordering.TheVariants.{Less}
use Rattle.std.proofs.lemmas.Option.{slice_get-get_or, slice_get_within}
use Rattle.marker_environment.specs.Valuation.{Valuation}
use Rattle.marker_diagrams.specs.declared.node_id.NodeId.{NodeId}
use Rattle.marker_diagrams.specs.declared.node_id.TheConstants.NodeId.{TRUE}
use Rattle.marker_diagrams.specs.Id.{place_of, is_negated, signed, signed_id, same_id}
use Rattle.marker_diagrams.specs.Diagram.{node_of, IsHeld, IsStore, Keeps, IsAfter, IsChoice, AreChildren, truth}
use Rattle.marker_diagrams.proofs.IdLaws.{same_id_is, signed_id_undone}
use Rattle.marker_diagrams.proofs.NodeLaws.{none_some, same_some, truth_child, truth_signed, truth_still, after_still, after_before}
use Rattle.marker_nodes.specs.declared.variable.TruthVariable.{TruthVariable}
use Rattle.marker_nodes.specs.declared.node.Branches.TheVariants.{Truth}
use Rattle.marker_nodes.specs.Variable.{Variable, variable_cmp}
use Rattle.marker_nodes.specs.Branches.{variable, value_at as pick}
use Rattle.marker_nodes.specs.Node.{Node, markers, child_at, lowest}
use Rattle.marker_nodes.proofs.NodeLaws.{high_picked}
use Rattle.marker_nodes.proofs.VariableLaws.{variable_total}
use Rattle.marker_simplifications.specs.Extras.{AnswersBy, with_extras}
use Rattle.marker_simplifications.specs.Simplified.{AreGranted, AreKnown, AreUnder, Grants, HasChildren, IsGranted, IsUntouched, IsTouched}
use Rattle.marker_nodes.proofs.Descents.{held_kept}
use Rattle.marker_nodes.proofs.Descents.{end_means}

module _ (Answers : List ℕ → Bool → Type 0) where
  -- what is true stays true
  pub granted_kept : (old new : List Node) (a t : NodeId) → Keeps markers old new → IsHeld old a → IsGranted old Answers a t → IsGranted new Answers a t
  granted_kept old new a t h1 h2 h3 = grind arith

  pub known_kept : (old new : List Node) (known : List (NodeId × NodeId)) → Keeps markers old new → AreKnown old Answers known → AreKnown new Answers known
  known_kept old new known k w a t e = let h = w a t e in (held_kept old new a k h.0, granted_kept old new a t k h.0 h.1)

  -- one id more is known
  pub known_more : (nodes : List Node) (known more : List (NodeId × NodeId)) (a t : NodeId) → AreKnown nodes Answers known → IsHeld nodes a → IsGranted nodes Answers a t →
      ((q : NodeId) → lookup (same_id q) more ≡ cond (same_id a q) (Some t) (lookup (same_id q) known)) → AreKnown nodes Answers more
  known_more nodes known more a t w i h u b s e = by_test (same_id a b) refl (sym (u b) ∙ e)
    where
      by_test : (z : Bool) → same_id a b ≡ z → cond z (Some t) (lookup (same_id b) known) ≡ Some s → IsHeld nodes b × IsGranted nodes Answers b s
      by_test true p f = subst (λ x. IsHeld nodes x × IsGranted nodes Answers x s) (same_id_is a b p) (i, subst (IsGranted nodes Answers a) (same_some t s f) h)
      by_test false p f = w b s f

  -- under a sign
  pub granted_signed : (nodes : List Node) (s : Bool) (a t : NodeId) → IsGranted nodes Answers a t → IsGranted nodes Answers (signed_id s a) (signed_id s t)
  granted_signed nodes s a t h = record {
    held = h.held;
    means = λ granted fixed v. truth_signed markers nodes s t v ∙ ap (signed s) (h.means granted fixed v) ∙ sym (truth_signed markers nodes s a (with_extras granted v));
    after = h.after;
  }

  -- of an id, from that without its sign
  pub granted_under : (nodes : List Node) (id plain t u : NodeId) → plain ≡ signed_id (is_negated id) id → u ≡ signed_id (is_negated id) t → IsGranted nodes Answers plain t → IsGranted nodes Answers id u
  granted_under nodes id plain t u e f h =
      subst (IsGranted nodes Answers id) (sym f)
      (subst (λ x. IsGranted nodes Answers x (signed_id (is_negated id) t)) (ap (signed_id (is_negated id)) e ∙ signed_id_undone (is_negated id) id) (granted_signed nodes (is_negated id) plain t h))

  -- an id without a node is what it is
  pub granted_itself : (nodes : List Node) (t : NodeId) → IsHeld nodes t → None ≡ node_of nodes t → IsGranted nodes Answers t t
  granted_itself nodes t i e = record { held = i; means = λ granted fixed v. end_means nodes t v e ∙ sym (end_means nodes t (with_extras granted v) e); after = λ x h. h }

  pub nothing_known : (nodes : List Node) → AreKnown nodes Answers []
  nothing_known nodes a t e = none_some t e

  -- ---- whether the variable of a node is set to true

  high_answer : (x : TruthVariable) (high low : NodeId) (b : Bool) → Grants Answers x b → b ≡ true → (granted : List ℕ → Bool) → AnswersBy Answers granted → (v : Valuation) → pick (Truth x high low) (with_extras granted v) ≡ high
  high_answer x high low b h1 h2 granted h3 v = grind arith

  pub truth_touched : (n : Node) (x : TruthVariable) (high low : NodeId) → n ≡ Truth x high low → (b : Bool) → Grants Answers x b → b ≡ true → IsTouched Answers n high
  truth_touched n x high low is b h e = subst (λ m. IsTouched Answers m high) (sym is) (record { picks = high_answer x high low b h e; some = (lowest, high_picked x high low) })

-- ---- a node, whose id has no sign
module _ (old : List Node) (store : IsStore markers old) (t : NodeId) (held : IsHeld old t) (plain : is_negated t ≡ false) (x : Variable) (child : Valuation → NodeId) (has : HasChildren old t x child) where
  pub child_below : (v : Valuation) → place_of (child v) < place_of t
  child_below v = subst (λ s. place_of s < place_of t) (has.3 v) ((store.node (place_of t) has.0 has.1).below v)

  pub child_held : (v : Valuation) → IsHeld old (child v)
  child_held v = let h = child_below v in omega arith

  child_after : (v : Valuation) → IsAfter markers old x (child v)
  child_after v = subst (λ s. IsAfter markers old x s) (has.3 v) (subst (λ y. IsAfter markers old y (pick has.0 v)) has.2 ((store.node (place_of t) has.0 has.1).after v))

  -- children are below
  pub are_under : (ids given : List NodeId) → given ≡ ids → ((i : ℕ) (u : NodeId) → slice_get ids i ≡ Some u → (v : Valuation) × (child v ≡ u)) → AreUnder old t given
  are_under ids given h1 h2 = grind arith

  -- a variable that comes before those of the id
  before : (y : Variable) → IsAfter markers old y t → variable_cmp y x ≡ Less
  before y p = subst (λ z. variable_cmp y z ≡ Less) has.2 (p has.0 has.1)

  -- the id means what the child means that its node picks
  plain_means : (v : Valuation) → truth markers old t v ≡ truth markers old (child v) v
  plain_means v =
      truth_child markers old t has.0 v (λ j m e. (store.node j m e).below) has.1 ∙ truth_signed markers old (is_negated t) (pick has.0 v) v ∙ ap (λ s. signed s (truth markers old (pick has.0 v) v)) plain
      ∙ ap (λ c. truth markers old c v) (has.3 v)

  -- a node whose children stay the same with extras set true stays the same
  pub granted_unchanged : (Answers : List ℕ → Bool → Type 0) → ((v : Valuation) → IsGranted old Answers (child v) (child v)) → ((granted : List ℕ → Bool) → AnswersBy Answers granted → (v : Valuation) → child (with_extras granted v) ≡ child v) →
      IsGranted old Answers t t
  granted_unchanged Answers h1 h2 = grind (arith, plain_means)

  module _ (Answers : List ℕ → Bool → Type 0) (new : List Node) (k : Keeps markers old new) where
    -- for an extra that is set to true, the result of the child for true
    pub granted_high : (high : NodeId) → ((granted : List ℕ → Bool) → AnswersBy Answers granted → (v : Valuation) → child (with_extras granted v) ≡ high) → (w : Valuation) → child w ≡ high →
        (r : Result NodeId AllocError) → IfOk r (IsGranted new Answers high) → IfOk r (IsGranted new Answers t)
    granted_high high picks w is_high (Ok s) h = record {
      held = h.held;
      means = λ granted fixed v.
          let u = with_extras granted v in
          h.means granted fixed v ∙ truth_still markers old new high u k (subst (IsHeld old) is_high (child_held w)) ∙ ap (λ c. truth markers old c u) (sym (picks granted fixed v)) ∙ sym (plain_means u)
          ∙ sym (truth_still markers old new t u k held);
      after = λ y p. h.after y (after_still markers old new y high k (subst (IsHeld old) is_high (child_held w)) (λ m e.
          variable_total.trans y x (variable m) (before y (after_before markers old new y t k held p)) (subst (IsAfter markers old x) is_high (child_after w) m e)));
    }
    granted_high high picks w is_high (Err z) h = h

    module _ (made : Valuation → NodeId) (each : (v : Valuation) → IsGranted new Answers (child v) (made v)) where
      -- what was made of the children may be the children of a node
      pub granted_children : AreChildren markers new x made
      granted_children = grind (arith, after_still, child_held, child_after)

      -- and the choice among them is the id with extras set true
      pub granted_placed : (last : List Node) → Keeps markers new last → ((granted : List ℕ → Bool) → AnswersBy Answers granted → (v : Valuation) → child (with_extras granted v) ≡ child v) →
          (r : Result NodeId AllocError) → IfOk r (IsChoice markers last x made) → IfOk r (IsGranted last Answers t)
      granted_placed last h1 h2 r h3 = grind (arith, truth_still, child_held, plain_means, held_kept, before, after_before)

    -- the same if the children are listed, by an index
    module _ (ids given made : List NodeId) (given_is : given ≡ ids) (len : length made ≡ length given) (done : AreGranted new Answers given made) (index : Valuation → ℕ)
        (listed : (v : Valuation) → slice_get ids (index v) ≡ Some (child v)) where
      each_granted : (v : Valuation) → IsGranted new Answers (child v) (child_at made (index v))
      each_granted v =
          let here : slice_get given (index v) ≡ Some (child v) = ap (λ l. slice_get l (index v)) given_is ∙ listed v in
          let within : index v < length given = slice_get_within given (index v) (child v) here in
          done (index v) (child v) (child_at made (index v)) here (slice_get-get_or made (index v) TRUE (omega arith))

      pub listed_children : AreChildren markers new x (λ v. child_at made (index v))
      listed_children = granted_children (λ v. child_at made (index v)) each_granted

      pub listed_placed : (last : List Node) → Keeps markers new last → ((granted : List ℕ → Bool) → AnswersBy Answers granted → (v : Valuation) → child (with_extras granted v) ≡ child v) →
          (r : Result NodeId AllocError) → IfOk r (IsChoice markers last x (λ v. child_at made (index v))) → IfOk r (IsGranted last Answers t)
      listed_placed = granted_placed (λ v. child_at made (index v)) each_granted

-- ---- a clone of the id's node
module _ (old : List Node) (store : IsStore markers old) (t : NodeId) (held : IsHeld old t) (plain : is_negated t ≡ false) (n : Node) (stands : Some n ≡ node_of old t) where
  itself : HasChildren old t (variable n) (pick n)
  itself = (n, sym stands, refl, λ v. refl)

  pub touched_below : (Answers : List ℕ → Bool → Type 0) (child : NodeId) → IsTouched Answers n child → (place_of child < place_of t) × IsHeld old child
  touched_below Answers child h1 = grind arith

  pub touched_granted : (Answers : List ℕ → Bool → Type 0) (child : NodeId) → IsTouched Answers n child → (new : List Node) → Keeps markers old new → (r : Result NodeId AllocError) → IfOk r (IsGranted new Answers child) → IfOk r (IsGranted new Answers t)
  touched_granted Answers child k new keeps = granted_high old store t held plain (variable n) (pick n) itself Answers new keeps child k.picks k.some.0 k.some.1

  module _ (copy : Node) (cloned : (variable copy ≡ variable n) × ((v : Valuation) → pick copy v ≡ pick n v)) where
    pub has_clone : HasChildren old t (variable copy) (pick copy)
    has_clone = (n, sym stands, sym cloned.0, λ v. sym (cloned.1 v))

    pub clone_untouched : (Answers : List ℕ → Bool → Type 0) → IsUntouched Answers n → IsUntouched Answers copy
    clone_untouched Answers h granted fixed v = cloned.1 (with_extras granted v) ∙ h granted fixed v ∙ sym (cloned.1 v)
