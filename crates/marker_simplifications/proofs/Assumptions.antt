-- Ids given that the Python version is in a range.
use Rattle.std.proofs.Common.{◌≡◌, ℕ, ◌<◌, Bool, true, false, cond, List, [], ◌∷◌, ◌++◌, length, get_or, Some, refl, sym, ap, ◌∙◌, subst, arith}
use Rattle.std.specs.Map.{lookup}
use lib.Dec.{eqb}
use Rattle.std.specs.Prelude.{slice_get}
use Rattle.std.specs.Ordering.{is_eq, eq_by_cmp}
use Rattle.std.specs.declared.cmp.Ordering.TheVariants.{Less}
use Rattle.std.specs.declared.ops.Bound.{Bound}
use Rattle.std.proofs.lemmas.Bool.{eqb-true}
use Rattle.std.proofs.lemmas.Option.{slice_get-get_or, slice_get_within}
use Rattle.version_ranges.specs.declared.cuts.Cuts.{Cuts}
use Rattle.version_ranges.specs.Point.{Point}
use Rattle.version_ranges.specs.Cuts.{value_of, piece_of}
use Rattle.version_ranges.specs.Clamp.{IsBetween, IsClamped}
use Rattle.pep440_version.specs.Parts.{Parts}
use Rattle.pep440_version.specs.Order.{version_cmp}
use Rattle.marker_words.specs.declared.key.VersionVariable.TheVariants.{ImplementationVersion, PythonFullVersion}
use Rattle.marker_environment.specs.Valuation.{Valuation}
use Rattle.marker_diagrams.specs.declared.node_id.NodeId.{NodeId}
use Rattle.marker_diagrams.specs.declared.node_id.TheConstants.NodeId.{TRUE}
use Rattle.marker_diagrams.specs.Id.{place_of, is_negated, signed, signed_id, same_id}
use Rattle.marker_diagrams.proofs.IdLaws.{same_id_is}
use Rattle.marker_diagrams.specs.Diagram.{node_of, IsHeld, IsStore, Keeps, IsAfter, IsChoice, AreChildren, truth, with_variable}
use Rattle.marker_diagrams.proofs.KeyLaws.{get_last}
use Rattle.marker_diagrams.proofs.NodeLaws.{same_some, none_some, truth_child, truth_signed, truth_still, after_still, after_before}
use Rattle.marker_diagrams.proofs.Canonicity.{unseen}
use Rattle.marker_nodes.specs.declared.node.Branches.TheVariants.{Version}
use Rattle.marker_nodes.specs.Variable.{Variable, of_version, variable_cmp}
use Rattle.marker_nodes.specs.Branches.{variable, value_at as pick}
use Rattle.marker_nodes.specs.Node.{Node, markers, child_at}
use Rattle.marker_nodes.proofs.NodeLaws.{lawful, at_version}
use Rattle.marker_nodes.specs.Python.{python_of, with_python}
use Rattle.marker_simplifications.specs.Python.{Assumes}
use Rattle.marker_simplifications.specs.Simplified.{AreAssumed, AreFound, AreLater, IsAfterImplementation, IsAssumed}
use Rattle.marker_nodes.proofs.Descents.{held_kept}
use Rattle.marker_simplifications.proofs.RangeLaws.{assumes_same, assumes_signed, assumes_unseen, assumes_by, assumes_clamped, clamped_from}

abbrev python : Variable
python = of_version PythonFullVersion

-- the children of a node by the values of a version variable
abbrev Edges : Type 0
Edges = Cuts Parts NodeId (record { cmp = version_cmp }) (record { eq = eq_by_cmp version_cmp }) (record { partial_cmp = λ a b. Some (version_cmp a b) })

-- the valuation with a Python version is one in which only that variable has another value
with_python_is : (p : Point Parts) (v : Valuation) → with_variable markers python (at_version p) v ≡ with_python p v
with_python_is p v = grind arith

-- a node after the implementation's version that does not branch on the Python version branches on
-- a later variable
pub later_python : (n : Node) → variable_cmp (of_version ImplementationVersion) (variable n) ≡ Less → is_eq (variable_cmp python (variable n)) ≡ false → variable_cmp python (variable n) ≡ Less
later_python n h1 h2 = grind arith

-- no variable comes before the implementation's version
pub later_first : (n : Node) → is_eq (variable_cmp (of_version ImplementationVersion) (variable n)) ≡ false → variable_cmp (of_version ImplementationVersion) (variable n) ≡ Less
later_first n h1 = grind arith

-- what is true stays true
pub assumed_kept : (old new : List Node) (lower upper : Bound Parts) (a t : NodeId) → Keeps markers old new → IsHeld old a → IsAssumed old lower upper a t → IsAssumed new lower upper a t
assumed_kept old new lower upper a t k i h = record {
  held = let l = k.longer in let g = h.held in omega arith;
  means = assumes_same lower upper (truth markers old a) (truth markers new a) (truth markers old t) (truth markers new t) (λ v. truth_still markers old new a v k i) (λ v. truth_still markers old new t v k h.held) h.means;
  after = λ x p. after_still markers old new x t k h.held (h.after x (after_before markers old new x a k i p));
}

module _ (nodes : List Node) (store : IsStore markers nodes) (lower upper : Bound Parts) (p : Point Parts) (i : IsBetween version_cmp lower upper p) (t : NodeId) (held : IsHeld nodes t) where
  -- an id after the Python version does not see it
  python_unseen : (u : NodeId) → IsAfter markers nodes python u → (q : Point Parts) (v : Valuation) → truth markers nodes u (with_python q v) ≡ truth markers nodes u v
  python_unseen u h q v = ap (truth markers nodes u) (sym (with_python_is q v)) ∙ unseen markers lawful nodes store u python (at_version q) v h

  pub assumed_itself : IsAfter markers nodes python t → IsAssumed nodes lower upper t t
  assumed_itself h = record { held = held; means = assumes_unseen lower upper p i (truth markers nodes t) (python_unseen t h); after = λ x g. g }

  -- ---- a node on the Python version
  module _ (edges new : Edges) (stands : node_of nodes t ≡ Some (Version PythonFullVersion edges))
      (clamped : IsClamped version_cmp lower upper same_id (value_of version_cmp edges) (value_of version_cmp new)) where
    old_held : (q : Point Parts) → IsHeld nodes (value_of version_cmp edges q)
    old_held q = let h : place_of (value_of version_cmp edges q) < place_of t = (store.node (place_of t) (Version PythonFullVersion edges) stands).below (at_version q) in omega arith

    old_after : (q : Point Parts) → IsAfter markers nodes python (value_of version_cmp edges q)
    old_after q = (store.node (place_of t) (Version PythonFullVersion edges) stands).after (at_version q)

    pub clamped_children : AreChildren markers nodes python (pick (Version PythonFullVersion new))
    clamped_children = record {
      held = λ v. let r = clamped_from lower upper p i (value_of version_cmp edges) (value_of version_cmp new) clamped (python_of v) in subst (IsHeld nodes) (sym r.1) (old_held r.0);
      after = λ v. let r = clamped_from lower upper p i (value_of version_cmp edges) (value_of version_cmp new) clamped (python_of v) in subst (IsAfter markers nodes python) (sym r.1) (old_after r.0);
    }

    -- the truth of a child, under the sign of the id
    under : NodeId → Valuation → Bool
    under c v = truth markers nodes (signed_id (is_negated t) c) v

    pub clamped_is : (last : List Node) → Keeps markers nodes last → (s : NodeId) → IsChoice markers last python (pick (Version PythonFullVersion new)) s → IsAssumed last lower upper t (signed_id (is_negated t) s)
    unfolding under
    clamped_is last k s choice = record {
      held = choice.held;
      means = assumes_same lower upper (λ v. under (value_of version_cmp edges (python_of v)) v) (truth markers last t) (λ v. under (value_of version_cmp new (python_of v)) v) (truth markers last (signed_id (is_negated t) s))
          (λ v. truth_still markers nodes last t v k held ∙ truth_child markers nodes t (Version PythonFullVersion edges) v (λ j m e. (store.node j m e).below) stands)
          (λ v.
          truth_signed markers last (is_negated t) s v ∙ ap (signed (is_negated t)) (choice.means v ∙ truth_still markers nodes last (value_of version_cmp new (python_of v)) v k (clamped_children.held v))
          ∙ sym (truth_signed markers nodes (is_negated t) (value_of version_cmp new (python_of v)) v))
          (assumes_clamped lower upper p i (value_of version_cmp edges) (value_of version_cmp new) clamped under (λ q r v. python_unseen (signed_id (is_negated t) (value_of version_cmp edges q)) (old_after q) r v));
      after = λ x h. choice.after x (after_before markers nodes last x t k held h (Version PythonFullVersion edges) stands);
    }

  -- ---- a node on the implementation's version
  module _ (edges : Edges) (stands : node_of nodes t ≡ Some (Version ImplementationVersion edges)) where
    child_held : (q : Point Parts) → IsHeld nodes (value_of version_cmp edges q)
    child_held q = let h : place_of (value_of version_cmp edges q) < place_of t = (store.node (place_of t) (Version ImplementationVersion edges) stands).below (at_version q) in omega arith

    child_after : (q : Point Parts) → IsAfter markers nodes (of_version ImplementationVersion) (value_of version_cmp edges q)
    child_after q = (store.node (place_of t) (Version ImplementationVersion edges) stands).after (at_version q)

    module _ (mid : List Node) (k : Keeps markers nodes mid) (made : Point Parts → NodeId) (each : (q : Point Parts) → IsAssumed mid lower upper (value_of version_cmp edges q) (made q)) where
      pub made_children : AreChildren markers mid (of_version ImplementationVersion) (λ v. made (v.version ImplementationVersion))
      made_children = record {
        held = λ v. (each (v.version ImplementationVersion)).held;
        after = λ v.
            let q = v.version ImplementationVersion in
            (each q).after (of_version ImplementationVersion) (after_still markers nodes mid (of_version ImplementationVersion) (value_of version_cmp edges q) k (child_held q) (child_after q));
      }

      -- a child and what was made of it, under the sign of the id
      abbrev old_truth : Point Parts → Valuation → Bool
      old_truth q v = truth markers mid (signed_id (is_negated t) (value_of version_cmp edges q)) v

      abbrev new_truth : Point Parts → Valuation → Bool
      new_truth q v = truth markers mid (signed_id (is_negated t) (made q)) v

      each_signed : (q : Point Parts) → Assumes lower upper (old_truth q) (new_truth q)
      each_signed q =
          assumes_same lower upper (λ v. signed (is_negated t) (truth markers mid (value_of version_cmp edges q) v)) (old_truth q) (λ v. signed (is_negated t) (truth markers mid (made q) v)) (new_truth q)
          (λ v. truth_signed markers mid (is_negated t) (value_of version_cmp edges q) v) (λ v. truth_signed markers mid (is_negated t) (made q) v)
          (assumes_signed lower upper p i (is_negated t) (truth markers mid (value_of version_cmp edges q)) (truth markers mid (made q)) ((each q).means))

      pub made_is : (last : List Node) → Keeps markers mid last → (s : NodeId) → IsChoice markers last (of_version ImplementationVersion) (λ v. made (v.version ImplementationVersion)) s → IsAssumed last lower upper t (signed_id (is_negated t) s)
      made_is last l s choice = record {
        held = choice.held;
        means = assumes_same lower upper (λ v. old_truth (v.version ImplementationVersion) v) (truth markers last t) (λ v. new_truth (v.version ImplementationVersion) v) (truth markers last (signed_id (is_negated t) s))
            (λ v.
            let q = v.version ImplementationVersion in
            truth_still markers mid last t v l (held_kept nodes mid t k held) ∙ truth_still markers nodes mid t v k held
            ∙ truth_child markers nodes t (Version ImplementationVersion edges) v (λ j m e. (store.node j m e).below) stands
            ∙ sym (truth_still markers nodes mid (signed_id (is_negated t) (value_of version_cmp edges q)) v k (child_held q)))
            (λ v.
            let q = v.version ImplementationVersion in
            truth_signed markers last (is_negated t) s v ∙ ap (signed (is_negated t)) (choice.means v ∙ truth_still markers mid last (made q) v l ((each q).held))
            ∙ sym (truth_signed markers mid (is_negated t) (made q) v))
            (assumes_by lower upper p i old_truth new_truth each_signed);
        after = λ x h. choice.after x (after_before markers nodes mid x t k held (after_before markers mid last x t l (held_kept nodes mid t k held) h) (Version ImplementationVersion edges) stands);
      }

-- the element of a list at the piece of a point, if the children of the pieces are listed
pub made_at : {g1 : _} {h1 : _} {i1 : _} {g2 : _} {h2 : _} {i2 : _} (mid : List Node) (lower upper : Bound Parts) (edges : Cuts Parts NodeId g1 h1 i1) (copy : Cuts Parts NodeId g2 h2 i2) (children made : List NodeId) →
    ((q : Point Parts) → same_id (value_of version_cmp edges q) (value_of version_cmp copy q) ≡ true) → ((q : Point Parts) → slice_get children (piece_of version_cmp copy q) ≡ Some (value_of version_cmp copy q)) →
    length made ≡ length children → AreAssumed mid lower upper children made → (q : Point Parts) → IsAssumed mid lower upper (value_of version_cmp edges q) (child_at made (piece_of version_cmp copy q))
made_at mid lower upper edges copy children made same listed len are q =
    let j = piece_of version_cmp copy q in
    let within : j < length children = slice_get_within children j (value_of version_cmp copy q) (listed q) in
    subst (λ a. IsAssumed mid lower upper a (child_at made j)) (sym (same_id_is (value_of version_cmp edges q) (value_of version_cmp copy q) (same q)))
    (are j (value_of version_cmp copy q) (child_at made j) (listed q) (slice_get-get_or made j TRUE (omega arith)))

-- the children of a node on the implementation's version, as they are listed
pub children_later : {a : _} {b : _} {c : _} (nodes : List Node) (store : IsStore markers nodes) (t : NodeId) (held : IsHeld nodes t) (edges : Edges) (copy : Cuts Parts NodeId a b c) →
    node_of nodes t ≡ Some (Version ImplementationVersion edges) → ((q : Point Parts) → same_id (value_of version_cmp edges q) (value_of version_cmp copy q) ≡ true) → (children given : List NodeId) → given ≡ children →
    ((j : ℕ) (w : NodeId) → slice_get children j ≡ Some w → (q : Point Parts) × (value_of version_cmp copy q ≡ w)) → AreLater nodes (of_version ImplementationVersion) given
children_later nodes store t held edges copy stands same children given e found j u f =
    let q = found j u (ap (λ l. slice_get l j) (sym e) ∙ f) in
    let is : value_of version_cmp edges q.0 ≡ u = same_id_is (value_of version_cmp edges q.0) (value_of version_cmp copy q.0) (same q.0) ∙ q.1 in
    let n = store.node (place_of t) (Version ImplementationVersion edges) stands in
    let below : place_of (value_of version_cmp edges q.0) < place_of t = n.below (at_version q.0) in
    let stays : IsHeld nodes (value_of version_cmp edges q.0) = omega arith in
    (subst (IsHeld nodes) is stays, subst (IsAfter markers nodes (of_version ImplementationVersion)) is (n.after (at_version q.0)))

-- ---- one id after another
module _ (lower upper : Bound Parts) where
  pub found_none : (nodes : List Node) (found : List (NodeId × NodeId)) → found ≡ [] → AreFound nodes lower upper found
  found_none nodes found none a t e = none_some t (sym (ap (lookup (same_id a)) none) ∙ e)

  pub assumed_none : (nodes : List Node) (ids made : List NodeId) → made ≡ [] → AreAssumed nodes lower upper ids made
  assumed_none nodes ids made none i a t e h = none_some t (sym (ap (λ l. slice_get l i) none) ∙ h)

  pub found_kept : (old new : List Node) (found : List (NodeId × NodeId)) → Keeps markers old new → AreFound old lower upper found → AreFound new lower upper found
  found_kept old new found k w a t e = let h = w a t e in (held_kept old new a k h.0, assumed_kept old new lower upper a t k h.0 h.1)

  pub found_more : (nodes : List Node) (found more : List (NodeId × NodeId)) (a t : NodeId) → AreFound nodes lower upper found → IsHeld nodes a → IsAssumed nodes lower upper a t →
      ((q : NodeId) → lookup (same_id q) more ≡ cond (same_id a q) (Some t) (lookup (same_id q) found)) → AreFound nodes lower upper more
  found_more nodes found more a t w i h u b s e = by_test (same_id a b) refl (sym (u b) ∙ e)
    where
      by_test : (z : Bool) → same_id a b ≡ z → cond z (Some t) (lookup (same_id b) found) ≡ Some s → IsHeld nodes b × IsAssumed nodes lower upper b s
      by_test true f g = subst (λ x. IsHeld nodes x × IsAssumed nodes lower upper x s) (same_id_is a b f) (i, subst (IsAssumed nodes lower upper a) (same_some t s g) h)
      by_test false f g = w b s g

  pub assumed_more : (old new : List Node) (ids : List NodeId) (j : ℕ) (a t : NodeId) (made more : List NodeId) → Keeps markers old new → ((k : ℕ) (b : NodeId) → slice_get ids k ≡ Some b → IsHeld old b) → length made ≡ j →
      slice_get ids j ≡ Some a → AreAssumed old lower upper ids made → IsAssumed new lower upper a t → more ≡ made ++ t ∷ [] → AreAssumed new lower upper ids more
  assumed_more old new ids j a t made more keeps held len at_j done last more_is k b s e h =
      by_test (eqb k (length made)) refl (sym (get_last made t k) ∙ ap (λ xs. slice_get xs k) (sym more_is) ∙ h)
    where
      by_test : (z : Bool) → eqb k (length made) ≡ z → cond z (Some t) (slice_get made k) ≡ Some s → IsAssumed new lower upper b s
      by_test true u w =
          let same : a ≡ b = same_some a b (sym at_j ∙ ap (slice_get ids) (sym (eqb-true k (length made) u ∙ len)) ∙ e) in
          subst (IsAssumed new lower upper b) (same_some t s w) (subst (λ x. IsAssumed new lower upper x t) same last)
      by_test false u w = assumed_kept old new lower upper b s keeps (held k b e) (done k b s e w)

-- ---- the children of an id one after another
module _ (first now : List Node) (lower upper : Bound Parts) (ids : List NodeId) (later : AreLater first (of_version ImplementationVersion) ids) (k : Keeps markers first now) (i : ℕ) (within : i < length ids) (d : NodeId) where
  next_later : IsAfterImplementation first (get_or ids i d)
  next_later = later i (get_or ids i d) (slice_get-get_or ids i d within)

  pub next_after : IsAfterImplementation now (get_or ids i d)
  next_after = (held_kept first now (get_or ids i d) k next_later.0, after_still markers first now (of_version ImplementationVersion) (get_or ids i d) k next_later.0 next_later.1)

  pub next_assumed : (new : List Node) (t : NodeId) (made more : List NodeId) → Keeps markers now new → length made ≡ i → AreAssumed now lower upper ids made → IsAssumed new lower upper (get_or ids i d) t → more ≡ made ++ t ∷ [] → AreAssumed new lower upper ids more
  next_assumed new t made more keeps len done last more_is =
      assumed_more lower upper now new ids i (get_or ids i d) t made more keeps (λ n b e. held_kept first now b k ((later n b e).0)) len (slice_get-get_or ids i d within) done last more_is
