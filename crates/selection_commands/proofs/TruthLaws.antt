-- What the subtrees that a target leads to say of an id's truth there.
use Rattle.std.proofs.Common.{◌≡◌, ℕ, zero, suc, ◌+◌, ◌<◌, ◌≤◌, Bool, true, false, cond, ◌||◌, List, [], ◌∷◌, ◌++◌, length, Option, Some, None, ◌⊎◌, inl, inr, refl, sym, ap, subst, ◌∙◌, arith, length-append}
use lib.Dec.{eqb}
use Rattle.std.specs.Prelude.{IfSome, slice_get}
use Rattle.std.specs.List.{list_any}
use Rattle.std.proofs.lemmas.Bool.{true≢false, eqb-true}
use Rattle.marker_environment.specs.Valuation.{Valuation}
use Rattle.marker_diagrams.specs.declared.node_id.NodeId.{NodeId}
use Rattle.marker_diagrams.specs.declared.node_id.TheConstants.NodeId.{TRUE, FALSE}
use Rattle.marker_diagrams.specs.Id.{is_negated, place_of, same_id}
use Rattle.marker_diagrams.specs.Diagram.{IsHeld, IsStore, node_of, truth}
use Rattle.marker_diagrams.proofs.IdLaws.{one_id, same_id_is, same_id_itself}
use Rattle.marker_diagrams.proofs.KeyLaws.{get_last}
use Rattle.marker_diagrams.proofs.NodeLaws.{none_some, same_some, terminal}
use Rattle.marker_graph.specs.Contents.{Contents}
use Rattle.marker_graph.specs.Contents.{truth as marker_truth}
use Rattle.marker_graph.specs.declared.tree.MarkerTree.{MarkerTree}
use Rattle.marker_nodes.specs.Node.{Node, markers}
use Rattle.marker_nodes.proofs.Firsts.{true_is, false_is}
use Rattle.marker_walks.specs.Subtrees.{Has, child_at}
use Rattle.selection_commands.specs.declared.target.Target.{Target}
use Rattle.selection_commands.specs.declared.truth.Truth.{Truth}
use Rattle.selection_commands.specs.declared.truth.Truth.TheVariants.{Yes, No, Open}
use Rattle.selection_commands.specs.Target.{Agrees}
use Rattle.selection_commands.specs.Truth.{IsAlways, IsTruth, MayBe, truth_of}
use Rattle.selection_commands.specs.Reached.{AreReached, IsSettled}
use Rattle.selection_commands.proofs.TargetLaws.{some_agrees}
use Rattle.selection_commands.proofs.ReachedLaws.{child_below, child_means}

-- what holds of a value if there is one
pub if_some : {T : Type 0} (o : Option T) (x : T) → o ≡ Some x → (P : T → Type 0) → IfSome o P → P x
if_some o x e P h = subst (λ p. IfSome p P) e h

-- without a node an id is true or false
constant : (nodes : List Node) (t : NodeId) → IsHeld nodes t → node_of nodes t ≡ None → (t ≡ TRUE) ⊎ (t ≡ FALSE)
constant nodes t h e = by_sign (is_negated t) refl
  where
    by_sign : (b : Bool) → is_negated t ≡ b → (t ≡ TRUE) ⊎ (t ≡ FALSE)
    by_sign false s = inl (one_id t TRUE (terminal nodes (place_of t) h e) s)
    by_sign true s = inr (one_id t FALSE (terminal nodes (place_of t) h e) s)

-- ---- whether the list has an id
found_by : (x y : NodeId) (ids : List NodeId) → list_any (same_id x) (y ∷ ids) ≡ true → (list_any (same_id x) ids ≡ true → Has ids x) → (b : Bool) → same_id x y ≡ b → Has (y ∷ ids) x
found_by x y ids e later true f = (0, ap Some (sym (same_id_is x y f)))
found_by x y ids e later false f = let p = later (sym (ap (λ b. b || list_any (same_id x) ids) f) ∙ e) in (suc p.0, p.1)

pub found_in : (x : NodeId) (ids : List NodeId) → list_any (same_id x) ids ≡ true → Has ids x
found_in x [] e = absurd (true≢false (sym e))
found_in x (y ∷ ids) e = found_by x y ids e (found_in x ids) (same_id x y) refl

missing_by : (x y : NodeId) (ids : List NodeId) → list_any (same_id x) (y ∷ ids) ≡ false → (b : Bool) → same_id x y ≡ b → (same_id x y ≡ false) × (list_any (same_id x) ids ≡ false)
missing_by x y ids e true f = absurd (true≢false (sym (ap (λ b. b || list_any (same_id x) ids) f) ∙ e))
missing_by x y ids e false f = (f, sym (ap (λ b. b || list_any (same_id x) ids) f) ∙ e)

pub missing_in : (x : NodeId) (ids : List NodeId) → list_any (same_id x) ids ≡ false → Has ids x → ⊥
missing_in x ids e h = at_index ids e h.0 h.1
  where
    at_index : (ys : List NodeId) → list_any (same_id x) ys ≡ false → (i : ℕ) → slice_get ys i ≡ Some x → ⊥
    at_index [] f i g = none_some x g
    at_index (y ∷ ys) f zero g = true≢false (sym (ap (same_id x) (same_some y x g) ∙ same_id_itself x) ∙ (missing_by x y ys f (same_id x y) refl).0)
    at_index (y ∷ ys) f (suc i) g = at_index ys (missing_by x y ys f (same_id x y) refl).1 i g

module _ (target : Target) (nodes : List Node) (store : IsStore markers nodes) (id : NodeId) (ids : List NodeId) (reached : AreReached target nodes id ids) where
  -- an id without a node that a valuation leads to
  pub record End (u : NodeId) (v : Valuation) : Type 0 where
    pub last : NodeId
    pub has : Has ids last
    pub none : node_of nodes last ≡ None
    pub means : truth markers nodes u v ≡ truth markers nodes last v

  -- a child that is reached leads to the end of its parent
  end_after : (u : NodeId) (v : Valuation) (n : Node) → node_of nodes u ≡ Some n → End (child_at n u v) v → End u v
  end_after u v n e r = record { last = r.last; has = r.has; none = r.none; means = child_means target nodes store u n v e ∙ r.means }

  end_by_node : (v : Valuation) → Agrees target v → (k : ℕ) (u : NodeId) → place_of u ≤ suc k → Has ids u → ((w : NodeId) → place_of w ≤ k → Has ids w → End w v) → (o : Option Node) → node_of nodes u ≡ o → End u v
  end_by_node v a k u l h further None e = record { last = u; has = h; none = e; means = refl }
  end_by_node v a k u l h further (Some n) e =
      let b : place_of (child_at n u v) < place_of u = child_below target nodes store u n v e in
      end_after u v n e (further (child_at n u v) (omega arith) (reached.closed h.0 u n v h.1 e a))

  end_first : (v : Valuation) (u : NodeId) → place_of u ≤ 0 → Has ids u → (o : Option Node) → node_of nodes u ≡ o → End u v
  end_first v u l h None e = record { last = u; has = h; none = e; means = refl }
  end_first v u l h (Some n) e = let b : place_of (child_at n u v) < place_of u = child_below target nodes store u n v e in absurd (omega arith)

  end_below : (v : Valuation) → Agrees target v → (k : ℕ) (u : NodeId) → place_of u ≤ k → Has ids u → End u v
  end_below v a zero u l h = end_first v u l h (node_of nodes u) refl
  end_below v a (suc k) u l h = end_by_node v a k u l h (end_below v a k) (node_of nodes u) refl

  -- if the truth is reached, the id may be true, and otherwise it never is
  may_hold : Has ids TRUE → MayBe target (truth markers nodes id) true
  may_hold h = let s = some_agrees target in reached.leads h.0 TRUE true h.1 (s.0, s.1, true_is nodes s.0)

  may_fail : Has ids FALSE → MayBe target (truth markers nodes id) false
  may_fail h = let s = some_agrees target in reached.leads h.0 FALSE false h.1 (s.0, s.1, false_is nodes s.0)

  ended : (v : Valuation) → Agrees target v → End id v
  ended v a = end_below v a (place_of id) id (omega arith) reached.first

  never : (Has ids TRUE → ⊥) → IsAlways target (truth markers nodes id) false
  never out v a =
      let r = ended v a in
      elim (constant nodes r.last (reached.held r.has.0 r.last r.has.1) r.none) [
        | inl e ↦ absurd (out (let P : NodeId → Type 0 = λ x. Has ids x in subst P e r.has))
        | inr e ↦ r.means ∙ ap (λ x. truth markers nodes x v) e ∙ false_is nodes v
      ]

  always : (Has ids FALSE → ⊥) → IsAlways target (truth markers nodes id) true
  always out v a =
      let r = ended v a in
      elim (constant nodes r.last (reached.held r.has.0 r.last r.has.1) r.none) [
        | inl e ↦ r.means ∙ ap (λ x. truth markers nodes x v) e ∙ true_is nodes v
        | inr e ↦ absurd (out (let P : NodeId → Type 0 = λ x. Has ids x in subst P e r.has))
      ]

  told : (b c : Bool) → list_any (same_id TRUE) ids ≡ b → list_any (same_id FALSE) ids ≡ c → IsTruth target (truth markers nodes id) (truth_of b c)
  told true true e f = (may_hold (found_in TRUE ids e), may_fail (found_in FALSE ids f))
  told true false e f = (may_hold (found_in TRUE ids e), always (missing_in FALSE ids f))
  told false c e g =
      let s = some_agrees target in
      let f = never (missing_in TRUE ids e) in
      ((s.0, s.1, f s.0 s.1), f)

-- the same truth in the target is the same there
moved : (target : Target) (f g : Valuation → Bool) → ((v : Valuation) → Agrees target v → f v ≡ g v) → (t : Truth) → IsTruth target g t → IsTruth target f t
moved target f g same Yes h = ((h.0.0, h.0.1, same h.0.0 h.0.1 ∙ h.0.2), λ v a. same v a ∙ h.1 v a)
moved target f g same No h = ((h.0.0, h.0.1, same h.0.0 h.0.1 ∙ h.0.2), λ v a. same v a ∙ h.1 v a)
moved target f g same Open h = ((h.0.0, h.0.1, same h.0.0 h.0.1 ∙ h.0.2), (h.1.0, h.1.1, same h.1.0 h.1.1 ∙ h.1.2))

-- the truth of an id by the subtrees of one that has the same truth in the target
pub tells : (target : Target) (nodes : List Node) (id settled : NodeId) (ids : List NodeId) (b c : Bool) (t : Truth) → IsStore markers nodes → IsSettled target nodes id settled → AreReached target nodes settled ids →
    list_any (same_id TRUE) ids ≡ b → list_any (same_id FALSE) ids ≡ c → t ≡ truth_of b c → IsTruth target (truth markers nodes id) t
tells target nodes id settled ids b c t store is reached e f t_is =
    subst (IsTruth target (truth markers nodes id)) (sym t_is)
    (moved target (truth markers nodes id) (truth markers nodes settled) is.same (truth_of b c) (told target nodes store settled ids reached b c e f))

-- the same for a marker of an interner
pub tells_in : (target : Target) (c : Contents) (marker : MarkerTree) (nodes : List Node) (id settled : NodeId) (ids : List NodeId) (b z : Bool) (t : Truth) → nodes ≡ c.nodes → id ≡ marker.id → IsStore markers c.nodes →
    IsSettled target nodes id settled → AreReached target nodes settled ids → list_any (same_id TRUE) ids ≡ b → list_any (same_id FALSE) ids ≡ z → t ≡ truth_of b z → IsTruth target (marker_truth c marker) t
tells_in target c marker nodes id settled ids b z t same id_is store is reached e f t_is =
    let there : IsStore markers nodes = subst (IsStore markers) (sym same) store in
    let P : List Node → Type 0 = λ n. IsTruth target (truth markers n marker.id) t in
    let Q : NodeId → Type 0 = λ x. IsTruth target (truth markers nodes x) t in
    subst P same (subst Q id_is (tells target nodes id settled ids b z t there is reached e f t_is))

-- ---- a row of truths
-- what the truth is in the first of several targets
pub record Rows (f : Valuation → Bool) (targets : List Target) (index : ℕ) (truths : List Truth) : Type 0 where
  pub one_each : length truths ≡ index
  pub each : (i : ℕ) (target : Target) (t : Truth) → slice_get targets i ≡ Some target → slice_get truths i ≡ Some t → IsTruth target f t

pub rows_none : (f : Valuation → Bool) (targets : List Target) (truths : List Truth) → truths ≡ [] → Rows f targets 0 truths
rows_none f targets truths e = record {
  one_each = ap length e;
  each = λ i target t g h. none_some t (sym (ap (λ ts. slice_get ts i) e) ∙ h);
}

pub rows_more : (f : Valuation → Bool) (targets : List Target) (index : ℕ) (old new : List Truth) (target : Target) (t : Truth) → slice_get targets index ≡ Some target →
    IsTruth target f t → new ≡ old ++ t ∷ [] → Rows f targets index old → Rows f targets (index + 1) new
rows_more f targets index old new target t here is made w = record {
  one_each = ap length made ∙ length-append old (t ∷ []) ∙ ap (λ n. n + 1) w.one_each;
  each = λ i other u g h. by_test i other u g (sym (get_last old t i) ∙ ap (λ ts. slice_get ts i) (sym made) ∙ h) (eqb i (length old)) refl;
}
  where
    by_test : (i : ℕ) (other : Target) (u : Truth) → slice_get targets i ≡ Some other → cond (eqb i (length old)) (Some t) (slice_get old i) ≡ Some u → (b : Bool) → eqb i (length old) ≡ b → IsTruth other f u
    by_test i other u g h true e =
        let at_end : i ≡ index = eqb-true i (length old) e ∙ w.one_each in
        let same : target ≡ other = same_some target other (sym here ∙ ap (slice_get targets) (sym at_end) ∙ g) in
        let one : t ≡ u = same_some t u (sym (ap (λ b. cond b (Some t) (slice_get old i)) e) ∙ h) in
        let P : Target → Type 0 = λ x. IsTruth x f u in subst P same (subst (IsTruth target f) one is)
    by_test i other u g h false e = w.each i other u g (sym (ap (λ b. cond b (Some t) (slice_get old i)) e) ∙ h)
