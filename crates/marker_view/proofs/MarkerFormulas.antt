-- A readable marker means a formula of plain comparisons: at each node the formula says between
-- which cuts its variable is, and what the child there means.
use Rattle.std.proofs.Common.{◌≡◌, ◌&&◌, ◌||◌, not, ℕ, zero, suc, ◌<◌, Bool, true, false, List, [], ◌∷◌, Option, Some, None, cond, refl, sym, ap, ◌∙◌, subst, arith, string_bytes}
use Rattle.std.specs.Cmp.{IsTotalOrder}
use Rattle.std.specs.Cmp.Lexicographic.{nat_list_cmp_total}
use Rattle.std.specs.String.{string_cmp}
use Rattle.std.specs.Global.{Global}
use Rattle.std.specs.List.{AllByRecursion, list_all}
use Rattle.std.specs.Ordering.{is_ge, is_gt, is_le, is_lt}
use Rattle.std.specs.declared.cmp.Ordering.{Ordering}
use Rattle.std.specs.declared.cmp.Ordering.TheVariants.{Equal}
use Rattle.std.specs.declared.string.String.{String}
use Rattle.std.proofs.lemmas.Bool.{and_parts}
use Rattle.version_ranges.specs.declared.cut.Cut.{Cut}
use Rattle.version_ranges.specs.Cut.{cut_point}
use Rattle.version_ranges.specs.Point.{Point, bottom, at, above, point_cmp, point_lt}
use Rattle.version_ranges.specs.Steps.{value_at}
use Rattle.pep440_version.specs.Order.{version_cmp}
use Rattle.pep440_version.specs.OrderLaws.{version_total}
use Rattle.pep440_version.specs.Parts.{Parts, release_only}
use Rattle.pep440_specifier.specs.declared.operator.Operator.{Operator}
use Rattle.pep440_specifier.specs.declared.operator.Operator.TheVariants as operators
use Rattle.pep440_rs.specs.Bounds.{IsRelease, is_release}
use Rattle.pep440_rs.specs.Intervals.{is_in}
use Rattle.pep440_rs.proofs.Equals.{release-means}
use Rattle.marker_words.specs.declared.key.MarkerValueVersion.TheVariants as version_keys
use Rattle.marker_words.specs.declared.key.TextVariable.{TextVariable}
use Rattle.marker_words.specs.declared.key.TextVariable.TheVariants as texts
use Rattle.marker_words.specs.declared.key.VersionVariable.{VersionVariable}
use Rattle.marker_words.specs.declared.key.VersionVariable.TheVariants as versions
use Rattle.marker_words.specs.declared.operator.MarkerOperator.{MarkerOperator}
use Rattle.marker_words.specs.declared.operator.MarkerOperator.TheVariants as text_operators
use Rattle.marker_words.specs.declared.operator.ExtraOperator.TheVariants as extra_operators
use Rattle.marker_words.specs.Compare.{text_cmp}
use Rattle.marker_words.specs.Key.{variable_of}
use Rattle.marker_environment.specs.Valuation.{Valuation}
use Rattle.marker_parts.specs.Expression.{Test, Extra, version, text, extra, name, arbitrary, holds}
use Rattle.marker_terms.specs.Plain.{is_plain}
use Rattle.marker_grammar.specs.Formula.{test, both, either, truth_of}
use Rattle.marker_diagrams.specs.declared.node_id.NodeId.{NodeId}
use Rattle.marker_diagrams.specs.Diagram.{IsHeld, IsStore, node_of, truth}
use Rattle.marker_diagrams.specs.Id.{is_negated, place_of, signed, signed_id}
use Rattle.marker_diagrams.specs.Residue as residue
use Rattle.marker_diagrams.proofs.Canonicity.{descends}
use Rattle.marker_diagrams.proofs.NodeLaws.{truth_child, truth_free}
use Rattle.marker_diagrams.proofs.ResidueLaws.{subtree_both}
use Rattle.marker_nodes.specs.declared.node.Branches.TheVariants.{Version, Text, Truth}
use Rattle.marker_nodes.specs.declared.variable.TruthVariable.{TruthVariable}
use Rattle.marker_nodes.specs.declared.variable.TruthVariable.TheVariants as questions
use Rattle.marker_nodes.specs.Branches.{value_at as child_of}
use Rattle.marker_nodes.specs.Node.{Node, lowest, markers}
use Rattle.marker_nodes.specs.Variable.{answer}
use Rattle.marker_nodes.proofs.NodeLaws.{denied, high_picked, lawful, low_picked}
use Rattle.marker_graph.specs.Kind.{modern_key}
use Rattle.marker_view.specs.Readable.{IsPlainNode, IsPlainTest, IsReadableTruth}
use Rattle.marker_view.proofs.Ascents.{ascend}
use Rattle.marker_view.proofs.CutLaws.{Ascends, no_back, not_itself, stays}
use Rattle.marker_view.proofs.NodeLaws.{everywhere}
use Rattle.marker_view.proofs.TextLaws.{all_texts}

-- ---- formulas of plain comparisons, by what they mean

same : (f g : Valuation → Bool) → ((v : Valuation) → f v ≡ g v) → IsReadableTruth g → IsReadableTruth f
same f g e r = (r.0, r.1, λ v. e v ∙ r.2 v)

of_test : (t : Test) → IsPlainTest t → IsReadableTruth (λ v. holds t v)
of_test t plain = (test t, plain, λ v. refl)

of_both : (f g : Valuation → Bool) → IsReadableTruth f → IsReadableTruth g → IsReadableTruth (λ v. f v && g v)
of_both f g r s = (both r.0 s.0, (r.1, s.1), λ v. ap (λ b. b && g v) (r.2 v) ∙ ap (λ b. truth_of r.0 v && b) (s.2 v))

of_either : (f g : Valuation → Bool) → IsReadableTruth f → IsReadableTruth g → IsReadableTruth (λ v. f v || g v)
of_either f g r s = (either r.0 s.0, (r.1, s.1), λ v. ap (λ b. b || g v) (r.2 v) ∙ ap (λ b. truth_of r.0 v || b) (s.2 v))

or_false : (b : Bool) → (b || false) ≡ b
or_false b = grind arith

and_true : (b : Bool) → (b && true) ≡ b
and_true b = grind arith

by_cases : (b x y : Bool) → cond b x y ≡ ((not b && y) || (b && x))
by_cases b x y = grind arith

-- one truth or another, by a third one
of_choice : (b f g : Valuation → Bool) → IsReadableTruth b → IsReadableTruth (λ v. not (b v)) → IsReadableTruth f → IsReadableTruth g → IsReadableTruth (λ v. cond (b v) (f v) (g v))
of_choice b f g r s high low =
    same (λ v. cond (b v) (f v) (g v)) (λ v. (not (b v) && g v) || (b v && f v)) (λ v. by_cases (b v) (f v) (g v))
    (of_either (λ v. not (b v) && g v) (λ v. b v && f v) (of_both (λ v. not (b v)) g s low) (of_both b f r high))

an_extra : Extra
an_extra = name (97 ∷ [])

asks : Valuation → Bool
asks v = holds (extra extra_operators.Equal an_extra) v

or_not : (b : Bool) → (b || not b) ≡ true
or_not b = grind arith

and_not : (b : Bool) → (b && not b) ≡ false
and_not b = grind arith

-- what is the same everywhere
of_constant : (b : Bool) (f : Valuation → Bool) → ((v : Valuation) → f v ≡ b) → IsReadableTruth f
unfolding an_extra
of_constant true f e =
    let one : (v : Valuation) → Bool = λ v. holds (extra extra_operators.Equal an_extra) v in
    let other : (v : Valuation) → Bool = λ v. holds (extra extra_operators.NotEqual an_extra) v in
    same f (λ v. one v || other v) (λ v. e v ∙ sym (or_not (one v))) (of_either one other (of_test (extra extra_operators.Equal an_extra) tt) (of_test (extra extra_operators.NotEqual an_extra) tt))
of_constant false f e =
    let one : (v : Valuation) → Bool = λ v. holds (extra extra_operators.Equal an_extra) v in
    let other : (v : Valuation) → Bool = λ v. holds (extra extra_operators.NotEqual an_extra) v in
    same f (λ v. one v && other v) (λ v. e v ∙ sym (and_not (one v))) (of_both one other (of_test (extra extra_operators.Equal an_extra) tt) (of_test (extra extra_operators.NotEqual an_extra) tt))

-- ---- values between cuts

-- plain comparisons decide whether the variable is before a point
abbrev Halves : (Valuation → Bool) → Type 0
Halves before = IsReadableTruth before × IsReadableTruth (λ v. not (before v))

module _ {C : Type 0} (before : C → Valuation → Bool) (means : NodeId → Valuation → Bool) where
  chosen : (b : Bool) (x y : NodeId) (v : Valuation) → means (cond b x y) v ≡ cond b (means x v) (means y v)
  chosen b x y v = grind arith

  between : (first : NodeId) (steps : List (C × NodeId)) → IsReadableTruth (means first) → AllByRecursion (λ s. Halves (before s.0)) steps → AllByRecursion (λ s. IsReadableTruth (means s.1)) steps →
      IsReadableTruth (λ v. means (value_at (λ c. before c v) first steps) v)
  between first [] r halves children = r
  between first (s ∷ steps) r halves children =
      let later : (v : Valuation) → NodeId = λ v. value_at (λ c. before c v) s.1 steps in
      same (λ v. means (cond (before s.0 v) first (later v)) v) (λ v. cond (before s.0 v) (means first v) (means (later v) v)) (λ v. chosen (before s.0 v) first (later v) v)
      (of_choice (before s.0) (means first) (λ v. means (later v) v) halves.0.0 halves.0.1 r (between s.1 steps children.0 halves.1 children.1))

-- each value has a point of its own
module _ {K C V : Type 0} {cmp : K → K → Ordering} (o : IsTotalOrder cmp) (pt : C → Point K) (P : V → Type 0) where
  abbrev value : Point K → V → List (C × V) → V
  value p v xs = value_at (λ c. point_lt cmp p (pt c)) v xs

  value_below : (p : Point K) (v : V) (xs : List (C × V)) → Ascends o pt [] p xs → value p v xs ≡ v
  value_below p v [] a = refl
  value_below p v (s ∷ xs) a = ap (λ b. cond b v (value p s.1 xs)) a.0

  first_value : (p : Point K) (v : V) (xs : List (C × V)) → Ascends o pt [] p xs → P (value p v xs) → P v
  first_value p v xs a h = subst P (value_below p v xs a) h

  later_values : (low : Point K) (v : V) (xs : List (C × V)) → Ascends o pt [] low xs → ((p : Point K) → point_lt cmp p low ≡ false → P (value p v xs)) → AllByRecursion (λ s. P s.1) xs
  later_values low v [] a h = tt
  later_values low v (s ∷ xs) a h = (
    subst P (ap (λ b. cond b v (value (pt s.0) s.1 xs)) (not_itself o pt [] (pt s.0)) ∙ value_below (pt s.0) s.1 xs a.1) (h (pt s.0) (no_back o pt [] low (pt s.0) a.0)),
    later_values (pt s.0) s.1 xs a.1 (λ p e. subst P (ap (λ b. cond b v (value p s.1 xs)) e) (h p (stays o pt [] low (pt s.0) p a.0 e))),
  )

each_passes : {C V : Type 0} → (P : C → Type 0) (ok : C → Bool) → ((c : C) → ok c ≡ true → P c) → (xs : List (C × V)) → list_all (λ s. ok s.0) xs ≡ true → AllByRecursion (λ s. P s.0) xs
each_passes P ok k [] h = tt
each_passes P ok k (s ∷ xs) h = let q = and_parts (ok s.0) (list_all (λ s. ok s.0) xs) h in (k s.0 q.0, each_passes P ok k xs q.1)

-- ---- cuts at releases

not_below : {T : Type 0} → (cmp : T → T → Ordering) (p : Point T) → point_lt cmp p bottom ≡ false
not_below cmp p = grind arith

module _ (w : Parts) (e : IsRelease w) (p : Point Parts) where
  less : point_lt version_cmp p (at w) ≡ is_in operators.LessThan w.release p
  less = sym (ap (λ b. not b && point_lt version_cmp p (at (release_only w.release))) (not_below version_cmp p) ∙ ap (λ (u : Parts). point_lt version_cmp p (at u)) (sym e))

  less_equal : point_lt version_cmp p (above w) ≡ is_in operators.LessThanEqual w.release p
  less_equal = sym (ap (λ b. not b && point_lt version_cmp p (above (release_only w.release))) (not_below version_cmp p) ∙ ap (λ (u : Parts). point_lt version_cmp p (above u)) (sym e))

  greater_equal : not (point_lt version_cmp p (at w)) ≡ is_in operators.GreaterThanEqual w.release p
  greater_equal = sym (and_true (not (point_lt version_cmp p (at (release_only w.release)))) ∙ ap (λ (u : Parts). not (point_lt version_cmp p (at u))) (sym e))

  greater : not (point_lt version_cmp p (above w)) ≡ is_in operators.GreaterThan w.release p
  greater = sym (and_true (not (point_lt version_cmp p (above (release_only w.release)))) ∙ ap (λ (u : Parts). not (point_lt version_cmp p (above u))) (sym e))

of_version : (x : VersionVariable) (o : Operator) (w : Parts) → IsReadableTruth (λ v. is_in o w.release (v.version x))
of_version versions.ImplementationVersion o w = of_test (version version_keys.ImplementationVersion (record { operator = o; version = w })) tt
of_version versions.PythonFullVersion o w = of_test (version version_keys.PythonFullVersion (record { operator = o; version = w })) tt

version_halves : (x : VersionVariable) (w : Parts) → IsRelease w → (b : Bool) → Halves (λ v. point_lt version_cmp (v.version x) (cond b (above w) (at w)))
version_halves x w e true = (
  same (λ v. point_lt version_cmp (v.version x) (above w)) (λ v. is_in operators.LessThanEqual w.release (v.version x)) (λ v. less_equal w e (v.version x)) (of_version x operators.LessThanEqual w),
  same (λ v. not (point_lt version_cmp (v.version x) (above w))) (λ v. is_in operators.GreaterThan w.release (v.version x)) (λ v. greater w e (v.version x)) (of_version x operators.GreaterThan w),
)
version_halves x w e false = (
  same (λ v. point_lt version_cmp (v.version x) (at w)) (λ v. is_in operators.LessThan w.release (v.version x)) (λ v. less w e (v.version x)) (of_version x operators.LessThan w),
  same (λ v. not (point_lt version_cmp (v.version x) (at w))) (λ v. is_in operators.GreaterThanEqual w.release (v.version x)) (λ v. greater_equal w e (v.version x)) (of_version x operators.GreaterThanEqual w),
)

-- ---- cuts at plain texts

gt_is : (r : Ordering) → not (is_le r) ≡ is_gt r
gt_is r = grind arith

ge_is : (r : Ordering) → not (is_lt r) ≡ is_ge r
ge_is r = grind arith

until : (p : Point (List ℕ)) (t : List ℕ) → point_lt text_cmp p (above t) ≡ is_le (point_cmp text_cmp p (at t))
until p t = grind arith

modern : (x : TextVariable) → variable_of (modern_key x) ≡ x
modern x = grind arith

module _ (x : TextVariable) (t : List ℕ) (plain : is_plain t ≡ true) where
  of_text : (o : MarkerOperator) (f : TextVariable → Valuation → Bool) → ((v : Valuation) → holds (text (modern_key x) o t) v ≡ f (variable_of (modern_key x)) v) → IsReadableTruth (f x)
  of_text o f e = subst (λ (y : TextVariable). IsReadableTruth (f y)) (modern x) (same (f (variable_of (modern_key x))) (λ v. holds (text (modern_key x) o t) v) (λ v. sym (e v)) (of_test (text (modern_key x) o t) plain))

  text_halves : (b : Bool) → Halves (λ v. point_lt text_cmp (v.text x) (cond b (above t) (at t)))
  text_halves true = (
    of_text text_operators.LessEqual (λ y v. point_lt text_cmp (v.text y) (above t)) (λ v. sym (until (v.text (variable_of (modern_key x))) t)),
    of_text text_operators.GreaterThan (λ y v. not (point_lt text_cmp (v.text y) (above t)))
        (λ v. sym (ap not (until (v.text (variable_of (modern_key x))) t) ∙ gt_is (point_cmp text_cmp (v.text (variable_of (modern_key x))) (at t)))),
  )
  text_halves false = (
    of_text text_operators.LessThan (λ y v. point_lt text_cmp (v.text y) (at t)) (λ v. refl),
    of_text text_operators.GreaterEqual (λ y v. not (point_lt text_cmp (v.text y) (at t))) (λ v. sym (ge_is (point_cmp text_cmp (v.text (variable_of (modern_key x))) (at t)))),
  )

-- ---- the value of a substring test or an extra

answered : (x : TruthVariable) (high low : NodeId) → IsPlainNode (Truth x high low) → Halves (answer x)
answered (questions.In x t) high low plain = (
  of_text x (string_bytes t) plain text_operators.In (λ y v. v.inside y (string_bytes t)) (λ v. refl),
  of_text x (string_bytes t) plain text_operators.NotIn (λ y v. not (v.inside y (string_bytes t))) (λ v. refl),
)
answered (questions.Contains x t) high low plain = (
  of_text x (string_bytes t) plain text_operators.Contains (λ y v. v.contains y (string_bytes t)) (λ v. refl),
  of_text x (string_bytes t) plain text_operators.NotContains (λ y v. not (v.contains y (string_bytes t))) (λ v. refl),
)
answered (questions.Extra n) high low plain = (of_test (extra extra_operators.Equal (name n)) tt, of_test (extra extra_operators.NotEqual (name n)) tt)
answered (questions.Arbitrary t) high low plain = (
  of_test (extra extra_operators.Equal (arbitrary (string_bytes t))) plain,
  of_test (extra extra_operators.NotEqual (arbitrary (string_bytes t))) plain,
)

-- ---- nodes, from the oldest on

module _ (nodes : List Node) (store : IsStore markers nodes) where
  -- each node of the id is plain
  abbrev IsPlainBelow : NodeId → Type 0
  IsPlainBelow t = (s : NodeId) (n : Node) → residue.IsSubtree markers nodes t s → node_of nodes s ≡ Some n → IsPlainNode n

  module _ (t : NodeId) (held : IsHeld nodes t) (plain : IsPlainBelow t) (earlier : (u : NodeId) → place_of u < place_of t → IsHeld nodes u → IsPlainBelow u → IsReadableTruth (truth markers nodes u)) where
    -- what a child means below the sign of the id
    abbrev means : NodeId → Valuation → Bool
    means u v = truth markers nodes (signed_id (is_negated t) u) v

    child_readable : (n : Node) → node_of nodes t ≡ Some n → (v : Valuation) → IsReadableTruth (means (child_of n v))
    child_readable n node v =
        let u : NodeId = signed_id (is_negated t) (child_of n v) in
        let below = (store.node (place_of t) n node).below v in
        let sub = residue.child t u n v residue.itself node refl in
        earlier u below (omega (arith, below, held)) (λ s m r e. plain s m (subtree_both markers nodes t u s sub r) e)

    by_child : (n : Node) → node_of nodes t ≡ Some n → (v : Valuation) → truth markers nodes t v ≡ means (child_of n v) v
    by_child n node v = truth_child markers nodes t n v (descends markers lawful nodes store) node

    node_readable : (n : Node) → node_of nodes t ≡ Some n → IsPlainNode n → IsReadableTruth (λ v. means (child_of n v) v)
    node_readable (Version x cuts) node releases =
        let ascends = ascend (λ v. v) version_cmp version_cmp version_total [] (λ a b. refl) bottom cuts.rest.items cuts.ascending in
        let child = λ (p : Point Parts). child_readable (Version x cuts) node (everywhere p) in
        between (λ (c : Cut Parts) v. point_lt version_cmp (v.version x) (cut_point (λ u. u) c)) means cuts.first cuts.rest.items
        (first_value version_total (cut_point (λ u. u)) (λ u. IsReadableTruth (means u)) bottom cuts.first cuts.rest.items ascends (child bottom))
        (each_passes (λ c. Halves (λ v. point_lt version_cmp (v.version x) (cut_point (λ u. u) c))) (λ c. is_release c.value) (λ c e. version_halves x c.value ((release-means c.value).0 e) c.above) cuts.rest.items releases)
        (later_values version_total (cut_point (λ u. u)) (λ u. IsReadableTruth (means u)) bottom cuts.first cuts.rest.items ascends (λ p e. child p))
    node_readable (Text x cuts) node plains =
        let ascends = ascend string_bytes string_cmp text_cmp nat_list_cmp_total [] (λ a b. refl) bottom cuts.rest.items cuts.ascending in
        let child = λ (p : Point (List ℕ)). child_readable (Text x cuts) node (all_texts p) in
        between (λ (c : Cut (String Global)) v. point_lt text_cmp (v.text x) (cut_point string_bytes c)) means cuts.first cuts.rest.items
        (first_value nat_list_cmp_total (cut_point string_bytes) (λ u. IsReadableTruth (means u)) bottom cuts.first cuts.rest.items ascends (child bottom))
        (each_passes (λ c. Halves (λ v. point_lt text_cmp (v.text x) (cut_point string_bytes c))) (λ c. is_plain (string_bytes c.value)) (λ c e. text_halves x (string_bytes c.value) e c.above) cuts.rest.items plains)
        (later_values nat_list_cmp_total (cut_point string_bytes) (λ u. IsReadableTruth (means u)) bottom cuts.first cuts.rest.items ascends (λ p e. child p))
    node_readable (Truth x high low) node asked =
        let halves = answered x high low asked in
        same (λ v. means (cond (answer x v) high low) v) (λ v. cond (answer x v) (means high v) (means low v)) (λ v. chosen (λ (c : Bool) v'. c) means (answer x v) high low v)
        (of_choice (answer x) (means high) (means low) halves.0 halves.1
        (subst (λ u. IsReadableTruth (means u)) (high_picked x high low) (child_readable (Truth x high low) node lowest))
        (subst (λ u. IsReadableTruth (means u)) (low_picked x high low) (child_readable (Truth x high low) node denied)))

    readable : (found : Option Node) → node_of nodes t ≡ found → IsReadableTruth (truth markers nodes t)
    readable None e = of_constant (signed (is_negated t) true) (truth markers nodes t) (λ v. ap (signed (is_negated t)) (truth_free markers nodes (place_of t) v e))
    readable (Some n) e = same (truth markers nodes t) (λ v. means (child_of n v) v) (by_child n e) (node_readable n e (plain t n residue.itself e))

  below : (bound : ℕ) (t : NodeId) → place_of t < bound → IsHeld nodes t → IsPlainBelow t → IsReadableTruth (truth markers nodes t)
  below zero t l held plain = absurd (omega (arith, l))
  below (suc bound) t l held plain = readable t held plain (λ u k h p. below bound u (omega (arith, l, k)) h p) (node_of nodes t) refl

  -- a readable id means a formula of plain comparisons
  pub readable_means : (t : NodeId) → IsHeld nodes t → IsPlainBelow t → IsReadableTruth (truth markers nodes t)
  readable_means t held plain = below (suc (place_of t)) t (omega arith) held plain
